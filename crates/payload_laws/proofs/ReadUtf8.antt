-- What is read as JSON is UTF-8.
use Rattle.std.proofs.Common.{◌≡◌, ℕ, zero, suc, Bool, true, false, List, length, take, Ok, Err, refl, subst, arith, cond}
use Rattle.std.specs.Prelude.{◌==◌}
use Rattle.std.specs.Str.{IsUtf8, is_utf8}
use Rattle.std.specs.Str.Lossy.{utf8_valid_len, valid_len_up_to}
use Rattle.std.proofs.Math.Seq.{take-length}
use Rattle.std.proofs.lemmas.Bool.Decides.{nat_tests}
use Rattle.std.proofs.lemmas.Str.{IsUtf8-nil, IsUtf8-from_is_utf8}
use Rattle.json_text.specs.Reading.{json_text, document}
use Rattle.json_text.specs.declared.json.Json.{Json}
use Rattle.json_text.specs.declared.error.JsonFault.{JsonFault}

-- the front that is found is UTF-8
front_utf8 : (bs : List ℕ) (n : ℕ) → IsUtf8 (take (valid_len_up_to bs n) bs)
front_utf8 bs zero = IsUtf8-nil
front_utf8 bs (suc n) = by (is_utf8 (take (suc n) bs)) refl (front_utf8 bs n) where
  by : (t : Bool) → is_utf8 (take (suc n) bs) ≡ t → IsUtf8 (take (valid_len_up_to bs n) bs) → IsUtf8 (take (cond t (suc n) (valid_len_up_to bs n)) bs)
  by true is below = IsUtf8-from_is_utf8 (take (suc n) bs) is
  by false is below = below

same_number : (a b : ℕ) → (a == b) ≡ true → a ≡ b
same_number a b is = grind (arith, nat_tests)

whole_utf8 : (bs : List ℕ) → (utf8_valid_len bs == length bs) ≡ true → IsUtf8 bs
unfolding utf8_valid_len
whole_utf8 bs is =
    subst IsUtf8 (take-length bs) (subst (λ (n : ℕ). IsUtf8 (take n bs)) (same_number (utf8_valid_len bs) (length bs) is) (front_utf8 bs (length bs)))

-- what is read as JSON
pub read_utf8 : (bytes : List ℕ) (depth : ℕ) (json : Json) → json_text bytes depth ≡ Ok json → IsUtf8 bytes
read_utf8 bytes depth json is = by (utf8_valid_len bytes == length bytes) _ refl is where
  by : (t : Bool) (fault : JsonFault) → (utf8_valid_len bytes == length bytes) ≡ t → cond t (document depth bytes) (Err fault) ≡ Ok json → IsUtf8 bytes
  by true fault is_utf8 read = whole_utf8 bytes is_utf8
  by false fault is_utf8 read = absurd (cc read)
