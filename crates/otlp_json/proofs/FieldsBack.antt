-- What a field is written as is read as the field.
use Rattle.std.proofs.Common.{◌≡◌, ◌∙◌, ℕ, ℤ, zero, suc, ◌+◌, ◌*◌, ◌-◌, ◌<◌, ◌≤◌, ◌^◌, ◌==◌, Bool, true, false, List, [], ◌∷◌, length, get_or, Option, Some, Ok, nat_lt, refl, ap, arith, cond, pos, negsuc, replicate, SFits, w32, w64}
use Rattle.std.specs.Prelude.{◌&&◌, option_map}
use Rattle.std.specs.List.{list_all}
use Rattle.std.specs.Result.{result_ok}
use Rattle.std.specs.Char.{digit_value}
use Rattle.std.specs.Fmt as fmt
use Rattle.std.specs.Str.Parse.{AllDigits, digits_value, digits_value_after}
use Rattle.std.proofs.lemmas.Bool.Decides.{nat_tests}
use Rattle.std.proofs.lemmas.Int.{ints}
use Rattle.std.proofs.lemmas.Fmt.{decimal_is_IsNumeral, decimal_digit, first_decimal}
use Rattle.std.proofs.lemmas.Str.{digit_value_digit}
use Rattle.std.proofs.lemmas.Str.Parse.{digit_from_value}
use Rattle.hex.specs.Hex.{IsBytes, encode_lower, encode_with}
use Rattle.hex.proofs.HexLemmas.{decode_sized-encode_lower}
use Rattle.base64.specs.Engines.{standard}
use Rattle.base64.specs.GeneralPurpose as base64
use Rattle.base64.proofs.EngineFacts.{decode_of-encode_of}
use Rattle.pdata_value.specs.Numeral.{is_digit, IsSpelling}
use Rattle.pdata_value.proofs.Numerals.{spelled_is}
use Rattle.json_text.proofs.KindLemmas.{as_text-Text, as_truth-Truth, as_number-Number}
use Rattle.otlp_json.specs.declared.error.PayloadKind.TheVariants.{WrongKind, BadNumber, BadId, BadBase64}
use Rattle.otlp_json.specs.Reads.{Read, or_wrong, ◌>>=◌}
use Rattle.otlp_json.specs.Fields.{text_in, truth_in, numeral_in, decimal, digits, negative, whole, below, around, u64_in, u32_in, i64_in, i32_in, id_bytes, id_in, bytes_in, double_in}
use Rattle.otlp_json.specs.Line.{text_json, number_json, truth_json, is_word, double_json}
use Rattle.otlp_json.proofs.PlaceFree.{spelled_in-Number, spelled_in-Text, double_in-Number, double_in-Text}

pub text_back : (t : List ℕ) → text_in (text_json t) ≡ Ok t
unfolding text_in
text_back t = ap (or_wrong WrongKind 0) (as_text-Text (text_json t) t refl)

pub truth_back : (b : Bool) → truth_in (truth_json b) ≡ Ok b
unfolding truth_in
truth_back b = ap (or_wrong WrongKind 0) (as_truth-Truth (truth_json b) b refl)

numeral_back : (t : List ℕ) → numeral_in (number_json t) ≡ Ok t
unfolding numeral_in
numeral_back t = ap (or_wrong WrongKind 0) (as_number-Number (number_json t) t refl)

-- Whole numbers.

is_digit-is : (b : ℕ) → 48 ≤ b → b ≤ 57 → is_digit b ≡ true
is_digit-is b low high = grind (arith, nat_tests)

pub less-is : (a b : ℕ) → a < b → nat_lt a b ≡ true
less-is a b h = grind (arith, nat_tests)

other-is : (a b : ℕ) → a < b → (b == a) ≡ false
other-is a b h = grind (arith, nat_tests)

decimal-is : (front : ℕ) (ds : List ℕ) → AllDigits 10 ds → decimal front ds ≡ Some (digits_value_after 10 front ds)
decimal-is front [] d = refl
decimal-is front (b ∷ bs) d =
    let k = digit_from_value b d.0 in
    let same : front * 10 + (b - 48) ≡ front * 10 + digit_value b = omega (arith, digit_value_digit b k) in
    rw (is_digit-is b (omega (arith, k)) (omega (arith, k)), same) (decimal-is (front * 10 + digit_value b) bs d.1)

digits-is : (ds : List ℕ) → AllDigits 10 ds → 0 < length ds → 48 < get_or ds 0 0 → digits ds ≡ Some (digits_value 10 ds)
digits-is [] d some lead = absurd (omega arith)
digits-is (b ∷ []) d some lead = decimal-is 0 (b ∷ []) d
digits-is (b ∷ c ∷ cs) d some lead = rw (less-is 48 b lead) (decimal-is 0 (b ∷ c ∷ cs) d)

digits-decimal : (n : ℕ) → n < 2 ^ 64 → digits (fmt.decimal n) ≡ Some n
digits-decimal zero small = rw (decimal_digit 0 (omega arith)) refl
digits-decimal (suc n) small =
    let k = decimal_is_IsNumeral (suc n) small in
    rw (digits-is (fmt.decimal (suc n)) k.0.1 k.0.0 (first_decimal (suc n) (omega arith) small), k.1) refl

whole-is : (ds : List ℕ) → AllDigits 10 ds → 0 < length ds → whole ds ≡ option_map pos (digits ds)
whole-is [] d some = absurd (omega arith)
whole-is (b ∷ bs) d some =
    let k = digit_from_value b d.0 in
    rw (other-is 45 b (omega (arith, k))) refl

whole-decimal : (n : ℕ) → n < 2 ^ 64 → whole (fmt.decimal n) ≡ Some (pos n)
whole-decimal n small =
    let k = decimal_is_IsNumeral n small in
    whole-is (fmt.decimal n) k.0.1 k.0.0 ∙ ap (option_map pos) (digits-decimal n small)

minus-is : (n : ℕ) → negative (suc n) ≡ negsuc n
minus-is n =
    let e : suc n - 1 ≡ n = omega arith in
    rw (other-is 0 (suc n) (omega arith), e) refl

pub below-decimal : (limit n : ℕ) → n < limit → n < 2 ^ 64 → below limit (whole (fmt.decimal n)) ≡ Some n
below-decimal limit n fits small = rw (whole-decimal n small, less-is n limit fits) refl

pub whole-signed : (z : ℤ) → SFits w64 z → whole (fmt.signed_decimal z) ≡ Some z
whole-signed (pos n) fits = whole-decimal n (omega (arith, ints))
whole-signed (negsuc n) fits =
    let small : suc n < 2 ^ 64 = omega (arith, ints) in
    ap (option_map negative) (digits-decimal (suc n) small) ∙ ap Some (minus-is n)

around-64 : (z : ℤ) → SFits w64 z → around (2 ^ 63) (Some z) ≡ Some z
around-64 (pos n) fits =
    let small : n < 2 ^ 63 = omega (arith, ints) in
    rw (less-is n (2 ^ 63) small) refl
around-64 (negsuc n) fits =
    let small : n < 2 ^ 63 = omega (arith, ints) in
    rw (less-is n (2 ^ 63) small) refl

around-32 : (z : ℤ) → SFits w32 z → around (2 ^ 31) (Some z) ≡ Some z
around-32 (pos n) fits =
    let small : n < 2 ^ 31 = omega (arith, ints) in
    rw (less-is n (2 ^ 31) small) refl
around-32 (negsuc n) fits =
    let small : n < 2 ^ 31 = omega (arith, ints) in
    rw (less-is n (2 ^ 31) small) refl

wider : (z : ℤ) → SFits w32 z → SFits w64 z
wider z fits = search (arith, ints)

-- Numbers as they are written.

pub u64_back : (n : ℕ) → n < 2 ^ 64 → u64_in (text_json (fmt.decimal n)) ≡ Ok n
unfolding u64_in
u64_back n small =
    let t = fmt.decimal n in
    ap (λ (r : Read (List ℕ)). r >>= λ text. or_wrong BadNumber 0 (below (2 ^ 64) (whole text))) (spelled_in-Text (text_json t) t refl)
    ∙ ap (or_wrong BadNumber 0) (below-decimal (2 ^ 64) n small small)

pub u32_back : (n : ℕ) → n < 2 ^ 32 → u32_in (number_json (fmt.decimal n)) ≡ Ok n
unfolding u32_in
u32_back n small =
    let t = fmt.decimal n in
    ap (λ (r : Read (List ℕ)). r >>= λ text. or_wrong BadNumber 0 (below (2 ^ 32) (whole text))) (spelled_in-Number (number_json t) t refl)
    ∙ ap (or_wrong BadNumber 0) (below-decimal (2 ^ 32) n small (omega arith))

pub i64_back : (z : ℤ) → SFits w64 z → i64_in (text_json (fmt.signed_decimal z)) ≡ Ok z
unfolding i64_in
i64_back z fits =
    let t = fmt.signed_decimal z in
    ap (λ (r : Read (List ℕ)). r >>= λ text. or_wrong BadNumber 0 (around (2 ^ 63) (whole text))) (spelled_in-Text (text_json t) t refl)
    ∙ ap (λ (o : Option ℤ). or_wrong BadNumber 0 (around (2 ^ 63) o)) (whole-signed z fits) ∙ ap (or_wrong BadNumber 0) (around-64 z fits)

pub i32_back : (z : ℤ) → SFits w32 z → i32_in (number_json (fmt.signed_decimal z)) ≡ Ok z
unfolding i32_in
i32_back z fits =
    let t = fmt.signed_decimal z in
    ap (λ (r : Read (List ℕ)). r >>= λ text. or_wrong BadNumber 0 (around (2 ^ 31) (whole text))) (numeral_back t)
    ∙ ap (λ (o : Option ℤ). or_wrong BadNumber 0 (around (2 ^ 31) o)) (whole-signed z (wider z fits)) ∙ ap (or_wrong BadNumber 0) (around-32 z fits)

-- Ids, bytes and doubles.

id_digits : (size : ℕ) (id : List ℕ) → list_all (λ b. b == 0) id ≡ false → length id ≡ size → IsBytes id → id_bytes size (encode_lower id) ≡ Some id
unfolding encode_with
id_digits size [] some sized bytes = absurd cc
id_digits size (b ∷ bs) some sized bytes = ap result_ok (decode_sized-encode_lower (b ∷ bs) size sized bytes)

pub id_back : (size : ℕ) (id : List ℕ) → list_all (λ b. b == 0) id ≡ false → length id ≡ size → IsBytes id → id_in size (text_json (encode_lower id)) ≡ Ok id
unfolding id_in
id_back size id some sized bytes =
    ap (λ (r : Read (List ℕ)). r >>= λ text. or_wrong BadId 0 (id_bytes size text)) (text_back (encode_lower id))
    ∙ ap (or_wrong BadId 0) (id_digits size id some sized bytes)

zero_is : (n : ℕ) → (n == 0) ≡ true → n ≡ 0
zero_is n is = grind (arith, nat_tests)

zero_step : (b : ℕ) (bs : List ℕ) (t : Bool) → (b == 0) ≡ t → (t && list_all (λ c. c == 0) bs) ≡ true → (b ≡ 0) × (list_all (λ c. c == 0) bs ≡ true)
zero_step b bs true is all = (zero_is b is, all)
zero_step b bs false is all = absurd cc

zeros : (id : List ℕ) → list_all (λ b. b == 0) id ≡ true → id ≡ replicate (length id) 0
zeros [] all = refl
zeros (b ∷ bs) all =
    let parts = zero_step b bs (b == 0) refl all in
    ap (λ (c : ℕ). c ∷ bs) parts.0 ∙ ap (λ (l : List ℕ). 0 ∷ l) (zeros bs parts.1)

-- an id of zeros alone
pub zeros_are : (size : ℕ) (id : List ℕ) → list_all (λ b. b == 0) id ≡ true → length id ≡ size → id ≡ replicate size 0
zeros_are size id all sized = zeros id all ∙ ap (λ (n : ℕ). replicate n 0) sized

pub bytes_back : (b : List ℕ) → IsBytes b → bytes_in (text_json (base64.encode_of standard b)) ≡ Ok b
unfolding bytes_in
bytes_back b bytes =
    ap (λ (r : Read (List ℕ)). r >>= λ text. or_wrong BadBase64 0 (result_ok (base64.decode_of standard text))) (text_back (base64.encode_of standard b))
    ∙ ap (λ r. or_wrong BadBase64 0 (result_ok r)) (decode_of-encode_of standard b refl bytes)

double_by_word : (s : List ℕ) (t : Bool) → is_word s ≡ t → IsSpelling s → double_in (cond t (text_json s) (number_json s)) ≡ Ok s
double_by_word s true is spelling = double_in-Text (text_json s) s refl ∙ rw (spelled_is s spelling) refl
double_by_word s false is spelling = double_in-Number (number_json s) s refl

pub double_back : (s : List ℕ) → IsSpelling s → double_in (double_json s) ≡ Ok s
double_back s spelling = double_by_word s (is_word s) refl spelling
