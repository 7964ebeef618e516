-- What fields are read as.
use Rattle.std.proofs.Common.{◌≡◌, ◌∙◌, ℕ, ℤ, ◌<◌, ◌^◌, pos, negsuc, Bool, true, false, List, [], ◌∷◌, Option, Some, None, Ok, nat_lt, cond, inl, refl, ap, subst, arith, w32, w64}
use Rattle.std.specs.Int.RustNames.{FitsSigned}
use Rattle.std.specs.Str.{IsUtf8}
use Rattle.std.proofs.lemmas.Bool.Decides.{nat_tests}
use Rattle.std.proofs.lemmas.Int.{ints}
use Rattle.std.specs.Result.{result_ok}
use Rattle.base64.specs.Engines.{standard}
use Rattle.base64.specs.GeneralPurpose as base64
use Rattle.hex.specs.Hex.{IsBytes}
use Rattle.pdata_value.specs.Numeral.{IsSpelling}
use Rattle.pdata_value.specs.Scan.{is_spelling}
use Rattle.pdata_value.proofs.Numerals.{is_spelled}
use Rattle.json_text.specs.Kinds.{as_text, as_number, as_items, as_members}
use Rattle.json_text.specs.declared.json.Json.{Json}
use Rattle.otlp_json.specs.declared.error.PayloadKind.{PayloadKind}
use Rattle.otlp_json.specs.declared.error.PayloadKind.TheVariants.{WrongKind, BadNumber, BadId, BadBase64}
use Rattle.otlp_json.specs.Reads.{Read, or_wrong}
use Rattle.otlp_json.specs.Fields.{text_in, items_in, members_in, spelled_in, numeral_in, whole, below, around, u64_in, u32_in, i64_in, i32_in, id_bytes, id_in, bytes_in, double_by, double_in}
use Rattle.otlp_json.specs.WellFormed.{IsId}
use Rattle.otlp_json.proofs.Measured.{first_read, same_read}
use Rattle.payload_laws.proofs.DecodedBytes.{utf8_bytes, sized_bytes, zero_bytes, base64_bytes}
use Rattle.payload_laws.proofs.ReadJson.{Good, GoodItems, GoodMembers, text_good, number_good, items_good, members_good}

-- a field that is read of a good value has this property
abbrev pub FieldGives : {F : Type 0} → (F → Type 0) → (Json → Read F) → Type 0
FieldGives {F} P read = (json : Json) (f : F) → Good json → read json ≡ Ok f → P f

-- what was there
pub found : {X : Type 0} (kind : PayloadKind) (at : ℕ) (o : Option X) (x : X) → or_wrong kind at o ≡ Ok x → o ≡ Some x
found kind at None x is = absurd (cc is)
found {X = X} kind at (Some y) x is = ap Some (same_read {Y = X} y x is)

same_some : {X : Type 0} (x y : X) → Some x ≡ Some y → x ≡ y
same_some x y is = cc

pub text-gives : FieldGives IsUtf8 text_in
unfolding text_in
text-gives json text good is = text_good json text good (found WrongKind json.at (as_text json) text is)

pub items-give : FieldGives GoodItems items_in
unfolding items_in
items-give json js good is = items_good json js good (found WrongKind json.at (as_items json) js is)

pub members-give : FieldGives GoodMembers members_in
unfolding members_in
members-give json ms good is = members_good json ms good (found WrongKind json.at (as_members json) ms is)

-- Whole numbers.

less : (n limit : ℕ) → nat_lt n limit ≡ true → n < limit
less n limit is = grind (arith, nat_tests)

module _ (limit : ℕ) where
  below_by : (n m : ℕ) (t : Bool) → nat_lt n limit ≡ t → cond t (Some n) None ≡ Some m → m < limit
  below_by n m true small is = subst (λ (k : ℕ). k < limit) (same_some n m is) (less n limit small)
  below_by n m false small is = absurd (cc is)

  below_limit : (o : Option ℤ) (m : ℕ) → below limit o ≡ Some m → m < limit
  below_limit (Some (pos n)) m is = below_by n m (nat_lt n limit) refl is
  below_limit (Some (negsuc n)) m is = absurd (cc is)
  below_limit None m is = absurd (cc is)

  -- from minus the limit to below it
  abbrev Around : ℤ → Type 0
  Around (pos n) = n < limit
  Around (negsuc n) = n < limit

  around_by : (n : ℕ) (y z : ℤ) (t : Bool) → nat_lt n limit ≡ t → (n < limit → Around y) → cond t (Some y) None ≡ Some z → Around z
  around_by n y z true small there is = subst Around (same_some y z is) (there (less n limit small))
  around_by n y z false small there is = absurd (cc is)

  around_limit : (o : Option ℤ) (z : ℤ) → around limit o ≡ Some z → Around z
  around_limit (Some (pos n)) z is = around_by n (pos n) z (nat_lt n limit) refl (λ h. h) is
  around_limit (Some (negsuc n)) z is = around_by n (negsuc n) z (nat_lt n limit) refl (λ h. h) is
  around_limit None z is = absurd (cc is)

fits-64 : (z : ℤ) → Around (2 ^ 63) z → FitsSigned w64 z
fits-64 (pos n) h = omega (arith, ints)
fits-64 (negsuc n) h = omega (arith, ints)

fits-32 : (z : ℤ) → Around (2 ^ 31) z → FitsSigned w32 z
fits-32 (pos n) h = omega (arith, ints)
fits-32 (negsuc n) h = omega (arith, ints)

pub u64-gives : FieldGives (λ n. n < 2 ^ 64) u64_in
unfolding u64_in
u64-gives json n good is =
    let text = first_read {A = List ℕ} {B = ℕ} (spelled_in json) (λ text. or_wrong BadNumber json.at (below (2 ^ 64) (whole text))) n is in
    below_limit (2 ^ 64) (whole text.0) n (found BadNumber json.at (below (2 ^ 64) (whole text.0)) n text.2)

pub u32-gives : FieldGives (λ n. n < 2 ^ 32) u32_in
unfolding u32_in
u32-gives json n good is =
    let text = first_read {A = List ℕ} {B = ℕ} (spelled_in json) (λ text. or_wrong BadNumber json.at (below (2 ^ 32) (whole text))) n is in
    below_limit (2 ^ 32) (whole text.0) n (found BadNumber json.at (below (2 ^ 32) (whole text.0)) n text.2)

pub i64-gives : FieldGives (FitsSigned w64) i64_in
unfolding i64_in
i64-gives json z good is =
    let text = first_read {A = List ℕ} {B = ℤ} (spelled_in json) (λ text. or_wrong BadNumber json.at (around (2 ^ 63) (whole text))) z is in
    fits-64 z (around_limit (2 ^ 63) (whole text.0) z (found BadNumber json.at (around (2 ^ 63) (whole text.0)) z text.2))

pub i32-gives : FieldGives (FitsSigned w32) i32_in
unfolding i32_in
i32-gives json z good is =
    let text = first_read {A = List ℕ} {B = ℤ} (numeral_in json) (λ text. or_wrong BadNumber json.at (around (2 ^ 31) (whole text))) z is in
    fits-32 z (around_limit (2 ^ 31) (whole text.0) z (found BadNumber json.at (around (2 ^ 31) (whole text.0)) z text.2))

-- Ids, bytes and doubles.

id_of : (size : ℕ) (text id : List ℕ) → id_bytes size text ≡ Some id → IsId size id
id_of size [] id is = subst (IsId size) (same_some _ id is) (zero_bytes size)
id_of size (b ∷ bs) id is = sized_bytes (b ∷ bs) size id is

pub id-gives : (size : ℕ) → FieldGives (IsId size) (id_in size)
unfolding id_in
id-gives size json id good is =
    let text = first_read {A = List ℕ} {B = List ℕ} (text_in json) (λ text. or_wrong BadId json.at (id_bytes size text)) id is in
    id_of size text.0 id (found BadId json.at (id_bytes size text.0) id text.2)

pub bytes-give : FieldGives IsBytes bytes_in
unfolding bytes_in
bytes-give json bytes good is =
    let text = first_read {A = List ℕ} {B = List ℕ} (text_in json) (λ text. or_wrong BadBase64 json.at (result_ok (base64.decode_of standard text))) bytes is in
    base64_bytes text.0 bytes (utf8_bytes text.0 (text-gives json text.0 good text.1)) (found BadBase64 json.at (result_ok (base64.decode_of standard text.0)) bytes text.2)

spelled_by : (text spelling : List ℕ) (t : Bool) → is_spelling text ≡ t → cond t (Some text) None ≡ Some spelling → IsSpelling spelling
spelled_by text spelling true is same = subst IsSpelling (same_some text spelling same) (is_spelled text is)
spelled_by text spelling false is same = absurd (cc same)

pub double-gives : FieldGives IsSpelling double_in
unfolding double_in
double-gives json spelling good is = by (as_number json) (as_text json) refl is where
  by : (number text : Option (List ℕ)) → as_number json ≡ number → double_by json.at number text ≡ Ok spelling → IsSpelling spelling
  by (Some numeral) text there read =
      let same : numeral ≡ spelling = same_read {Y = List ℕ} numeral spelling read in
      inl (number_good json spelling good (there ∙ ap Some same))
  by None (Some text) there read = spelled_by text spelling (is_spelling text) refl (found BadNumber json.at (cond (is_spelling text) (Some text) None) spelling read)
  by None None there read = absurd (cc read)
