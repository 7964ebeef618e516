-- Scalars that are passed in the text are values of JSON.
use Rattle.std.proofs.Common.{◌≡◌, ◌∙◌, ℕ, Bool, true, false, Result, Ok, Err, refl, arith, cond, codes}
use Rattle.std.specs.Prelude.{List, ◌==◌, ◌||◌}
use Rattle.std.proofs.lemmas.Bool.Decides.{nat_tests}
use Rattle.pdata_value.specs.Numeral.{is_digit}
use Rattle.json_text.specs.Place.{Rest, head, past}
use Rattle.json_text.specs.Reading.{◌>>=◌, one_of, this, these, integer, fraction, exponent, passed, number_end, number, quoted, make, literal, scalar, value}
use Rattle.json_text.specs.declared.json.Json.{Json}
use Rattle.json_text.specs.declared.json.JsonKind.{JsonKind}
use Rattle.json_text.specs.declared.json.JsonKind.TheVariants as kinds
use Rattle.json_text.specs.declared.error.JsonFault.{JsonFault}
use Rattle.json_text.specs.declared.error.JsonFault.TheVariants.{BadJson}
use Rattle.json_text.proofs.Turns.{cond-true, cond-false}
use Rattle.json_text.proofs.Numerals.{bind_ok}
use Rattle.json_text.proofs.Values.{value-scalar}
use Rattle.json_text.proofs.ValueBack.{make_read}

-- a value of this kind at a place
abbrev pub json_at : Rest → JsonKind → Json
json_at r kind = record { at = r.at; kind = kind }

byte_by : {X : Type 0} (b : ℕ) (r : Rest) (f : Rest → Result X JsonFault) (x : X) (t : Bool) → (head r == b) ≡ t → (cond t (Ok (past 1 r)) (Err (BadJson r.at)) >>= f) ≡ Ok x → head r ≡ b
byte_by b r f x true is read = grind (arith, nat_tests)
byte_by b r f x false is read = absurd cc

-- where a byte is passed first, it stands there
first_byte : {X : Type 0} (b : ℕ) (r : Rest) (f : Rest → Result X JsonFault) (x : X) → (this b r >>= f) ≡ Ok x → head r ≡ b
first_byte b r f x read = byte_by b r f x (head r == b) refl read

same_byte : (b c : ℕ) → b ≡ c → (b == c) ≡ true
same_byte b c h = grind (arith, nat_tests)

other_byte : (b c d : ℕ) → b ≡ c → (c == d) ≡ false → (b == d) ≡ false
other_byte b c d h other = grind (arith, nat_tests)

not_byte : (b c : ℕ) → (b == c) ≡ false → b ≡ c → ⊥
not_byte b c other is = absurd (grind (arith, nat_tests))

is_scalar : (depth : ℕ) (r : Rest) → (head r == 91) ≡ false → (head r == 123) ≡ false → value depth r ≡ scalar r
is_scalar depth r list object = value-scalar depth r (not_byte (head r) 91 list) (not_byte (head r) 123 object)

scalar-text : (r : Rest) → head r ≡ 34 → scalar r ≡ make r kinds.Text (quoted r)
unfolding scalar
scalar-text r is = cond-true (head r == 34) _ _ (same_byte (head r) 34 is)

pub text-spelled : (depth : ℕ) (r e : Rest) (t : List ℕ) → quoted r ≡ Ok (t, e) → value depth r ≡ Ok (json_at r (kinds.Text t), e)
text-spelled depth r e t read =
    let is : head r ≡ 34 = first_byte 34 r _ (t, e) read in
    is_scalar depth r (other_byte (head r) 34 91 is refl) (other_byte (head r) 34 123 is refl)
    ∙ scalar-text r is ∙ make_read r kinds.Text (quoted r) t e read

-- Words.

literal-read : (kind : JsonKind) (letters : List ℕ) (r e : Rest) → these letters r ≡ Ok e → make r (λ k. k) (literal kind letters r) ≡ Ok (json_at r kind, e)
literal-read kind letters r e read = rw read refl

scalar-true : (r : Rest) → head r ≡ 116 → scalar r ≡ make r (λ k. k) (literal (kinds.Truth true) (codes "true") r)
unfolding scalar
scalar-true r is = cond-false (head r == 34) _ _ (other_byte (head r) 116 34 is refl) ∙ cond-true (head r == 116) _ _ (same_byte (head r) 116 is)

scalar-false : (r : Rest) → head r ≡ 102 → scalar r ≡ make r (λ k. k) (literal (kinds.Truth false) (codes "false") r)
unfolding scalar
scalar-false r is =
    cond-false (head r == 34) _ _ (other_byte (head r) 102 34 is refl) ∙ cond-false (head r == 116) _ _ (other_byte (head r) 102 116 is refl)
    ∙ cond-true (head r == 102) _ _ (same_byte (head r) 102 is)

scalar-null : (r : Rest) → head r ≡ 110 → scalar r ≡ make r (λ k. k) (literal kinds.Null (codes "null") r)
unfolding scalar
scalar-null r is =
    cond-false (head r == 34) _ _ (other_byte (head r) 110 34 is refl) ∙ cond-false (head r == 116) _ _ (other_byte (head r) 110 116 is refl)
    ∙ cond-false (head r == 102) _ _ (other_byte (head r) 110 102 is refl) ∙ cond-true (head r == 110) _ _ (same_byte (head r) 110 is)

pub true-spelled : (depth : ℕ) (r e : Rest) → these (codes "true") r ≡ Ok e → value depth r ≡ Ok (json_at r (kinds.Truth true), e)
true-spelled depth r e read =
    let is : head r ≡ 116 = first_byte 116 r _ e read in
    is_scalar depth r (other_byte (head r) 116 91 is refl) (other_byte (head r) 116 123 is refl)
    ∙ scalar-true r is ∙ literal-read (kinds.Truth true) (codes "true") r e read

pub false-spelled : (depth : ℕ) (r e : Rest) → these (codes "false") r ≡ Ok e → value depth r ≡ Ok (json_at r (kinds.Truth false), e)
false-spelled depth r e read =
    let is : head r ≡ 102 = first_byte 102 r _ e read in
    is_scalar depth r (other_byte (head r) 102 91 is refl) (other_byte (head r) 102 123 is refl)
    ∙ scalar-false r is ∙ literal-read (kinds.Truth false) (codes "false") r e read

pub null-spelled : (depth : ℕ) (r e : Rest) → these (codes "null") r ≡ Ok e → value depth r ≡ Ok (json_at r kinds.Null, e)
null-spelled depth r e read =
    let is : head r ≡ 110 = first_byte 110 r _ e read in
    is_scalar depth r (other_byte (head r) 110 91 is refl) (other_byte (head r) 110 123 is refl)
    ∙ scalar-null r is ∙ literal-read kinds.Null (codes "null") r e read

-- Numbers.

digit_by : (r : Rest) (p : ℕ × Rest) (t : Bool) → is_digit (head r) ≡ t → cond t (Ok (head r, past 1 r)) (Err (BadJson r.at)) ≡ Ok p → is_digit (head r) ≡ true
digit_by r p true is read = is
digit_by r p false is read = absurd cc

first_digit : (r e : Rest) → integer r ≡ Ok e → is_digit (head r) ≡ true
first_digit r e read =
    let one = bind_ok (one_of is_digit r) _ e read in
    digit_by r one.0 (is_digit (head r)) refl one.1

begins_number : ℕ → Bool
begins_number b = b == 45 || is_digit b

behind_minus : (r : Rest) (t : Bool) → (head r == 45) ≡ t → is_digit (head (cond t (past 1 r) r)) ≡ true → begins_number (head r) ≡ true
unfolding begins_number
behind_minus r true is digit = rw is refl
behind_minus r false is digit = rw is digit

number_begins : (r e : Rest) → number_end r ≡ Ok e → begins_number (head r) ≡ true
unfolding number_end
number_begins r e read =
    let start = passed (λ b. b == 45) r in
    let second = bind_ok (integer start >>= fraction) exponent e read in
    let first = bind_ok (integer start) fraction second.0 second.1 in
    behind_minus r (head r == 45) refl (first_digit start first.0 first.1)

-- none of the bytes with which other values begin
record Apart (b : ℕ) : Type 0 where
  list : (b == 91) ≡ false
  object : (b == 123) ≡ false
  text : (b == 34) ≡ false
  for_true : (b == 116) ≡ false
  for_false : (b == 102) ≡ false
  for_null : (b == 110) ≡ false

number_apart : (b : ℕ) → begins_number b ≡ true → Apart b
unfolding begins_number
number_apart b h = record {
  list = grind (arith, nat_tests);
  object = grind (arith, nat_tests);
  text = grind (arith, nat_tests);
  for_true = grind (arith, nat_tests);
  for_false = grind (arith, nat_tests);
  for_null = grind (arith, nat_tests);
}

scalar-number : (r : Rest) → Apart (head r) → scalar r ≡ make r kinds.Number (number r)
unfolding scalar
scalar-number r apart =
    cond-false (head r == 34) _ _ apart.text ∙ cond-false (head r == 116) _ _ apart.for_true ∙ cond-false (head r == 102) _ _ apart.for_false
    ∙ cond-false (head r == 110) _ _ apart.for_null

pub number-spelled : (depth : ℕ) (r e : Rest) (s : List ℕ) → number r ≡ Ok (s, e) → value depth r ≡ Ok (json_at r (kinds.Number s), e)
number-spelled depth r e s read =
    let ends = bind_ok (number_end r) _ (s, e) read in
    let apart = number_apart (head r) (number_begins r ends.0 ends.1) in
    is_scalar depth r apart.list apart.object ∙ scalar-number r apart ∙ make_read r kinds.Number (number r) s e read
