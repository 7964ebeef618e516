-- An escape is a piece of the table, and each piece that begins with a backslash is an escape.
use Rattle.std.proofs.Common.{◌≡◌, ◌∙◌, ℕ, ◌≤◌, ◌<◌, List, [], ◌∷◌, ◌++◌, length, take, Bool, true, false, refl, sym, ap, arith, length-append}
use Rattle.std.specs.Prelude.{Option, Some, None, cond, ◌==◌, ◌&&◌, not, nat_lt, nat_le}
use Rattle.std.specs.Char.{digit_value, encode_utf8}
use Rattle.std.proofs.lemmas.Bool.Decides.{nat_tests}
use Rattle.std.proofs.lemmas.List.{length-take-le}
use Rattle.std.proofs.Math.Seq.{take-append_seam}
use Rattle.ottl_lex.specs.Numbers.{are_digits, value_in, numeral}
use Rattle.ottl_lex.specs.Quoted.{Escape, one_byte, one_character, is_character, letters, byte_beside, letter_escape, escape_at}
use Rattle.ottl_lex.proofs.Sides.{and_left, and_right}
use Rattle.ottl_lex.specs.Table.{Each, AreDigits, Piece, plain, letter, hex, octal, short, long, spelling, meaning, IsPiece}

digits-each : (base : ℕ) (ds : List ℕ) → are_digits base ds ≡ true → Each (λ b. nat_lt (digit_value b) base) ds
digits-each base [] is = tt
digits-each base (d ∷ ds) is = (and_left (nat_lt (digit_value d) base) (are_digits base ds) is, digits-each base ds (and_right (nat_lt (digit_value d) base) (are_digits base ds) is))

each-digits : (base : ℕ) (ds : List ℕ) → Each (λ b. nat_lt (digit_value b) base) ds → are_digits base ds ≡ true
each-digits base [] each = refl
each-digits base (d ∷ ds) each = rw (each.0, each-digits base ds each.1) refl

-- a numeral's digits
record IsNumeral (base count : ℕ) (text : List ℕ) (v : ℕ) : Type 0 where
  within : count ≤ length text
  are : AreDigits base count (take count text)
  value : v ≡ value_in base (take count text)

numeral-is : (base count : ℕ) (text : List ℕ) (v : ℕ) → numeral base count text ≡ Some v → IsNumeral base count text v
numeral-is base count text v is = by_test (nat_le count (length text) && are_digits base (take count text)) refl where
  by_test : (test : Bool) → (nat_le count (length text) && are_digits base (take count text)) ≡ test → IsNumeral base count text v
  by_test true test =
      let room : count ≤ length text = let l = and_left (nat_le count (length text)) (are_digits base (take count text)) test in grind (arith, nat_tests) in
      let whole : Some (value_in base (take count text)) ≡ Some v = rw test at is in
      record {
        within = room;
        are = (length-take-le count text room, digits-each base (take count text) (and_right (nat_le count (length text)) (are_digits base (take count text)) test));
        value = cc;
      }
  by_test false test = absurd (let none : numeral base count text ≡ None = rw test refl in cc)

numeral-of : (base count : ℕ) (ds rest : List ℕ) → AreDigits base count ds → numeral base count (ds ++ rest) ≡ Some (value_in base ds)
numeral-of base count ds rest are =
    let front : take count (ds ++ rest) ≡ ds = rw (← are.0) (take-append_seam ds rest) in
    let room : nat_le count (length (ds ++ rest)) ≡ true = grind (arith, nat_tests, length-append {A = ℕ}) in
    rw (front, room, each-digits base ds are.1) refl

-- an escape is a piece
pub record EscapeIs (text bytes : List ℕ) (size : ℕ) : Type 0 where
  pub piece : Piece
  pub is : IsPiece piece
  pub spells : spelling piece ≡ 92 ∷ take size text
  pub means : meaning piece ≡ bytes
  pub within : size ≤ length text

record IsOneByte (size : ℕ) (number : Option ℕ) (bytes : List ℕ) (s : ℕ) : Type 0 where
  v : ℕ
  number-is : number ≡ Some v
  small : v < 256
  bytes-is : v ∷ [] ≡ bytes
  sized : size ≡ s

one_byte-is : (size : ℕ) (number : Option ℕ) (bytes : List ℕ) (s : ℕ) → one_byte size number ≡ Some (bytes, s) → IsOneByte size number bytes s
one_byte-is size None bytes s is = absurd (cc)
one_byte-is size (Some v) bytes s is = by_test (nat_lt v 256) refl where
  by_test : (test : Bool) → nat_lt v 256 ≡ test → IsOneByte size (Some v) bytes s
  by_test true test =
      let room : v < 256 = grind (arith, nat_tests) in
      let whole : Some (v ∷ [], size) ≡ Some (bytes, s) = rw test at is in
      let pair : (v ∷ [], size) ≡ (bytes, s) = cc in
      record { v = v; number-is = refl; small = room; bytes-is = ap (λ (e : Escape). e.0) pair; sized = ap (λ (e : Escape). e.1) pair }
  by_test false test = absurd (let none : one_byte size (Some v) ≡ None = rw test refl in cc)

record IsOneCharacter (size : ℕ) (number : Option ℕ) (bytes : List ℕ) (s : ℕ) : Type 0 where
  v : ℕ
  number-is : number ≡ Some v
  character : is_character v ≡ true
  bytes-is : encode_utf8 v ≡ bytes
  sized : size ≡ s

one_character-is : (size : ℕ) (number : Option ℕ) (bytes : List ℕ) (s : ℕ) → one_character size number ≡ Some (bytes, s) → IsOneCharacter size number bytes s
one_character-is size None bytes s is = absurd (cc)
one_character-is size (Some v) bytes s is = by_test (is_character v) refl where
  by_test : (test : Bool) → is_character v ≡ test → IsOneCharacter size (Some v) bytes s
  by_test true test =
      let whole : Some (encode_utf8 v, size) ≡ Some (bytes, s) = rw test at is in
      let pair : (encode_utf8 v, size) ≡ (bytes, s) = cc in
      record { v = v; number-is = refl; character = test; bytes-is = ap (λ (e : Escape). e.0) pair; sized = ap (λ (e : Escape). e.1) pair }
  by_test false test = absurd (let none : one_character size (Some v) ≡ None = rw test refl in cc)

module _ (c : ℕ) (rest bytes : List ℕ) (size : ℕ) where
  hex-is : c ≡ 120 → one_byte 3 (numeral 16 2 rest) ≡ Some (bytes, size) → EscapeIs (c ∷ rest) bytes size
  hex-is first is =
      let one = one_byte-is 3 (numeral 16 2 rest) bytes size is in
      let n = numeral-is 16 2 rest one.v one.number-is in
      record {
        piece = hex (take 2 rest);
        is = n.are;
        spells = rw (first, ← one.sized) refl;
        means = ap (λ v. v ∷ []) (sym n.value) ∙ one.bytes-is;
        within = omega (arith, n.within, one.sized);
      }

  octal-is : one_byte 3 (numeral 8 3 (c ∷ rest)) ≡ Some (bytes, size) → EscapeIs (c ∷ rest) bytes size
  octal-is is =
      let one = one_byte-is 3 (numeral 8 3 (c ∷ rest)) bytes size is in
      let n = numeral-is 8 3 (c ∷ rest) one.v one.number-is in
      record {
        piece = octal (take 3 (c ∷ rest));
        is = (n.are, omega (arith, n.value, one.small));
        spells = rw (← one.sized) refl;
        means = ap (λ v. v ∷ []) (sym n.value) ∙ one.bytes-is;
        within = omega (arith, n.within, one.sized);
      }

  letter-is : one_byte 1 (letter_escape c) ≡ Some (bytes, size) → EscapeIs (c ∷ rest) bytes size
  letter-is is =
      let one = one_byte-is 1 (letter_escape c) bytes size is in
      record {
        piece = letter c one.v;
        is = one.number-is;
        spells = rw (← one.sized) refl;
        means = one.bytes-is;
        within = omega (arith, one.sized);
      }

  short-is : c ≡ 117 → one_character 5 (numeral 16 4 rest) ≡ Some (bytes, size) → EscapeIs (c ∷ rest) bytes size
  short-is first is =
      let one = one_character-is 5 (numeral 16 4 rest) bytes size is in
      let n = numeral-is 16 4 rest one.v one.number-is in
      record {
        piece = short (take 4 rest);
        is = (n.are, rw n.value at one.character);
        spells = rw (first, ← one.sized) refl;
        means = ap encode_utf8 (sym n.value) ∙ one.bytes-is;
        within = omega (arith, n.within, one.sized);
      }

  long-is : c ≡ 85 → one_character 9 (numeral 16 8 rest) ≡ Some (bytes, size) → EscapeIs (c ∷ rest) bytes size
  long-is first is =
      let one = one_character-is 9 (numeral 16 8 rest) bytes size is in
      let n = numeral-is 16 8 rest one.v one.number-is in
      record {
        piece = long (take 8 rest);
        is = (n.are, rw n.value at one.character);
        spells = rw (first, ← one.sized) refl;
        means = ap encode_utf8 (sym n.value) ∙ one.bytes-is;
        within = omega (arith, n.within, one.sized);
      }

  is_octal : (test : Bool) → (nat_le 48 c && nat_lt c 56) ≡ test
      → cond test (one_byte 3 (numeral 8 3 (c ∷ rest))) (one_byte 1 (letter_escape c)) ≡ Some (bytes, size) → EscapeIs (c ∷ rest) bytes size
  is_octal true test is = octal-is is
  is_octal false test is = letter-is is

  is_long : (test : Bool) → (c == 85) ≡ test
      → cond test (one_character 9 (numeral 16 8 rest)) (cond (nat_le 48 c && nat_lt c 56) (one_byte 3 (numeral 8 3 (c ∷ rest))) (one_byte 1 (letter_escape c))) ≡ Some (bytes, size)
      → EscapeIs (c ∷ rest) bytes size
  is_long true test is = long-is (grind (arith, nat_tests)) is
  is_long false test is = is_octal (nat_le 48 c && nat_lt c 56) refl is

  is_short : (test : Bool) → (c == 117) ≡ test
      → cond test (one_character 5 (numeral 16 4 rest)) (cond (c == 85) (one_character 9 (numeral 16 8 rest)) (cond (nat_le 48 c && nat_lt c 56) (one_byte 3 (numeral 8 3 (c ∷ rest))) (one_byte 1 (letter_escape c)))) ≡ Some (bytes, size)
      → EscapeIs (c ∷ rest) bytes size
  is_short true test is = short-is (grind (arith, nat_tests)) is
  is_short false test is = is_long (c == 85) refl is

  is_hex : (test : Bool) → (c == 120) ≡ test → escape_at (c ∷ rest) ≡ Some (bytes, size) → EscapeIs (c ∷ rest) bytes size
  is_hex true test is = hex-is (grind (arith, nat_tests)) (rw test at is)
  is_hex false test is = is_short (c == 117) refl (rw test at is)

pub escape-is : (text bytes : List ℕ) (size : ℕ) → escape_at text ≡ Some (bytes, size) → EscapeIs text bytes size
escape-is [] bytes size is = absurd (cc)
escape-is (c ∷ rest) bytes size is = is_hex c rest bytes size (c == 120) refl is

-- each piece that begins with a backslash is an escape
abbrev rows_pass : (ℕ → ℕ → Bool) → List (ℕ × ℕ) → Bool
rows_pass p [] = true
rows_pass p (row ∷ rows) = p row.0 row.1 && rows_pass p rows

row-passes : (p : ℕ → ℕ → Bool) (rows : List (ℕ × ℕ)) (c b : ℕ) → rows_pass p rows ≡ true → byte_beside rows c ≡ Some b → p c b ≡ true
row-passes p [] c b all is = absurd (cc)
row-passes p (row ∷ rows) c b all is = by_test (c == row.0) refl (row-passes p rows c b (and_right (p row.0 row.1) (rows_pass p rows) all)) where
  by_test : (test : Bool) → (c == row.0) ≡ test → (byte_beside rows c ≡ Some b → p c b ≡ true) → p c b ≡ true
  by_test true test more =
      let same : c ≡ row.0 = grind (arith, nat_tests) in
      let found : Some row.1 ≡ Some b = rw test at is in
      let value : row.1 ≡ b = cc in
      rw (same, ← value) (and_left (p row.0 row.1) (rows_pass p rows) all)
  by_test false test more = more (rw test at is)

abbrev is_letter_row : ℕ → ℕ → Bool
is_letter_row c b = nat_lt b 256 && (not (c == 120) && (not (c == 117) && (not (c == 85) && not (nat_le 48 c && nat_lt c 56))))

letter-row : (c b : ℕ) → letter_escape c ≡ Some b → is_letter_row c b ≡ true
letter-row c b is = row-passes is_letter_row letters c b refl is

letter-small : (c b : ℕ) → letter_escape c ≡ Some b → b < 256
letter-small c b is = let row = letter-row c b is in grind (arith, nat_tests)

not-true : (a : Bool) → not a ≡ true → a ≡ false
not-true true is = sym is
not-true false is = refl

letter-first : (c b : ℕ) → letter_escape c ≡ Some b → ((c == 120) ≡ false) × ((c == 117) ≡ false) × ((c == 85) ≡ false) × ((nat_le 48 c && nat_lt c 56) ≡ false)
letter-first c b is =
    let r1 = and_right (nat_lt b 256) (not (c == 120) && (not (c == 117) && (not (c == 85) && not (nat_le 48 c && nat_lt c 56)))) (letter-row c b is) in
    let r2 = and_right (not (c == 120)) (not (c == 117) && (not (c == 85) && not (nat_le 48 c && nat_lt c 56))) r1 in
    let r3 = and_right (not (c == 117)) (not (c == 85) && not (nat_le 48 c && nat_lt c 56)) r2 in
    let r4 = and_right (not (c == 85)) (not (nat_le 48 c && nat_lt c 56)) r3 in (
      not-true (c == 120) (and_left (not (c == 120)) (not (c == 117) && (not (c == 85) && not (nat_le 48 c && nat_lt c 56))) r1),
      not-true (c == 117) (and_left (not (c == 117)) (not (c == 85) && not (nat_le 48 c && nat_lt c 56)) r2),
      not-true (c == 85) (and_left (not (c == 85)) (not (nat_le 48 c && nat_lt c 56)) r3),
      not-true (nat_le 48 c && nat_lt c 56) r4,
    )

digit_range : (c : ℕ) → nat_lt (digit_value c) 8 ≡ true → (48 ≤ c) × (c < 56)
digit_range c is = grind (arith, nat_tests)

octal-first : (c : ℕ) → nat_lt (digit_value c) 8 ≡ true → ((c == 120) ≡ false) × ((c == 117) ≡ false) × ((c == 85) ≡ false) × ((nat_le 48 c && nat_lt c 56) ≡ true)
octal-first c is =
    let range : (48 ≤ c) × (c < 56) = digit_range c is in
    (grind (arith, nat_tests), grind (arith, nat_tests), grind (arith, nat_tests), grind (arith, nat_tests))

two-small : (ds : List ℕ) → AreDigits 16 2 ds → value_in 16 ds < 256
two-small [] are = absurd (omega (arith, are.0))
two-small (a ∷ []) are = absurd (omega (arith, are.0))
two-small (a ∷ b ∷ []) are = grind (arith, nat_tests)
two-small (a ∷ b ∷ c ∷ ds) are = absurd (omega (arith, are.0))

byte-of : (size v : ℕ) → v < 256 → one_byte size (Some v) ≡ Some (v ∷ [], size)
byte-of size v small = let t : nat_lt v 256 ≡ true = grind (arith, nat_tests) in rw t refl

pub escape-of : (p : Piece) (tail rest : List ℕ) → IsPiece p → spelling p ≡ 92 ∷ tail → escape_at (tail ++ rest) ≡ Some (meaning p, length tail)
escape-of (plain b) tail rest is spells = absurd (is.2 (cc))
escape-of (letter c b) tail rest is spells =
    let t : c ∷ [] ≡ tail = cc in
    let f = letter-first c b is in
    rw (← t, f.0, f.1, f.2, f.3, is) (byte-of 1 b (letter-small c b is))
escape-of (hex ds) tail rest is spells =
    let t : 120 ∷ ds ≡ tail = cc in
    rw (← t, numeral-of 16 2 ds rest is, is.0) (byte-of 3 (value_in 16 ds) (two-small ds is))
escape-of (octal []) tail rest is spells = absurd (omega (arith, is.0.0))
escape-of (octal (c ∷ ds)) tail rest is spells =
    let t : c ∷ ds ≡ tail = cc in
    let f = octal-first c is.0.1.0 in
    rw (← t, f.0, f.1, f.2, f.3, numeral-of 8 3 (c ∷ ds) rest is.0, is.0.0) (byte-of 3 (value_in 8 (c ∷ ds)) (omega (arith, is.1)))
escape-of (short ds) tail rest is spells =
    let t : 117 ∷ ds ≡ tail = cc in
    rw (← t, numeral-of 16 4 ds rest is.0, is.1, is.0.0) refl
escape-of (long ds) tail rest is spells =
    let t : 85 ∷ ds ≡ tail = cc in
    rw (← t, numeral-of 16 8 ds rest is.0, is.1, is.0.0) refl
