-- A text that is read is spelled.
use Rattle.std.proofs.Common.{◌≡◌, ◌∙◌, ℕ, zero, suc, ◌+◌, ◌*◌, ◌≤◌, ◌<◌, Bool, true, false, List, [], ◌∷◌, ◌++◌, length, drop, get_or, Some, Ok, ◌⊎◌, inl, inr, refl, sym, ap, subst, arith, append_assoc, length-append}
use Rattle.std.specs.Prelude.{◌==◌, ◌&&◌, nat_lt, nat_le, IsTrue}
use Rattle.std.specs.Char.{digit_value, encode_utf8}
use Rattle.std.specs.Char.Utf16.{is_high_surrogate, is_low_surrogate, lone_unit_char, surrogate_pair_char}
use Rattle.std.specs.Int.{is_in_range}
use Rattle.std.proofs.lemmas.Bool.Decides.{nat_tests}
use Rattle.json_text.specs.Place.{Rest, head, past}
use Rattle.json_text.specs.Reading.{Reads, ◌>>=◌, one_of, this, hex, two_more, low_half, from_d, unit, is_short, short, escape, is_plain, piece, text, quoted}
use Rattle.json_text.specs.Spelling as spelling
use Rattle.json_text.specs.Spelling.{ShortEscape, IsHex, SpellsUnit, SpellsEscape, SpellsPiece, SpellsPieces, SpellsText}
use Rattle.json_text.proofs.Numerals.{bind_ok, by_test, ok_same}
use Rattle.json_text.proofs.TextBack.{rest_at}

-- A reading went from one place to another, over a word of which P holds.
pub record Took (P : List ℕ → Type 0) (from to : Rest) : Type 0 where
  pub word : List ℕ
  pub whole : from.left ≡ word ++ to.left
  pub place : to.at ≡ from.at + length word
  pub spelled : P word

pub took_then : (P Q R : List ℕ → Type 0) (r s t : Rest) → Took P r s → Took Q s t → ((x y : List ℕ) → s.at ≡ r.at + length x → P x → Q y → R (x ++ y)) → Took R r t
took_then P Q R r s t l m both = record {
  word = l.word ++ m.word;
  whole = l.whole ∙ ap (λ (z : List ℕ). l.word ++ z) m.whole ∙ sym (append_assoc l.word m.word t.left);
  place = omega (arith, l.place, m.place, length-append l.word m.word);
  spelled = both l.word m.word l.place l.spelled m.spelled;
}

-- these bytes alone
abbrev pub Just : List ℕ → List ℕ → Type 0
Just bytes word = word ≡ bytes

byte_at : (kind : ℕ → Bool) (at : ℕ) (left : List ℕ) → kind (get_or left 0 0) ≡ true → kind 0 ≡ false → Took (Just (get_or left 0 0 ∷ [])) (rest_at at left) (rest_at (at + 1) (drop 1 left))
byte_at kind at [] is none = absurd cc
byte_at kind at (x ∷ xs) is none = record { word = x ∷ []; whole = refl; place = refl; spelled = refl }

pub took_byte : (kind : ℕ → Bool) (r : Rest) → kind (head r) ≡ true → kind 0 ≡ false → Took (Just (head r ∷ [])) r (past 1 r)
took_byte kind r is none = byte_at kind r.at r.left is none

pub one_of_pair : (kind : ℕ → Bool) (r : Rest) (p : ℕ × Rest) → one_of kind r ≡ Ok p → (kind (head r) ≡ true) × ((head r, past 1 r) ≡ p)
one_of_pair kind r p is = elim (by_test (kind (head r)) _ _ _ is) [ inl taken ↦ (taken.0, ok_same _ _ taken.1) | inr other ↦ absurd (let e = other.1 in cc) ]

pub same_number : (a b : ℕ) → (a == b) ≡ true → a ≡ b
same_number a b is = grind (arith, nat_tests)

pub this_took : (b : ℕ) → (0 == b) ≡ false → (r e : Rest) → this b r ≡ Ok e → Took (Just (b ∷ [])) r e
this_took b some r e is =
    elim (by_test (head r == b) _ _ _ is) [
      | inl taken ↦
          subst (Took (Just (b ∷ [])) r) (ok_same _ _ taken.1)
          (subst (λ (n : ℕ). Took (Just (n ∷ [])) r (past 1 r)) (same_number (head r) b taken.0) (took_byte (λ n. n == b) r taken.0 some))
      | inr other ↦ absurd (let e = other.1 in cc)
    ]

-- Digits.
abbrev Digit : ℕ → ℕ → ℕ → List ℕ → Type 0
Digit low high value word = (d : ℕ) × (word ≡ d ∷ []) × (value ≡ digit_value d) × (is_in_range low high (digit_value d) ≡ true)

hex_took : (low high : ℕ) → is_in_range low high (digit_value 0) ≡ false → (r : Rest) (p : ℕ × Rest) → hex low high r ≡ Ok p → Took (Digit low high p.0) r p.1
hex_took low high none r p is =
    let kind : ℕ → Bool = λ b. is_in_range low high (digit_value b) in
    let one = bind_ok (one_of kind r) (λ q. Ok (digit_value q.0, q.1)) p is in
    let first = one_of_pair kind r one.0 one.1 in
    let same : (digit_value (head r), past 1 r) ≡ p = ap (λ (q : ℕ × Rest). (digit_value q.0, q.1)) first.1 ∙ ok_same _ _ one.2 in
    let byte = took_byte kind r first.0 none in
    subst (λ (q : ℕ × Rest). Took (Digit low high q.0) r q.1) same
    (record { word = byte.word; whole = byte.whole; place = byte.place; spelled = (head r, byte.spelled, refl, first.0) })

hex_less : (v : ℕ) → is_in_range 0 15 v ≡ true → v < 16
hex_less v h = grind (arith, nat_tests)

abbrev Two : ℕ → ℕ → List ℕ → Type 0
Two front value word = (c : ℕ) × (d : ℕ) × (word ≡ c ∷ d ∷ []) × IsHex c × IsHex d × (value ≡ front * 256 + digit_value c * 16 + digit_value d)

two_took : (front : ℕ) (r : Rest) (p : ℕ × Rest) → two_more front r ≡ Ok p → Took (Two front p.0) r p.1
unfolding two_more
two_took front r p is =
    let a = bind_ok (hex 0 15 r) (λ a. hex 0 15 a.1 >>= λ b. Ok (front * 256 + a.0 * 16 + b.0, b.1)) p is in
    let b = bind_ok (hex 0 15 a.0.1) (λ b. Ok (front * 256 + a.0.0 * 16 + b.0, b.1)) p a.2 in
    subst (λ (q : ℕ × Rest). Took (Two front q.0) r q.1) (ok_same _ _ b.2)
    (took_then (Digit 0 15 a.0.0) (Digit 0 15 b.0.0) (Two front (front * 256 + a.0.0 * 16 + b.0.0)) r a.0.1 b.0.1 (hex_took 0 15 refl r a.0 a.1) (hex_took 0 15 refl a.0.1 b.0 b.1)
    (λ x y place c d. (
      c.0,
      d.0,
      ap (λ (z : List ℕ). z ++ y) c.1 ∙ ap (λ (z : List ℕ). c.0 ∷ z) d.1,
      hex_less (digit_value c.0) c.3,
      hex_less (digit_value d.0) d.3,
      ap (λ (n : ℕ). front * 256 + n * 16 + b.0.0) c.2 ∙ ap (λ (n : ℕ). front * 256 + digit_value c.0 * 16 + n) d.2,
    )))

-- a digit within bounds, and two more
record Three (low high front digit value : ℕ) (word : List ℕ) : Type 0 where
  b : ℕ
  c : ℕ
  d : ℕ
  is : word ≡ b ∷ c ∷ d ∷ []
  first : digit ≡ digit_value b
  within : is_in_range low high digit ≡ true
  hex_c : IsHex c
  hex_d : IsHex d
  valued : value ≡ (front + digit) * 256 + digit_value c * 16 + digit_value d

three_took : (low high front : ℕ) → is_in_range low high (digit_value 0) ≡ false → (r : Rest) (b p : ℕ × Rest) → hex low high r ≡ Ok b → two_more (front + b.0) b.1 ≡ Ok p
    → Took (Three low high front b.0 p.0) r p.1
three_took low high front none r b p first rest =
    took_then (Digit low high b.0) (Two (front + b.0) p.0) (Three low high front b.0 p.0) r b.1 p.1 (hex_took low high none r b first) (two_took (front + b.0) b.1 p rest)
    (λ x y place d t. record {
      b = d.0;
      c = t.0;
      d = t.1;
      is = ap (λ (z : List ℕ). z ++ y) d.1 ∙ ap (λ (z : List ℕ). d.0 ∷ z) t.2;
      first = d.2;
      within = subst (λ (n : ℕ). is_in_range low high n ≡ true) (sym d.2) d.3;
      hex_c = t.3;
      hex_d = t.4;
      valued = t.5;
    })

-- Units of UTF-16.

-- units by the values of their digits
unit_of : (a b c d : ℕ) → (a * 16 + b) * 256 + c * 16 + d ≡ a * 4096 + b * 256 + c * 16 + d
unit_of a b c d = omega arith

high_unit : (b c d : ℕ) → is_in_range 0 11 b ≡ true → nat_lt b 8 ≡ false → c < 16 → d < 16 → is_high_surrogate ((208 + b) * 256 + c * 16 + d) ≡ true
high_unit b c d range large less_c less_d = grind (arith, nat_tests)

low_unit : (b c d : ℕ) → is_in_range 12 15 b ≡ true → c < 16 → d < 16 → is_low_surrogate ((208 + b) * 256 + c * 16 + d) ≡ true
low_unit b c d range less_c less_d = grind (arith, nat_tests)

abbrev is_surrogate : ℕ → Bool
is_surrogate u = nat_le 55296 u && nat_lt u 57344

small_unit : (b c d : ℕ) → nat_lt b 8 ≡ true → c < 16 → d < 16 → is_surrogate ((208 + b) * 256 + c * 16 + d) ≡ false
small_unit b c d small less_c less_d = grind (arith, nat_tests)

other_unit : (a b c d : ℕ) → is_in_range 0 15 a ≡ true → (a == 13) ≡ false → is_in_range 0 15 b ≡ true → c < 16 → d < 16 → is_surrogate ((a * 16 + b) * 256 + c * 16 + d) ≡ false
other_unit a b c d in_a other in_b less_c less_d = grind (arith, nat_tests)

lone_is : (u : ℕ) → is_surrogate u ≡ false → lone_unit_char u ≡ Some u
lone_is u is = rw is refl

-- Characters behind `\u`.
abbrev LowHalf : ℕ → ℕ → List ℕ → Type 0
LowHalf high character word = (low : ℕ) × SpellsUnit word low × IsTrue (is_low_surrogate low) × (character ≡ surrogate_pair_char high low)

hex_digit : (d : ℕ) → digit_value d ≡ 13 → IsHex d
hex_digit d is = omega (arith, is)

-- a digit D and three more
d_unit : (a b c d : ℕ) → a ≡ 13 → (208 + b) * 256 + c * 16 + d ≡ a * 4096 + b * 256 + c * 16 + d
d_unit a b c d is = omega (arith, is)

within_hex : (low high v : ℕ) → high < 16 → is_in_range low high v ≡ true → v < 16
within_hex low high v most h = grind (arith, nat_tests)

-- a first digit and three more
spells_unit : (low high front digit value a : ℕ) (word : List ℕ) → high < 16 → IsHex a → (t : Three low high front digit value word)
    → value ≡ digit_value a * 4096 + digit * 256 + digit_value t.c * 16 + digit_value t.d → SpellsUnit (92 ∷ 117 ∷ a ∷ word) value
spells_unit low high front digit value a word most hex_a t sum =
    let value_is : digit_value a * 4096 + digit_value t.b * 256 + digit_value t.c * 16 + digit_value t.d ≡ value =
    sym (sum ∙ ap (λ (n : ℕ). digit_value a * 4096 + n * 256 + digit_value t.c * 16 + digit_value t.d) t.first) in
    let hex_b : IsHex t.b = subst (λ (n : ℕ). n < 16) t.first (within_hex low high digit most t.within) in
    subst (λ (w : List ℕ). SpellsUnit (92 ∷ 117 ∷ a ∷ w) value) (sym t.is)
    (subst (SpellsUnit (92 ∷ 117 ∷ a ∷ t.b ∷ t.c ∷ t.d ∷ [])) value_is (spelling.unit a t.b t.c t.d hex_a hex_b t.hex_c t.hex_d))

spells_d : (low high digit value a : ℕ) (word : List ℕ) → high < 16 → digit_value a ≡ 13 → Three low high 208 digit value word → SpellsUnit (92 ∷ 117 ∷ a ∷ word) value
spells_d low high digit value a word most is t =
    spells_unit low high 208 digit value a word most (hex_digit a is) t (t.valued ∙ d_unit (digit_value a) digit (digit_value t.c) (digit_value t.d) is)

is_d : (v : ℕ) → is_in_range 13 13 v ≡ true → v ≡ 13
is_d v h = grind (arith, nat_tests)

abbrev Low : ℕ → List ℕ → Type 0
Low low word = SpellsUnit word low × IsTrue (is_low_surrogate low)

abbrev joined : ℕ → ℕ × Rest → Reads ℕ
joined high low = Ok (surrogate_pair_char high low.0, low.1)

abbrev low_digits : ℕ → ℕ × Rest → Reads ℕ
low_digits high b = two_more (208 + b.0) b.1 >>= joined high

low_took : (high : ℕ) (r : Rest) (p : ℕ × Rest) → low_half high r ≡ Ok p → Took (LowHalf high p.0) r p.1
unfolding low_half
low_took high r p is =
    let d = bind_ok (this 92 r >>= this 117 >>= hex 13 13) (λ a. hex 12 15 a.1 >>= low_digits high) p is in
    let u = bind_ok (this 92 r >>= this 117) (hex 13 13) d.0 d.1 in
    let s = bind_ok (this 92 r) (this 117) u.0 u.1 in
    let b = bind_ok (hex 12 15 d.0.1) (low_digits high) p d.2 in
    let low = bind_ok (two_more (208 + b.0.0) b.0.1) (joined high) p b.2 in
    let same : (surrogate_pair_char high low.0.0, low.0.1) ≡ p = ok_same _ _ low.2 in
    let three = three_took 12 15 208 refl d.0.1 b.0 low.0 b.1 low.1 in
    let digits = took_then (Digit 13 13 d.0.0) (Three 12 15 208 b.0.0 low.0.0) (λ w. Low low.0.0 (92 ∷ 117 ∷ w)) u.0 d.0.1 low.0.1 (hex_took 13 13 refl u.0 d.0 u.2) three
    (λ x y place c t. (
      subst (λ (w : List ℕ). SpellsUnit (92 ∷ 117 ∷ (w ++ y)) low.0.0) (sym c.1) (spells_d 12 15 b.0.0 low.0.0 c.0 y (omega arith) (is_d (digit_value c.0) c.3) t),
      subst (λ (n : ℕ). is_low_surrogate n ≡ true) (sym t.valued) (low_unit b.0.0 (digit_value t.c) (digit_value t.d) t.within t.hex_c t.hex_d),
    )) in
    let letter = took_then (Just (117 ∷ [])) (λ w. Low low.0.0 (92 ∷ 117 ∷ w)) (λ w. Low low.0.0 (92 ∷ w)) s.0 u.0 low.0.1 (this_took 117 refl s.0 u.0 s.2) digits
    (λ x y place e q. (subst (λ (w : List ℕ). SpellsUnit (92 ∷ (w ++ y)) low.0.0) (sym e) q.0, q.1)) in
    subst (λ (q : ℕ × Rest). Took (LowHalf high q.0) r q.1) same
    (took_then (Just (92 ∷ [])) (λ w. Low low.0.0 (92 ∷ w)) (LowHalf high (surrogate_pair_char high low.0.0)) r s.0 low.0.1 (this_took 92 refl r s.0 s.1) letter
    (λ x y place e q. (low.0.0, subst (λ (w : List ℕ). SpellsUnit (w ++ y) low.0.0) (sym e) q.0, q.1, refl)))

abbrev Behind_u : ℕ → List ℕ → Type 0
Behind_u character word = SpellsEscape (92 ∷ 117 ∷ word) character

abbrev Behind_d : ℕ → ℕ → List ℕ → Type 0
Behind_d a character word = Behind_u character (a ∷ word)

from_d_took : (a : ℕ) → digit_value a ≡ 13 → (r : Rest) (p : ℕ × Rest) → from_d r ≡ Ok p → Took (Behind_d a p.0) r p.1
unfolding from_d
from_d_took a is_a r p is =
    let b = bind_ok (hex 0 11 r) _ p is in
    let c = bind_ok (two_more (208 + b.0.0) b.0.1) _ p b.2 in
    let three = three_took 0 11 208 refl r b.0 c.0 b.1 c.1 in
    let t = three.spelled in
    let spells = spells_d 0 11 b.0.0 c.0.0 a three.word (omega arith) is_a t in
    elim (by_test (nat_lt b.0.0 8) _ _ _ c.2) [
      | inl small ↦
          let none : is_surrogate c.0.0 ≡ false = subst (λ (n : ℕ). is_surrogate n ≡ false) (sym t.valued) (small_unit b.0.0 (digit_value t.c) (digit_value t.d) small.0 t.hex_c t.hex_d) in
          subst (λ (q : ℕ × Rest). Took (Behind_d a q.0) r q.1) (ok_same _ _ small.1)
          (record { word = three.word; whole = three.whole; place = three.place; spelled = spelling.lone (92 ∷ 117 ∷ a ∷ three.word) c.0.0 c.0.0 spells (lone_is c.0.0 none) })
      | inr large ↦
          took_then (Three 0 11 208 b.0.0 c.0.0) (LowHalf c.0.0 p.0) (Behind_d a p.0) r c.0.1 p.1 three (low_took c.0.0 c.0.1 p large.1)
          (λ x y place t l.
          let high : is_high_surrogate c.0.0 ≡ true = subst (λ (n : ℕ). is_high_surrogate n ≡ true) (sym t.valued) (high_unit b.0.0 (digit_value t.c) (digit_value t.d) t.within large.0 t.hex_c t.hex_d) in
          subst (SpellsEscape (92 ∷ 117 ∷ a ∷ (x ++ y))) (sym l.3)
          (spelling.pair (92 ∷ 117 ∷ a ∷ x) y c.0.0 l.0 (spells_d 0 11 b.0.0 c.0.0 a x (omega arith) is_a t) l.1 high l.2))
    ]

unit_took : (r : Rest) (p : ℕ × Rest) → unit r ≡ Ok p → Took (Behind_u p.0) r p.1
unfolding unit
unit_took r p is =
    let a = bind_ok (hex 0 15 r) _ p is in
    let first = hex_took 0 15 refl r a.0 a.1 in
    elim (by_test (a.0.0 == 13) _ _ _ a.2) [
      | inl d ↦
          let digit = first.spelled in
          let is_a : digit_value digit.0 ≡ 13 = sym digit.2 ∙ same_number a.0.0 13 d.0 in
          took_then (Just (digit.0 ∷ [])) (Behind_d digit.0 p.0) (Behind_u p.0) r a.0.1 p.1
          (record { word = first.word; whole = first.whole; place = first.place; spelled = digit.1 }) (from_d_took digit.0 is_a a.0.1 p d.1)
          (λ x y place e q. subst (λ (w : List ℕ). Behind_u p.0 (w ++ y)) (sym e) q)
      | inr other ↦
          let b = bind_ok (hex 0 15 a.0.1) _ p other.1 in
          took_then (Digit 0 15 a.0.0) (Three 0 15 (a.0.0 * 16) b.0.0 p.0) (Behind_u p.0) r a.0.1 p.1 first (three_took 0 15 (a.0.0 * 16) refl a.0.1 b.0 p b.1 b.2)
          (λ x y place e t.
          let in_a : is_in_range 0 15 a.0.0 ≡ true = subst (λ (n : ℕ). is_in_range 0 15 n ≡ true) (sym e.2) e.3 in
          let none : is_surrogate p.0 ≡ false = subst (λ (n : ℕ). is_surrogate n ≡ false) (sym t.valued) (other_unit a.0.0 b.0.0 (digit_value t.c) (digit_value t.d) in_a other.0 t.within t.hex_c t.hex_d) in
          let value : p.0 ≡ digit_value e.0 * 4096 + b.0.0 * 256 + digit_value t.c * 16 + digit_value t.d =
          t.valued ∙ unit_of a.0.0 b.0.0 (digit_value t.c) (digit_value t.d) ∙ ap (λ (n : ℕ). n * 4096 + b.0.0 * 256 + digit_value t.c * 16 + digit_value t.d) e.2 in
          subst (λ (w : List ℕ). Behind_u p.0 (w ++ y)) (sym e.1)
          (spelling.lone (92 ∷ 117 ∷ e.0 ∷ y) p.0 p.0 (spells_unit 0 15 (a.0.0 * 16) b.0.0 p.0 e.0 y (omega arith) (hex_less (digit_value e.0) e.3) t value) (lone_is p.0 none)))
    ]

-- What stands behind a backslash.
either : (t : Bool) → (t ≡ true) ⊎ (t ≡ false)
either true = inl refl
either false = inr refl

by_letter : (b k : ℕ) → (b == k) ≡ true → ShortEscape k (short k) → ShortEscape b (short b)
by_letter b k is h = subst (λ (n : ℕ). ShortEscape n (short n)) (sym (same_number b k is)) h

no_letter : (b : ℕ) → is_short b ≡ true → (b == 34) ≡ false → (b == 92) ≡ false → (b == 47) ≡ false → (b == 98) ≡ false → (b == 102) ≡ false → (b == 110) ≡ false → (b == 114) ≡ false → (b == 116) ≡ true
no_letter b h q s o c f n r = grind (arith, nat_tests)

short_spelled : (b : ℕ) → is_short b ≡ true → ShortEscape b (short b)
short_spelled b is =
    elim (either (b == 34)) [
      | inl e ↦ by_letter b 34 e spelling.quote
      | inr q ↦
          elim (either (b == 92)) [
            | inl e ↦ by_letter b 92 e spelling.backslash
            | inr s ↦
                elim (either (b == 47)) [
                  | inl e ↦ by_letter b 47 e spelling.solidus
                  | inr o ↦
                      elim (either (b == 98)) [
                        | inl e ↦ by_letter b 98 e spelling.backspace
                        | inr c ↦
                            elim (either (b == 102)) [
                              | inl e ↦ by_letter b 102 e spelling.form_feed
                              | inr f ↦
                                  elim (either (b == 110)) [
                                    | inl e ↦ by_letter b 110 e spelling.line_feed
                                    | inr n ↦
                                        elim (either (b == 114)) [ inl e ↦ by_letter b 114 e spelling.carriage_return | inr r ↦ by_letter b 116 (no_letter b is q s o c f n r) spelling.tab ]
                                  ]
                            ]
                      ]
                ]
          ]
    ]

abbrev Behind_slash : ℕ → List ℕ → Type 0
Behind_slash character word = SpellsEscape (92 ∷ word) character

escape_took : (r : Rest) (p : ℕ × Rest) → escape r ≡ Ok p → Took (Behind_slash p.0) r p.1
unfolding escape
escape_took r p is =
    elim (by_test (head r == 117) _ _ _ is) [
      | inl u ↦
          took_then (Just (head r ∷ [])) (Behind_u p.0) (Behind_slash p.0) r (past 1 r) p.1 (took_byte (λ b. b == 117) r u.0 refl) (unit_took (past 1 r) p u.1)
          (λ x y place e q. subst (λ (w : List ℕ). Behind_slash p.0 (w ++ y)) (sym (e ∙ ap (λ (n : ℕ). n ∷ []) (same_number (head r) 117 u.0))) q)
      | inr letter ↦
          let one = bind_ok (one_of is_short r) _ p letter.1 in
          let first = one_of_pair is_short r one.0 one.1 in
          let same : (short (head r), past 1 r) ≡ p = ap (λ (q : ℕ × Rest). (short q.0, q.1)) first.1 ∙ ok_same _ _ one.2 in
          let byte = took_byte is_short r first.0 refl in
          subst (λ (q : ℕ × Rest). Took (Behind_slash q.0) r q.1) same
          (record {
            word = byte.word;
            whole = byte.whole;
            place = byte.place;
            spelled = subst (Behind_slash (short (head r))) (sym byte.spelled) (spelling.short (head r) (short (head r)) (short_spelled (head r) first.0));
          })
    ]

-- Texts.
plain_facts : (b : ℕ) → is_plain b ≡ true → (32 ≤ b) × (b ≡ 34 → ⊥) × (b ≡ 92 → ⊥)
plain_facts b is = (grind (arith, nat_tests), (λ e. no_byte b 34 e is refl), (λ e. no_byte b 92 e is refl)) where
  no_byte : (b k : ℕ) → b ≡ k → is_plain b ≡ true → is_plain k ≡ false → ⊥
  no_byte b k e h none = absurd (let f : true ≡ false = sym h ∙ ap is_plain e ∙ none in cc)

piece_took : (r : Rest) (p : List ℕ × Rest) → piece r ≡ Ok p → Took (λ w. SpellsPiece w p.0) r p.1
piece_took r p is =
    elim (by_test (head r == 92) _ _ _ is) [
      | inl slash ↦
          let e = bind_ok (escape (past 1 r)) _ p slash.1 in
          subst (λ (q : List ℕ × Rest). Took (λ w. SpellsPiece w q.0) r q.1) (ok_same _ _ e.2)
          (took_then (Just (head r ∷ [])) (Behind_slash e.0.0) (λ w. SpellsPiece w (encode_utf8 e.0.0)) r (past 1 r) e.0.1 (took_byte (λ b. b == 92) r slash.0 refl) (escape_took (past 1 r) e.0 e.1)
          (λ x y place f q. spelling.escape (x ++ y) e.0.0 (subst (λ (w : List ℕ). SpellsEscape (w ++ y) e.0.0) (sym (f ∙ ap (λ (n : ℕ). n ∷ []) (same_number (head r) 92 slash.0))) q)))
      | inr other ↦
          let one = bind_ok (one_of is_plain r) _ p other.1 in
          let first = one_of_pair is_plain r one.0 one.1 in
          let same : (head r ∷ [], past 1 r) ≡ p = ap (λ (q : ℕ × Rest). (q.0 ∷ [], q.1)) first.1 ∙ ok_same _ _ one.2 in
          let byte = took_byte is_plain r first.0 refl in
          let facts = plain_facts (head r) first.0 in
          subst (λ (q : List ℕ × Rest). Took (λ w. SpellsPiece w q.0) r q.1) same
          (record {
            word = byte.word;
            whole = byte.whole;
            place = byte.place;
            spelled = subst (λ (w : List ℕ). SpellsPiece w (head r ∷ [])) (sym byte.spelled) (spelling.plain (head r) facts.0 facts.1 facts.2);
          })
    ]

-- what stands behind the opening quote
abbrev Behind_quote : List ℕ → List ℕ → Type 0
Behind_quote spelled word = (inside : List ℕ) × SpellsPieces inside spelled × (word ≡ inside ++ 34 ∷ [])

text_took : (n : ℕ) (r : Rest) (p : List ℕ × Rest) → text n r ≡ Ok p → Took (Behind_quote p.0) r p.1
unfolding text
text_took zero r p is = absurd cc
text_took (suc n) r p is =
    elim (by_test (head r == 34) _ _ _ is) [
      | inl quote ↦
          let byte = took_byte (λ b. b == 34) r quote.0 refl in
          subst (λ (q : List ℕ × Rest). Took (Behind_quote q.0) r q.1) (ok_same _ _ quote.1)
          (record {
            word = byte.word;
            whole = byte.whole;
            place = byte.place;
            spelled = ([], spelling.none, byte.spelled ∙ ap (λ (b : ℕ). b ∷ []) (same_number (head r) 34 quote.0));
          })
      | inr other ↦
          let one = bind_ok (piece r) _ p other.1 in
          let rest = bind_ok (text n one.0.1) _ p one.2 in
          subst (λ (q : List ℕ × Rest). Took (Behind_quote q.0) r q.1) (ok_same _ _ rest.2)
          (took_then (λ w. SpellsPiece w one.0.0) (Behind_quote rest.0.0) (Behind_quote (one.0.0 ++ rest.0.0)) r one.0.1 rest.0.1 (piece_took r one.0 one.1) (text_took n one.0.1 rest.0 rest.1)
          (λ x y place a q. (x ++ q.0, spelling.more x q.0 one.0.0 rest.0.0 a q.1, ap (λ (z : List ℕ). x ++ z) q.2 ∙ sym (append_assoc x q.0 (34 ∷ [])))))
    ]

-- a text with its quotes
pub quoted_took : (r : Rest) (p : List ℕ × Rest) → quoted r ≡ Ok p → Took (λ w. SpellsText w p.0) r p.1
quoted_took r p is =
    let opened = bind_ok (this 34 r) _ p is in
    took_then (Just (34 ∷ [])) (Behind_quote p.0) (λ w. SpellsText w p.0) r opened.0 p.1 (this_took 34 refl r opened.0 opened.1) (text_took (length opened.0.left + 1) opened.0 p opened.2)
    (λ x y place e q. subst (λ (w : List ℕ). SpellsText w p.0) (sym (ap (λ (z : List ℕ). z ++ y) e ∙ ap (λ (z : List ℕ). 34 ∷ z) q.2)) (spelling.quoted q.0 p.0 q.1))
