-- Texts that spell integers.
use Rattle.std.proofs.Common.{◌≡◌, ◌∙◌, ◌<◌, ◌≤◌, ℕ, Bool, true, false, List, [], ◌∷◌, refl, sym, ap, arith, w64}
use Rattle.std.specs.Prelude.{Some, None, ℤ, pos, negsuc, nat_lt, nat_le, ◌&&◌, cond}
use mir.Val.{SFits as FitsSigned}
use Rattle.std.specs.Char.{digit_value}
use Rattle.std.specs.List.{list_all}
use Rattle.std.specs.Str.Parse.{AllDigits, IsNumeral, without_leading_sign, signed_digits_value}
use Rattle.std.proofs.lemmas.Bool.Decides.{nat_tests}
use Rattle.func_text.specs.Texts.{are_digits, in_64_bits, spelled_int}

lt_true : (a b : ℕ) → a < b → nat_lt a b ≡ true
lt_true a b h = grind (arith, nat_tests)

true_lt : (a b : ℕ) → nat_lt a b ≡ true → a < b
true_lt a b h = grind (arith, nat_tests)

both : (a b : Bool) → a ≡ true → b ≡ true → (a && b) ≡ true
both true b h k = k
both false b h k = absurd cc

left : (a b : Bool) → (a && b) ≡ true → a ≡ true
left true b h = refl
left false b h = absurd cc

right : (a b : Bool) → (a && b) ≡ true → b ≡ true
right true b h = h
right false b h = absurd cc

all_digits : (ds : List ℕ) → AllDigits 10 ds → list_all (λ b. nat_lt (digit_value b) 10) ds ≡ true
all_digits [] h = refl
all_digits (d ∷ ds) h = both _ _ (lt_true _ _ h.0) (all_digits ds h.1)

digits_all : (ds : List ℕ) → list_all (λ b. nat_lt (digit_value b) 10) ds ≡ true → AllDigits 10 ds
digits_all [] h = tt
digits_all (d ∷ ds) h = (true_lt _ _ (left _ _ h), digits_all ds (right _ _ h))

le_true : (a b : ℕ) → a ≤ b → nat_le a b ≡ true
le_true a b h = grind (arith, nat_tests)

true_le : (a b : ℕ) → nat_le a b ≡ true → a ≤ b
true_le a b h = grind (arith, nat_tests)

within : (n : ℤ) → FitsSigned w64 n → in_64_bits n ≡ true
within (pos n) h = le_true n 9223372036854775807 (let fits : n < 9223372036854775808 = h.sfits in omega arith)
within (negsuc n) h = both _ _ (le_true n 9223372036854775807 (let fits : n < 9223372036854775808 = h.sfits in omega arith)) refl

fits : (n : ℤ) → in_64_bits n ≡ true → FitsSigned w64 n
fits (pos n) h = record { sfits = let at : n ≤ 9223372036854775807 = true_le n 9223372036854775807 h in omega arith }
fits (negsuc n) h = record { sfits = let at : n ≤ 9223372036854775807 = true_le n 9223372036854775807 (left _ _ h) in omega arith }

numeral : (ds : List ℕ) → IsNumeral 10 ds → are_digits ds ≡ true
numeral ds h = both _ _ (lt_true _ _ h.0) (all_digits ds h.1)

digits : (ds : List ℕ) → are_digits ds ≡ true → IsNumeral 10 ds
digits ds h = (true_lt _ _ (left _ _ h), digits_all ds (right _ _ h))

picks : {A : Type 0} (t : Bool) (x y : A) → t ≡ true → cond t x y ≡ x
picks true x y h = refl
picks false x y h = absurd cc

refused : {A : Type 0} (t : Bool) (x y : A) → (t ≡ true → ⊥) → cond t x y ≡ y
refused true x y h = absurd (h refl)
refused false x y h = refl

-- what `parse` reads
abbrev Parsed : List ℕ → Type 0
Parsed text = IsNumeral 10 (without_leading_sign text) × FitsSigned w64 (signed_digits_value 10 text)

-- the number that `parse` answers
pub spelled : (text : List ℕ) (n : ℤ) → Parsed text × (n ≡ signed_digits_value 10 text) → Some n ≡ spelled_int text
spelled text n h =
    ap (λ (k : ℤ). Some k) h.1
    ∙ sym (picks _ (Some (signed_digits_value 10 text)) None (both _ _ (numeral _ h.0.0) (within _ h.0.1)))

-- none where `parse` refuses
pub not_spelled : (text : List ℕ) → (Parsed text → ⊥) → None ≡ spelled_int text
not_spelled text h =
    sym (refused _ (Some (signed_digits_value 10 text)) None (λ t. h (digits _ (left _ _ t), fits _ (right _ _ t))))
