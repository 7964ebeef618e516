-- Texts that spell no double.
use Rattle.std.proofs.Common.{◌≡◌, ℕ, Bool, true, false, List, refl}
use Rattle.pdata_value.specs.Numeral.{IsSpelling}
use Rattle.pdata_value.specs.Scan.{is_spelling}
use Rattle.pdata_value.proofs.Numerals.{is_spelled}

refuted : (t : Bool) → (t ≡ true → ⊥) → t ≡ false
refuted true not = absurd (not refl)
refuted false not = refl

pub is_spelling-other : (text : List ℕ) → (IsSpelling text → ⊥) → is_spelling text ≡ false
is_spelling-other text not = refuted (is_spelling text) (λ is. not (is_spelled text is))

pub ruleset spellings = (is_spelling-other)
