-- What a disk holds under its names.
use Rattle.std.specs.Prelude.{◌≡◌, ◌≢◌, ◌++◌, ℕ, List, [], take, drop, Option, Some, None}
use Rattle.contract_words.specs.Fronts.{IsFront}

-- the bytes under each name; None where the name isn't there
abbrev pub Held : Type 0
Held = List ℕ → Option (List ℕ)

-- each name holds what it held
abbrev pub SameHeld : Held → Held → Type 0
SameHeld old new = (name : List ℕ) → new name ≡ old name

-- each name but this one holds what it held
abbrev pub OthersStay : List ℕ → Held → Held → Type 0
OthersStay name old new = (other : List ℕ) → other ≢ name → new other ≡ old other

-- the name was there, and holds that many bytes of the piece behind what it held
pub record Appended (name piece : List ℕ) (count : ℕ) (old new : Held) : Type 0 where
  pub there : (was : List ℕ) × (old name ≡ Some was) × (new name ≡ Some (was ++ take count piece))
  pub others : OthersStay name old new

-- the name, where it was there, holds some front of the bytes behind what it held
pub record AddsFront (name bytes : List ℕ) (old new : Held) : Type 0 where
  pub front : (added : List ℕ) × IsFront added bytes
      × ((was : List ℕ) → old name ≡ Some was → new name ≡ Some (was ++ added))
  pub absent : old name ≡ None → new name ≡ None
  pub others : OthersStay name old new

-- the bytes under a name from that place on
abbrev pub rest_from : Option (List ℕ) → ℕ → List ℕ
rest_from None at = []
rest_from (Some all) at = drop at all
