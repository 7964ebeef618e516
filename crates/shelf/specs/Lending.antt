-- The loan of one item of a shelf.
use Rattle.std.specs.Prelude.{ℕ}
use Rattle.std.specs.Borrow.{Lends, MutBor, Fml, RattleType}
use Rattle.shelf.specs.Places.{Places, with_item}
use Rattle.shelf.specs.contracts.places.Shelf.{the_row}

-- the shelf ends with the last value written through the loan at the place, and is else as it was
abbrev pub LendsItem : (R : RattleType) → MutBor (Places R.Denot) → ℕ → MutBor R.Denot → Fml
LendsItem R shelf place item = Lends (the_row R) R shelf item (with_item shelf.now place)
