-- How a shelf lays out its places. No public clause cites this module.
use Rattle.std.specs.Prelude.{ℕ, Option, Some, None}
use Rattle.shelf.specs.declared.slot.Slot.{Slot}
use Rattle.shelf.specs.declared.slot.Slot.TheVariants.{Full, Free}

module _ {T : Type 0} where
  -- the item of a slot and its count
  abbrev pub kept_of : Slot T → Option (T × ℕ)
  kept_of (Full item count) = Some (item, count)
  kept_of (Free next) = None

  -- the slot with another item
  abbrev pub slot_with : Slot T → T → Slot T
  slot_with (Full old count) item = Full item count
  slot_with (Free next) item = Free next
