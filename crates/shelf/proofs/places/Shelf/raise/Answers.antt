use Rattle.std.proofs.Common.{ℕ, List, Option, ap}
use Rattle.shelf.specs.Places.{raised}
use Rattle.shelf.proofs.SlotLists.{set_slot}
use Rattle.shelf.proofs.places.Shelf.raise.Goals as goal

pub returns : goal.returns
returns g c =
    let live = rw (← c.self.view_is) at c.requires.live in
    rw (← c.self.view_is) (ap (λ (slots : List (Option (g.row.T.Denot × ℕ))). record { slots = slots; added = c.self.inside.added })
    (set_slot c.self.inside.slots.items c.args.place c.index_mut.result.now c.raise.new.self raised live c.index_mut.ensures.value c.raise.ensures))
