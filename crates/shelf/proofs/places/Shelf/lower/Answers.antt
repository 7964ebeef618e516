use Rattle.std.proofs.Common.{ℕ, List, Option, ap, sym, ◌∙◌}
use Rattle.shelf.specs.Places.{given_up, lowered}
use Rattle.shelf.proofs.SlotLists.{kept_here, set_slot}
use Rattle.shelf.proofs.places.Shelf.lower.Goals as goal

pub returns-then-is_some-clause-slot : goal.returns-then-is_some-clause-slot
returns-then-is_some-clause-slot g c =
    let live = rw (← c.self.view_is) at c.requires in
    rw (← c.self.view_is) (ap (λ (slots : List (Option (g.row.T.Denot × ℕ))). record { slots = slots; added = c.self.inside.added })
    (set_slot c.self.inside.slots.items c.args.place c.index_mut.result.now c.lower-given.new.self lowered live c.index_mut.ensures.value c.lower-given.ensures.slot))

pub returns-then-is_some-clause-item : goal.returns-then-is_some-clause-item
returns-then-is_some-clause-item g c =
    let live = rw (← c.self.view_is) at c.requires in
    rw (← c.self.view_is) (c.lower-given.ensures.item ∙ ap given_up (sym (kept_here c.self.inside.slots.items c.args.place c.index_mut.result.now live c.index_mut.ensures.value)))

pub returns-else-is_some-clause-slot : goal.returns-else-is_some-clause-slot
returns-else-is_some-clause-slot g c =
    let live = rw (← c.self.view_is) at c.requires in
    rw (← c.self.view_is) (ap (λ (slots : List (Option (g.row.T.Denot × ℕ))). record { slots = slots; added = c.self.inside.added })
    (set_slot c.self.inside.slots.items c.args.place c.index_mut.result.now c.lower-given.new.self lowered live c.index_mut.ensures.value c.lower-given.ensures.slot))

pub returns-else-is_some-clause-item : goal.returns-else-is_some-clause-item
returns-else-is_some-clause-item g c =
    let live = rw (← c.self.view_is) at c.requires in
    rw (← c.self.view_is) (c.lower-given.ensures.item ∙ ap given_up (sym (kept_here c.self.inside.slots.items c.args.place c.index_mut.result.now live c.index_mut.ensures.value)))
