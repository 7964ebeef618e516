use Rattle.std.proofs.Common.{ℕ, List, Option, refl, ap, ◌∙◌}
use Rattle.std.specs.Prelude.{option_map}
use Rattle.shelf.specs.Slots.{slot_with}
use Rattle.shelf.proofs.SlotLists.{kept_here, kept_with, set_slot}
use Rattle.shelf.proofs.places.Shelf.get_mut.Goals as goal

pub returns : goal.returns
returns g c =
    let live = rw (← c.self.view_is) at c.requires in
    let here = kept_here c.self.inside.slots.items c.args.place c.index_mut.result.now live c.index_mut.ensures.value in (
      (
        refl,
        λ w. rw (← c.self.view_is) (ap (λ (slots : List (Option (g.row.T.Denot × ℕ))). record { slots = slots; added = c.self.inside.added })
            (set_slot c.self.inside.slots.items c.args.place c.index_mut.result.now (slot_with c.index_mut.result.now w) (option_map (λ kept. (w, kept.1))) live
            c.index_mut.ensures.value (kept_with c.index_mut.result.now w))),
      ),
      record { writes_back = tt; value = rw (← c.self.view_is) (ap (option_map (λ kept. kept.0)) here ∙ c.item_mut.ensures.value) },
    )
