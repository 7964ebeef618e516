use Rattle.std.proofs.Common.{List, length, get_or, ◌<◌, ap, subst, ◌∙◌}
use Rattle.shelf.specs.declared.slot.Slot.{Slot}
use Rattle.shelf.proofs.SlotLists.{put_behind, put_in_free}
use Rattle.shelf.proofs.places.put_in.Goals as goal

pub returns-in-Some-Free-clause-ok : goal.returns-in-Some-Free-clause-ok
returns-in-Some-Free-clause-ok g c =
    let found = c.in-Some-Free.ensures.lookup in
    let same = c.deref.ensures.value in
    let there = subst (λ (ss : List (Slot g.row.T.Denot)). c.args.free.now < length ss) same found.3.0 in
    let got = found.1 ∙ ap (λ (ss : List (Slot g.row.T.Denot)). get_or ss c.args.free.now c.in-Some-Free.field-0.now) same in
    put_in_free c.args.slots.now.items c.args.free.now c.in-Some-Free.next c.in-Some-Free.field-0.now c.args.item there got c.in-Some-Free.field-0-is

pub returns-clause-ok : goal.returns-clause-ok
returns-clause-ok g c =
    let items = c.in_ok-push.ensures.items in
    let at = c.len-place.ensures ∙ c.args.slots.now.ok.0 in
    rw (items, at) (put_behind c.args.slots.now.items c.args.item)
