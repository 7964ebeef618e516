use Rattle.std.proofs.Common.{ap, sym, ◌∙◌, length, arith}
use Rattle.share_cow.proofs.Owned.{copied, still_live}
use Rattle.share_cow.proofs.Slots.{names, names_at}
use Rattle.share_cow.proofs.owning.copy_node.Goals as goal

pub lower-requires : goal.lower-requires
lower-requires g c = still_live c.args.shelf.now c.add.new.self c.args.place c.in_ok-new.new _ c.requires.shared c.in_ok-new.ensures.ok

pub returns-clause-ok : goal.returns-clause-ok
returns-clause-ok g c =
    let same = c.in_ok-children.ensures ∙ c.as_slice.ensures ∙ ap names (sym c.get.ensures) ∙ sym (names_at c.args.shelf.now c.args.place) in
    rw c.lower.ensures.slot
    (copied c.args.shelf.now c.add.new.self c.args.place c.in_ok-new.new _ c.requires.kept c.requires.shared c.in_ok-new.ensures.ok (omega arith)
    (omega (arith, ap length same, c.requires.kept.small.short c.args.place)) same)
