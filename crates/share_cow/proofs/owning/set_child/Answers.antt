use Rattle.std.proofs.Common.{length, ap, ◌∙◌, arith}
use Rattle.share_cow.proofs.Slots.{names, names_at}
use Rattle.share_cow.proofs.owning.set_child.Goals as goal

pub set-requires : goal.set-requires
set-requires g c =
    omega (arith, c.requires.there, ap length (names_at c.args.shelf.now c.args.place ∙ ap names c.get_mut.ensures.value))
