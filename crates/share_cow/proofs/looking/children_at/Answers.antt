use Rattle.std.proofs.Common.{ap, sym, ◌∙◌}
use Rattle.share_cow.proofs.Slots.{names, names_at}
use Rattle.share_cow.proofs.looking.children_at.Goals as goal

pub returns : goal.returns
returns g c = c.as_slice.ensures ∙ ap names (sym c.get.ensures) ∙ sym (names_at c.args.shelf.now c.args.place)
