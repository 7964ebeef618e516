use Rattle.std.proofs.Common.{ap, arith}
use Rattle.shelf.specs.Places.{count_of}
use Rattle.share_cow.proofs.Added.{add_slot, content_added, filled}
use Rattle.share_cow.proofs.planting.add_node.Goals as goal

pub get_mut-requires : goal.get_mut-requires
get_mut-requires g c =
    omega (arith, ap count_of (add_slot c.args.shelf.now c.add.new.self c.in-Ok.place _ c.in-Ok.ensures.ok))

pub returns-in-Ok-clause-ok : goal.returns-in-Ok-clause-ok
returns-in-Ok-clause-ok g c =
    rw (content_added c.args.shelf.now c.add.new.self c.in-Ok.place _ c.get_mut.result.now c.in-Ok.ensures.ok c.get_mut.ensures.value)
    (filled c.args.shelf.now c.add.new.self c.in-Ok.place _ _ c.in-Ok.ensures.ok)
