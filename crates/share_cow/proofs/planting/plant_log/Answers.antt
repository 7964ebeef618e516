use Rattle.std.proofs.Common.{ap, length, arith}
use Rattle.share_cow.specs.Store.{log_made}
use Rattle.share_cow.proofs.Added.{add_keeps, grows_leaf}
use Rattle.share_cow.proofs.planting.plant_log.Goals as goal

pub returns-clause-ok : goal.returns-clause-ok
returns-clause-ok c = grows_leaf log_made c.args.logs.now c.add.new.self c.in_ok-place.place _ c.in_ok-place.ensures.ok

pub returns-clause-kept : goal.returns-clause-kept
returns-clause-kept c =
    add_keeps c.args.logs.now c.add.new.self c.in_ok-place.place _ c.in_ok-place.ensures.ok c.requires (omega arith) (omega (arith, ap length c.new-children.ensures))
