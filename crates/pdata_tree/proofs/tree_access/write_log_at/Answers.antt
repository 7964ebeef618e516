use Rattle.std.proofs.Common.{List, subst}
use Rattle.pdata_tree.specs.Changes.{Changes}
use Rattle.pdata_tree.specs.Fields.{log_takes}
use Rattle.pdata_tree.specs.declared.path.Key.{Key}
use Rattle.pdata_tree.proofs.Changed.{change_of_item}
use Rattle.pdata_tree.proofs.tree_access.write_log_at.Goals as goal

pub returns : goal.returns
returns c =
    let old = c.at_mut-log.result.now in
    let new = c.write_log.new.log in
    let done = c.write_log.result in
    change_of_item (log_takes c.args.path.now.field c.args.path.now.keys c.args.value)
    c.args.logs.now c.args.place.log old new done c.at_mut-log.ensures.value
    (subst (λ (keys : List Key). Changes (log_takes c.args.path.now.field keys c.args.value old) old new done)
    c.as_slice.ensures c.write_log.ensures)
