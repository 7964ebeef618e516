use Rattle.pdata_tree.specs.Access.{change_at, change_log}
use Rattle.pdata_tree.specs.Fields.{log_takes}
use Rattle.pdata_tree.proofs.Changed.{change_of_item, change_of_part}
use Rattle.pdata_tree.proofs.tree_access.write_log_in.Goals as goal

pub returns : goal.returns
returns c =
    let old = c.at_mut-scope.result.now in
    let new = c.write_log_at.new.logs in
    let done = c.write_log_at.result in
    let change = log_takes c.args.path.now.field c.args.path.now.keys c.args.value in
    change_of_item (change_log c.args.place change) c.args.scopes.now c.args.place.scope old
    record { node = old.node; logs = new } done c.at_mut-scope.ensures.value
    (change_of_part (change_at c.args.place.log change old.logs) old.logs new (λ logs. record { node = old.node; logs = logs })
    done c.write_log_at.ensures)
