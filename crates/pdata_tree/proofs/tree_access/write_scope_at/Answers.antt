use Rattle.std.proofs.Common.{List, subst}
use Rattle.pdata_tree.specs.Access.{scope_written}
use Rattle.pdata_tree.specs.Changes.{Changes}
use Rattle.pdata_tree.specs.Fields.{scope_takes}
use Rattle.pdata_tree.specs.declared.path.Key.{Key}
use Rattle.pdata_tree.proofs.Changed.{change_of_item, change_of_part}
use Rattle.pdata_tree.proofs.tree_access.write_scope_at.Goals as goal

pub returns : goal.returns
returns c =
    let old = c.at_mut-scope.result.now in
    let new = c.write_scope.new.node in
    let done = c.write_scope.result in
    let field = c.args.path.now.field in
    let keys = c.args.path.now.keys in
    let written = subst (λ (ks : List Key). Changes (scope_takes field ks c.args.value old.node) old.node new done)
    c.as_slice.ensures c.write_scope.ensures in
    change_of_item (scope_written field keys c.args.value) c.args.scopes.now c.args.place.scope old
    record { node = new; logs = old.logs } done c.at_mut-scope.ensures.value
    (change_of_part (scope_takes field keys c.args.value old.node) old.node new (λ node. record { node = node; logs = old.logs })
    done written)
