use Rattle.share_cow.specs.Store.{resource_made, scope_level, scope_levels}
use Rattle.share_cow.proofs.Looks.{found_live, found_value}
use Rattle.share_cow.proofs.looking.copy_resource.Goals as goal

pub copy_scopes-requires-clause-live : goal.copy_scopes-requires-clause-live
copy_scopes-requires-clause-live c =
    rw c.as_slice-below.ensures (found_live c.args.resources.now c.args.place c.get-resource.result.now (scope_level c.args.scopes.now) c.get-resource.ensures c.requires.counts.0)

pub returns : goal.returns
returns c =
    rw (c.in_ok-node.ensures, c.in_ok-scopes.ensures, c.as_slice-below.ensures)
    (found_value resource_made c.args.resources.now (scope_levels c.args.scopes.now c.args.logs.now) c.args.place c.get-resource.result.now c.get-resource.ensures)
