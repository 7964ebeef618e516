use Rattle.std.proofs.Common.{[], ◌∷◌}
use Rattle.share_cow.specs.Store.{log_level, scope_made}
use Rattle.share_cow.proofs.Looks.{found_live, found_value}
use Rattle.share_cow.proofs.looking.copy_scope.Goals as goal

pub copy_logs-requires : goal.copy_logs-requires
copy_logs-requires c =
    rw c.as_slice-below.ensures (found_live c.args.scopes.now c.args.place c.get-scope.result.now (log_level c.args.logs.now) c.get-scope.ensures c.requires.counts.0)

pub returns : goal.returns
returns c =
    rw (c.in_ok-node.ensures, c.in_ok-logs.ensures, c.as_slice-below.ensures)
    (found_value scope_made c.args.scopes.now (log_level c.args.logs.now ∷ []) c.args.place c.get-scope.result.now c.get-scope.ensures)
