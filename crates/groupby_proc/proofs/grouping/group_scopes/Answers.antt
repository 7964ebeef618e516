use Rattle.groupby_proc.proofs.Alike.{scopes_alike, scope_codes}
use Rattle.groupby_proc.proofs.grouping.group_scopes.Goals as goal

pub gather-requires-clause-equivalence : goal.gather-requires-clause-equivalence
gather-requires-clause-equivalence c = scopes_alike

pub gather-requires-clause-codes : goal.gather-requires-clause-codes
gather-requires-clause-codes c = scope_codes
