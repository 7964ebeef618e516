use Rattle.groupby_proc.proofs.Alike.{resources_alike, resource_codes}
use Rattle.groupby_proc.proofs.grouping.group_resources.Goals as goal

pub gather-requires-clause-equivalence : goal.gather-requires-clause-equivalence
gather-requires-clause-equivalence c = resources_alike

pub gather-requires-clause-codes : goal.gather-requires-clause-codes
gather-requires-clause-codes c = resource_codes
