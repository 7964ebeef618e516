use Rattle.std.proofs.Common.{◌≡◌, length}
use Rattle.otlp_json.specs.Objects.{fields}
use Rattle.otlp_json.specs.Trees.{scope_table}
use Rattle.otlp_json.proofs.scope.scope_of.Given as goal

-- the members left, behind what was read, give what all of them give
abbrev pub invariant-loop-rest : goal.invariant-loop-rest
invariant-loop-rest l = fields scope_table l.rest l.scope l.counts ≡ fields scope_table l.initial.rest l.initial.scope l.initial.counts

abbrev pub decreases-loop-rest : goal.decreases-loop-rest
decreases-loop-rest l = length l.rest
