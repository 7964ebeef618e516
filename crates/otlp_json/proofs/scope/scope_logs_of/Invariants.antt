use Rattle.std.proofs.Common.{◌≡◌, length}
use Rattle.otlp_json.specs.Objects.{fields}
use Rattle.otlp_json.specs.Trees.{scope_logs_table}
use Rattle.otlp_json.proofs.scope.scope_logs_of.Given as goal

-- the members left, behind what was read, give what all of them give
abbrev pub invariant-loop-rest : goal.invariant-loop-rest
invariant-loop-rest l = fields scope_logs_table l.rest l.element l.counts ≡ fields scope_logs_table l.initial.rest l.initial.element l.initial.counts

abbrev pub decreases-loop-rest : goal.decreases-loop-rest
decreases-loop-rest l = length l.rest
