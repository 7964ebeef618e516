use Rattle.std.proofs.Common.{length}
use Rattle.otlp_json.specs.Trees.{resource_logs_in}
use Rattle.otlp_json.proofs.Passing.{Listed}
use Rattle.otlp_json.proofs.direct.trees.resources.Given as goal

-- the elements passed give what was read
abbrev pub invariant-loop-more : goal.invariant-loop-more
invariant-loop-more l = Listed resource_logs_in l.depth l.fn.direct l.initial.direct.counts l.resources l.more l.direct

abbrev pub decreases-loop-more : goal.decreases-loop-more
decreases-loop-more l = length l.direct.cursor.left
