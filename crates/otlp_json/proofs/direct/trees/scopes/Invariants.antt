use Rattle.std.proofs.Common.{length}
use Rattle.otlp_json.specs.Trees.{scope_logs_in}
use Rattle.otlp_json.proofs.Passing.{Listed}
use Rattle.otlp_json.proofs.direct.trees.scopes.Given as goal

-- the elements passed give what was read
abbrev pub invariant-loop-more : goal.invariant-loop-more
invariant-loop-more l = Listed scope_logs_in l.depth l.fn.direct l.initial.direct.counts l.scopes l.more l.direct

abbrev pub decreases-loop-more : goal.decreases-loop-more
decreases-loop-more l = length l.direct.cursor.left
