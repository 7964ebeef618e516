use Rattle.std.proofs.Common.{length}
use Rattle.otlp_json.specs.Trees.{scope_logs_table, empty_scope_logs}
use Rattle.otlp_json.proofs.ObjectsPassed.{ObjectSoFar}
use Rattle.otlp_json.proofs.direct.trees.scope_logs.Given as goal

-- the members passed, each known key once, give what was read
abbrev pub invariant-loop-more : goal.invariant-loop-more
invariant-loop-more l = ObjectSoFar scope_logs_table empty_scope_logs l.initial.direct.counts l.depth l.fn.direct.cursor l.element l.taken l.more l.direct

abbrev pub decreases-loop-more : goal.decreases-loop-more
decreases-loop-more l = length l.direct.cursor.left
