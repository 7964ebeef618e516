use Rattle.std.proofs.Common.{length}
use Rattle.otlp_json.specs.Trees.{scope_table, empty_scope}
use Rattle.otlp_json.proofs.ObjectsPassed.{ObjectSoFar}
use Rattle.otlp_json.proofs.direct.trees.scope.Given as goal

-- the members passed, each known key once, give what was read
abbrev pub invariant-loop-more : goal.invariant-loop-more
invariant-loop-more l = ObjectSoFar scope_table empty_scope l.initial.direct.counts l.depth l.fn.direct.cursor l.scope l.taken l.more l.direct

abbrev pub decreases-loop-more : goal.decreases-loop-more
decreases-loop-more l = length l.direct.cursor.left
