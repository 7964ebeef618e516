use Rattle.std.proofs.Common.{length}
use Rattle.otlp_json.specs.Trees.{batch_table, empty_batch}
use Rattle.otlp_json.proofs.ObjectsPassed.{ObjectSoFar}
use Rattle.otlp_json.proofs.direct.trees.batch.Given as goal

-- the members passed, each known key once, give what was read
abbrev pub invariant-loop-more : goal.invariant-loop-more
invariant-loop-more l = ObjectSoFar batch_table empty_batch l.initial.direct.counts l.depth l.fn.direct.cursor l.batch l.taken l.more l.direct

abbrev pub decreases-loop-more : goal.decreases-loop-more
decreases-loop-more l = length l.direct.cursor.left
