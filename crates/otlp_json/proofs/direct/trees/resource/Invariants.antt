use Rattle.std.proofs.Common.{length}
use Rattle.otlp_json.specs.Trees.{resource_table, empty_resource}
use Rattle.otlp_json.proofs.ObjectsPassed.{ObjectSoFar}
use Rattle.otlp_json.proofs.direct.trees.resource.Given as goal

-- the members passed, each known key once, give what was read
abbrev pub invariant-loop-more : goal.invariant-loop-more
invariant-loop-more l = ObjectSoFar resource_table empty_resource l.initial.direct.counts l.depth l.fn.direct.cursor l.resource l.taken l.more l.direct

abbrev pub decreases-loop-more : goal.decreases-loop-more
decreases-loop-more l = length l.direct.cursor.left
