use Rattle.std.proofs.Common.{length}
use Rattle.graph_build.proofs.cycle.+meets.Given as goal

abbrev pub decreases-meets : goal.decreases-meets
decreases-meets l = length l.row.now
