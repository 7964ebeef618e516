use Rattle.graph_build.proofs.Short.{reaches-short}
use Rattle.graph_build.proofs.laws.cycles_are_short.Goals as goal

pub returns : goal.returns
returns c = reaches-short
