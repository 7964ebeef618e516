use Rattle.graph_build.proofs.Deeper.{legs_below-deeper}
use Rattle.graph_build.proofs.laws.deeper_looks_find_the_same.Goals as goal

pub returns : goal.returns
returns c = legs_below-deeper
