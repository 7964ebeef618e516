use Rattle.std.proofs.Common.{◌≡◌, ◌++◌, drop}
use Rattle.graph_build.specs.Reach.{named_in}
use Rattle.graph_build.proofs.cycle.named.Given as goal

-- what was put, then what is left, is the whole
abbrev pub invariant-loop-pipeline : goal.invariant-loop-pipeline
invariant-loop-pipeline l = l.flags ++ named_in l.name (drop l.pipeline-index l.pipelines) ≡ named_in l.name l.pipelines
