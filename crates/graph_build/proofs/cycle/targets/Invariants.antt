use Rattle.std.proofs.Common.{◌≡◌, ◌++◌, drop}
use Rattle.graph_build.specs.Reach.{targets_in}
use Rattle.graph_build.proofs.cycle.targets.Given as goal

-- what was put, then what is left, is the whole
abbrev pub invariant-loop-pipeline : goal.invariant-loop-pipeline
invariant-loop-pipeline l = l.row ++ targets_in l.exits (drop l.pipeline-index l.pipelines) ≡ targets_in l.exits l.pipelines
