use Rattle.std.proofs.Common.{◌≡◌, ◌++◌, drop}
use Rattle.graph_build.specs.Reach.{rows_in}
use Rattle.graph_build.proofs.cycle.table.Given as goal

-- what was put, then what is left, is the whole
abbrev pub invariant-loop-pipeline : goal.invariant-loop-pipeline
invariant-loop-pipeline l = l.rows ++ rows_in l.draft (drop l.pipeline-index l.pipelines) ≡ rows_in l.draft l.pipelines
