use Rattle.std.proofs.Common.{◌≡◌, ◌+◌, ◌-◌, ◌^◌, ◌≤◌, min, drop}
use Rattle.graph_build.specs.Built.{root_count}
use Rattle.graph_build.proofs.top.count_roots.Given as goal

-- what was counted, then what is left, is the whole
abbrev pub invariant-loop-pipeline : goal.invariant-loop-pipeline
invariant-loop-pipeline l =
    (min (l.count + root_count l.draft (drop l.pipeline-index l.pipeline-items)) (2 ^ 64 - 1)
    ≡ min (root_count l.draft l.draft.pipelines) (2 ^ 64 - 1)) × (l.count ≤ 2 ^ 64 - 1)
