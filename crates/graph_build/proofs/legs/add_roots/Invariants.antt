use Rattle.std.proofs.Common.{◌≡◌, ◌≤◌, ◌++◌, length, drop}
use Rattle.graph_build.specs.Legs.{max_legs, legs_from}
use Rattle.graph_build.proofs.legs.add_roots.Given as goal

-- the legs that were added, then those of the pipelines left, are all
abbrev pub invariant-loop-pipeline : goal.invariant-loop-pipeline
invariant-loop-pipeline l =
    (l.legs ++ legs_from l.draft (length l.legs) (drop l.pipeline-index l.pipelines)
    ≡ l.initial.legs ++ legs_from l.draft (length l.initial.legs) l.pipelines)
    × (length l.initial.legs ≤ max_legs → length l.legs ≤ max_legs)
