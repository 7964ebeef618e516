use Rattle.std.proofs.Common.{◌≡◌, drop}
use Rattle.conf_shape.specs.Path.{pointer_of}
use Rattle.graph_build.specs.Cycles.{cycles_fault}
use Rattle.graph_build.proofs.cycle.check_each.Given as goal

-- the pipelines left answer as all of them do
abbrev pub invariant-loop-index : goal.invariant-loop-index
invariant-loop-index l =
    cycles_fault l.draft (pointer_of l.path) (drop l.index l.draft.pipelines)
    ≡ cycles_fault l.draft (pointer_of l.path) l.draft.pipelines
