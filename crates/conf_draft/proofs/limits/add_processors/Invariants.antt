use Rattle.std.proofs.Common.{◌≡◌, ◌+◌, ◌-◌, ◌^◌, ◌≤◌, min, drop}
use Rattle.conf_draft.specs.Limits.{processor_counts}
use Rattle.conf_draft.proofs.limits.add_processors.Given as goal

-- what was counted, then what is left, is the whole
abbrev pub invariant-loop-processor : goal.invariant-loop-processor
invariant-loop-processor l =
    (min (l.total + processor_counts (drop l.processor-index l.processors)) (2 ^ 64 - 1)
    ≡ min (l.initial.total + processor_counts l.processors) (2 ^ 64 - 1)) × (l.total ≤ 2 ^ 64 - 1)
