use Rattle.std.proofs.Common.{◌≡◌, ◌+◌, ◌-◌, ◌^◌, ◌≤◌, min, drop}
use Rattle.conf_draft.specs.Limits.{group_counts}
use Rattle.conf_draft.proofs.limits.add_groups.Given as goal

-- what was counted, then what is left, is the whole
abbrev pub invariant-loop-group : goal.invariant-loop-group
invariant-loop-group l =
    (min (l.total + group_counts (drop l.group-index l.groups)) (2 ^ 64 - 1)
    ≡ min (l.initial.total + group_counts l.groups) (2 ^ 64 - 1)) × (l.total ≤ 2 ^ 64 - 1)
