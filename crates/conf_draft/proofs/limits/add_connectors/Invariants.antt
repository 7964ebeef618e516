use Rattle.std.proofs.Common.{◌≡◌, ◌+◌, ◌-◌, ◌^◌, ◌≤◌, min, drop}
use Rattle.conf_draft.specs.Limits.{connector_counts}
use Rattle.conf_draft.proofs.limits.add_connectors.Given as goal

-- what was counted, then what is left, is the whole
abbrev pub invariant-loop-connector : goal.invariant-loop-connector
invariant-loop-connector l =
    (min (l.total + connector_counts (drop l.connector-index l.connectors)) (2 ^ 64 - 1)
    ≡ min (l.initial.total + connector_counts l.connectors) (2 ^ 64 - 1)) × (l.total ≤ 2 ^ 64 - 1)
