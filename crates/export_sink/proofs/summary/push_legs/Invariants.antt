use Rattle.std.proofs.Common.{◌≡◌, ◌++◌, drop}
use Rattle.leg_model.specs.Totals.{leg_lines}
use Rattle.export_sink.proofs.summary.push_legs.Given as goal

-- the lines that were put, then those that are left, are all
abbrev pub invariant-loop-index : goal.invariant-loop-index
invariant-loop-index l =
    l.text.items ++ leg_lines l.index (drop l.index l.legs) l.left ≡ l.initial.text.items ++ leg_lines 0 l.legs l.counts
