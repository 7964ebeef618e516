use Rattle.std.proofs.Common.{◌≡◌, ◌++◌, length}
use Rattle.leg_model.specs.Sums as spec
use Rattle.export_sink.proofs.totals.plus_files.Given as goal

-- the sums that are made, then those that are left, are all
abbrev pub invariant-loop-a : goal.invariant-loop-a
invariant-loop-a l = l.sums ++ spec.plus_files l.a l.b ≡ spec.plus_files l.fn.a l.fn.b

abbrev pub decreases-loop-a : goal.decreases-loop-a
decreases-loop-a l = length l.a
