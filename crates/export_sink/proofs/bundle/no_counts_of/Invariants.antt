use Rattle.std.proofs.Common.{◌≡◌, ◌++◌, drop, map}
use Rattle.leg_model.specs.Course.{no_counts}
use Rattle.export_sink.proofs.bundle.no_counts_of.Given as goal

-- those that are made, then those that are left, are all
abbrev pub invariant-loop-leg : goal.invariant-loop-leg
invariant-loop-leg l =
    l.counts ++ map (λ leg. no_counts) (drop l.leg-index l.legs) ≡ map (λ leg. no_counts) l.legs
