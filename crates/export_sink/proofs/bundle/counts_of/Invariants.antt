use Rattle.std.proofs.Common.{◌≡◌, ◌++◌, drop, map}
use Rattle.leg_model.specs.Course.{Outcome}
use Rattle.pdata_tree.specs.declared.batch.Batch.{Batch}
use Rattle.plain_legs.specs.Views.{outcome_of}
use Rattle.export_sink.proofs.bundle.counts_of.Given as goal

-- those that are found, then those that are left, are all
abbrev pub invariant-loop-outcome : goal.invariant-loop-outcome
invariant-loop-outcome l =
    l.counts ++ map (λ (o : Outcome Batch). o.counts) (map outcome_of (drop l.outcome-index l.left))
    ≡ map (λ (o : Outcome Batch). o.counts) (map outcome_of l.left)
