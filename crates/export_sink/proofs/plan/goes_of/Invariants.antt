use Rattle.std.proofs.Common.{◌≡◌, ◌++◌, drop, map}
use Rattle.leg_model.specs.Exports.{goes_to}
use Rattle.export_sink.proofs.plan.goes_of.Given as goal

-- the truths that are found, then those that are left, are all
abbrev pub invariant-loop-leg : goal.invariant-loop-leg
invariant-loop-leg l =
    l.goes ++ map (goes_to l.draft l.exporter.name) (drop l.leg-index l.legs) ≡ map (goes_to l.draft l.exporter.name) l.legs
