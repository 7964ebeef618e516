use Rattle.std.proofs.Common.{◌≡◌, ◌++◌, drop, map}
use Rattle.export_sink.specs.Plans.{goes_in}
use Rattle.export_sink.proofs.plan.ways_to.Given as goal

-- the rows that are made, then those that are left, are all
abbrev pub invariant-loop-exporter : goal.invariant-loop-exporter
invariant-loop-exporter l =
    l.ways ++ map (goes_in l.draft l.legs) (drop l.exporter-index l.exporters) ≡ map (goes_in l.draft l.legs) l.exporters
