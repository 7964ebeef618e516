use Rattle.std.proofs.Common.{◌≡◌, ◌++◌, [], drop, map}
use Rattle.export_sink.specs.Left.{total_by}
use Rattle.export_sink.proofs.bundle.export_none.Given as goal

-- those that are made, then those that are left, are all
abbrev pub invariant-loop-exporter : goal.invariant-loop-exporter
invariant-loop-exporter l =
    (l.texts ++ map (λ e. []) (drop l.exporter-index l.exporters) ≡ map (λ e. []) l.exporters)
    × (l.files ++ map (λ e. total_by []) (drop l.exporter-index l.exporters) ≡ map (λ e. total_by []) l.exporters)
