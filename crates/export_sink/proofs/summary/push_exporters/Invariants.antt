use Rattle.std.proofs.Common.{◌≡◌, ◌++◌, length}
use Rattle.leg_model.specs.Totals.{exporter_lines}
use Rattle.export_sink.proofs.summary.push_exporters.Given as goal

-- the lines that were put, then those that are left, are all
abbrev pub invariant-loop-exporters : goal.invariant-loop-exporters
invariant-loop-exporters l =
    l.text.items ++ exporter_lines l.exporters l.totals ≡ l.initial.text.items ++ exporter_lines l.fn.exporters l.fn.totals

abbrev pub decreases-loop-exporters : goal.decreases-loop-exporters
decreases-loop-exporters l = length l.exporters
