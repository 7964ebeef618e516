use Rattle.std.proofs.Common.{◌≡◌, drop}
use Rattle.std.specs.List.{list_any}
use Rattle.std.specs.Str.{bytes_eq}
use Rattle.conf_draft.proofs.names.is_exporter.Given as goal

-- those left answer as all of them do
abbrev pub invariant-loop-exporter : goal.invariant-loop-exporter
invariant-loop-exporter l = list_any (λ e. bytes_eq l.name e.name) (drop l.exporter-index l.exporters) ≡ list_any (λ e. bytes_eq l.name e.name) l.exporters
