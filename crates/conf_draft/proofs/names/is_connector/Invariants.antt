use Rattle.std.proofs.Common.{◌≡◌, drop}
use Rattle.std.specs.List.{list_any}
use Rattle.std.specs.Str.{bytes_eq}
use Rattle.conf_draft.proofs.names.is_connector.Given as goal

-- those left answer as all of them do
abbrev pub invariant-loop-connector : goal.invariant-loop-connector
invariant-loop-connector l = list_any (λ c. bytes_eq l.name c.name) (drop l.connector-index l.connectors) ≡ list_any (λ c. bytes_eq l.name c.name) l.connectors
