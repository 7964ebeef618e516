use Rattle.std.proofs.Common.{◌≡◌, drop}
use Rattle.graph_build.specs.Exits.{connector_named}
use Rattle.graph_build.proofs.exits.find_connector.Given as goal

-- those left answer as all of them do
abbrev pub invariant-loop-connector : goal.invariant-loop-connector
invariant-loop-connector l = connector_named l.name (drop l.connector-index l.connectors) ≡ connector_named l.name l.connectors
