use Rattle.std.proofs.Common.{◌≡◌, drop, slice_get}
use Rattle.graph_build.specs.Exits.{connectors_among}
use Rattle.graph_build.proofs.exits.nth_connector.Given as goal

-- the number among those left is that among all of them
abbrev pub invariant-loop-name : goal.invariant-loop-name
invariant-loop-name l =
    slice_get (connectors_among l.connectors (drop l.name-index l.exporters)) l.left
    ≡ slice_get (connectors_among l.connectors l.exporters) l.number
