use Rattle.std.proofs.Common.{◌≡◌, ◌≤◌, ◌++◌, drop}
use Rattle.graph_build.specs.Exits.{exits_from}
use Rattle.graph_build.proofs.exits.list_exits.Given as goal

-- what was put, then what is left, is the whole; each connector is an exporter
abbrev pub invariant-loop-index : goal.invariant-loop-index
invariant-loop-index l =
    (l.exits ++ exits_from l.connectors l.number (drop l.index l.exporters) ≡ exits_from l.connectors 0 l.exporters)
    × (l.number ≤ l.index)
