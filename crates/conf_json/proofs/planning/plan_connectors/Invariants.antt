use Rattle.std.proofs.Common.{◌≡◌, drop}
use Rattle.conf_shape.specs.Path.{pointer_of}
use Rattle.conf_json.specs.Planning.{connectors_at}
use Rattle.conf_json.proofs.Each.{connectors_from}
use Rattle.conf_json.proofs.planning.plan_connectors.Given as goal

-- the plans so far, then those of the rest, are all plans; the maker refused nothing
abbrev pub invariant-loop-connector : goal.invariant-loop-connector
invariant-loop-connector g l =
    (connectors_from (pointer_of l.path) l.list (drop l.connector-index l.connectors) ≡ connectors_at (pointer_of l.path) l.connectors)
    × (g.P.PatternMaker.refusals l.maker ≡ g.P.PatternMaker.refusals l.initial.maker)
