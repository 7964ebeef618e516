-- Which legs go to which exporter.
use Rattle.std.specs.Prelude.{Bool, List, map}
use Rattle.conf_draft.specs.declared.draft.Draft.{Draft}
use Rattle.conf_draft.specs.declared.draft.Exporter.{Exporter}
use Rattle.graph_build.specs.declared.leg.Leg.{Leg}
use Rattle.leg_model.specs.Exports.{goes_to}

-- for each of these legs, whether it goes to the exporter
abbrev pub goes_in : Draft → List Leg → Exporter → List Bool
goes_in draft legs e = map (goes_to draft e.name) legs

-- the same for each exporter
abbrev pub ways_in : Draft → List Leg → List (List Bool)
ways_in draft legs = map (goes_in draft legs) draft.exporters
