-- To which pipelines connectors lead, as truths about pipelines.
use Rattle.std.specs.Prelude.{ℕ, Bool, List, [], ◌∷◌}
use Rattle.std.specs.Str.{bytes_eq}
use Rattle.conf_draft.specs.declared.draft.Draft.{Draft}
use Rattle.conf_draft.specs.declared.draft.Pipeline.{Pipeline}
use Rattle.graph_build.specs.declared.exits.Exit.{Exit}
use Rattle.graph_build.specs.Cycles.{reaches}
use Rattle.graph_build.specs.Exits.{exits_of, leads_to}

-- to which of the pipelines the ways lead
abbrev pub targets_in : List Exit → List Pipeline → List Bool
targets_in exits [] = []
targets_in exits (p ∷ ps) = leads_to exits p.name ∷ targets_in exits ps

-- for each of the pipelines, to which pipelines connectors lead from it
abbrev pub rows_in : Draft → List Pipeline → List (List Bool)
rows_in draft [] = []
rows_in draft (p ∷ ps) = targets_in (exits_of draft p.name) draft.pipelines ∷ rows_in draft ps

-- which of the pipelines has that name
abbrev pub named_in : List ℕ → List Pipeline → List Bool
named_in name [] = []
named_in name (p ∷ ps) = bytes_eq name p.name ∷ named_in name ps

-- which of the pipelines reach the one with that name in at most so many steps
abbrev pub reach_in : Draft → ℕ → List ℕ → List Pipeline → List Bool
reach_in draft steps name [] = []
reach_in draft steps name (p ∷ ps) = reaches draft steps p.name name ∷ reach_in draft steps name ps
