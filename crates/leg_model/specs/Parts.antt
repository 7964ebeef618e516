-- What the names in a pipeline stand for.
use Rattle.std.specs.Prelude.{ℕ, List, [], ◌∷◌, ◌++◌, filter, map, Option, Some, None, if◌then◌else◌}
use Rattle.std.specs.Str.{bytes_eq}
use Rattle.conf_draft.specs.References.{is_among}
use Rattle.conf_draft.specs.declared.draft.Draft.{Draft}
use Rattle.conf_draft.specs.declared.draft.Pipeline.{Pipeline}
use Rattle.conf_json.specs.declared.settings.Meant.{Meant}
use Rattle.conf_json.specs.declared.settings.ProcessorSettings.{ProcessorSettings}
use Rattle.conf_json.specs.declared.settings.RouteSettings.{RouteSettings}
use Rattle.graph_build.specs.Exits.{pipeline_named}

-- A pipeline's processors, and the connectors among its exporters, as they were planned.
pub record Parts : Type 0 where
  pub processors : List ProcessorSettings
  pub connectors : List RouteSettings

-- what a name among these stands for, by the list of what they stand for
abbrev pub named : {X : Type 0} → List ℕ → List (List ℕ) → List X → Option X
named name [] xs = None
named name (n ∷ ns) [] = None
named name (n ∷ ns) (x ∷ xs) = if bytes_eq name n then Some x else named name ns xs

-- one more, where there is one
abbrev pub with_found : {X : Type 0} → Option X → List X → List X
with_found None xs = xs
with_found (Some x) xs = x ∷ xs

-- what those of the names that are among these stand for, in the order of the names
abbrev pub all_named : {X : Type 0} → List (List ℕ) → List (List ℕ) → List X → List X
all_named [] known xs = []
all_named (n ∷ ns) known xs = with_found (named n known xs) (all_named ns known xs)

-- the names of the processors
abbrev pub processor_names : Draft → List (List ℕ)
processor_names draft = map (λ p. p.name) draft.processors

-- the names of the connectors
abbrev pub connector_names : Draft → List (List ℕ)
connector_names draft = map (λ c. c.name) draft.connectors

-- the parts of a pipeline
abbrev pub pipeline_parts : Meant → Option Pipeline → Parts
pipeline_parts meant None = record { processors = []; connectors = [] }
pipeline_parts meant (Some p) = record {
  processors = all_named p.processors (processor_names meant.draft) meant.planned.processors;
  connectors = all_named p.exporters (connector_names meant.draft) meant.planned.connectors;
}

-- the parts of the pipeline with that name
abbrev pub parts_of : Meant → List ℕ → Parts
parts_of meant name = pipeline_parts meant (pipeline_named name meant.draft.pipelines)

-- those of the names that are known
abbrev pub known_among : List (List ℕ) → List (List ℕ) → List (List ℕ)
known_among known names = filter (λ name. is_among name known) names

-- the names of those parts: of the processors, then of the connectors
abbrev pub pipeline_part_names : Draft → Option Pipeline → List (List ℕ)
pipeline_part_names draft None = []
pipeline_part_names draft (Some p) =
    known_among (processor_names draft) p.processors
    ++ known_among (connector_names draft) p.exporters

-- the names of the parts of the pipeline with that name
abbrev pub part_names : Draft → List ℕ → List (List ℕ)
part_names draft name = pipeline_part_names draft (pipeline_named name draft.pipelines)
