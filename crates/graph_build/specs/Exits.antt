-- The ways out of a pipeline: through the connectors that it exports to, in their order, in each
-- through the rows and then through the default.
use Rattle.std.specs.Prelude.{ℕ, suc, Bool, List, [], ◌∷◌, ◌++◌, map, slice_get, Option, Some, None, if◌then◌else◌}
use Rattle.std.specs.List.{list_any}
use Rattle.std.specs.Str.{bytes_eq}
use Rattle.conf_draft.specs.declared.draft.Connector.{Connector}
use Rattle.conf_draft.specs.declared.draft.Draft.{Draft}
use Rattle.conf_draft.specs.declared.draft.Pipeline.{Pipeline}
use Rattle.conf_draft.specs.declared.draft.RowDraft.{RowDraft}
use Rattle.graph_build.specs.declared.exits.Exit.{Exit}

-- the connector with that name
abbrev pub connector_named : List ℕ → List Connector → Option Connector
connector_named name [] = None
connector_named name (c ∷ cs) = if bytes_eq name c.name then Some c else connector_named name cs

-- the pipeline with that name
abbrev pub pipeline_named : List ℕ → List Pipeline → Option Pipeline
pipeline_named name [] = None
pipeline_named name (p ∷ ps) = if bytes_eq name p.name then Some p else pipeline_named name ps

-- through one row, or through the default
abbrev pub exits_to : ℕ → Option ℕ → List (List ℕ) → List Exit
exits_to connector row names =
    map (λ name. record { connector = connector; row = row; pipeline = name }) names

-- through the rows of a connector, from that index on
abbrev pub row_exits : ℕ → ℕ → List RowDraft → List Exit
row_exits connector index [] = []
row_exits connector index (row ∷ rows) =
    exits_to connector (Some index) row.pipelines ++ row_exits connector (suc index) rows

-- through a connector
abbrev pub connector_exits : ℕ → Connector → List Exit
connector_exits number c = row_exits number 0 c.rows ++ exits_to number None c.defaults

-- through the connector that stands there, if one does, with that number; then through others
abbrev pub then_through : ℕ → Option Connector → (ℕ → List Exit) → List Exit
then_through number None others = others number
then_through number (Some c) others = connector_exits number c ++ others (suc number)

-- through the connectors among these exporters, the first of them with that number
abbrev pub exits_from : List Connector → ℕ → List (List ℕ) → List Exit
exits_from connectors number [] = []
exits_from connectors number (name ∷ names) =
    then_through number (connector_named name connectors) (λ n. exits_from connectors n names)

-- out of a pipeline
abbrev pub pipeline_exits : Draft → Option Pipeline → List Exit
pipeline_exits draft None = []
pipeline_exits draft (Some p) = exits_from draft.connectors 0 p.exporters

-- out of the pipeline with that name
abbrev pub exits_of : Draft → List ℕ → List Exit
exits_of draft name = pipeline_exits draft (pipeline_named name draft.pipelines)

-- one of the ways leads to that pipeline
abbrev pub leads_to : List Exit → List ℕ → Bool
leads_to exits name = list_any (λ e. bytes_eq name e.pipeline) exits

-- the connector, if there is one, before others
abbrev pub put_first : Option Connector → List Connector → List Connector
put_first None others = others
put_first (Some c) others = c ∷ others

-- the connectors among these exporters, in their order
abbrev pub connectors_among : List Connector → List (List ℕ) → List Connector
connectors_among connectors [] = []
connectors_among connectors (name ∷ names) =
    put_first (connector_named name connectors) (connectors_among connectors names)

-- the connectors of a pipeline
abbrev pub connectors_of : Draft → Option Pipeline → List Connector
connectors_of draft None = []
connectors_of draft (Some p) = connectors_among draft.connectors p.exporters

-- the connector with that number of the pipeline with that name
abbrev pub connector_at : Draft → List ℕ → ℕ → Option Connector
connector_at draft name number =
    slice_get (connectors_of draft (pipeline_named name draft.pipelines)) number
