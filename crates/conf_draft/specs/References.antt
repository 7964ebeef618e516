-- The first fault in the names that pipelines and connectors cite.
use Rattle.std.specs.Prelude.{ℕ, suc, Bool, ◌&&◌, ◌||◌, List, [], ◌∷◌, ◌++◌, length, Option, Some, None, if◌then◌else◌, codes}
use Rattle.std.specs.List.{list_any}
use Rattle.std.specs.Str.{bytes_eq}
use Rattle.conf_shape.specs.declared.kind.FaultKind.{FaultKind}
use Rattle.conf_shape.specs.declared.kind.FaultKind.TheVariants.{UnknownComponent, Repeated, UnknownPipeline, NoReceiver, NoExporter, UnusedConnector}
use Rattle.conf_shape.specs.declared.fault.PointedFault.{PointedFault}
use Rattle.conf_shape.specs.Pointer.{member_of, element_of}
use Rattle.conf_shape.specs.Fault.{fault, first_of}
use Rattle.conf_draft.specs.declared.draft.Draft.{Draft}
use Rattle.conf_draft.specs.declared.draft.RowDraft.{RowDraft}
use Rattle.conf_draft.specs.declared.draft.Connector.{Connector}
use Rattle.conf_draft.specs.declared.draft.Pipeline.{Pipeline}

-- the name stands in the list
abbrev pub is_among : List ℕ → List (List ℕ) → Bool
is_among name names = list_any (bytes_eq name) names

-- it names a connector
abbrev pub is_connector : Draft → List ℕ → Bool
is_connector draft name = list_any (λ c. bytes_eq name c.name) draft.connectors

-- it names what a pipeline may receive from
abbrev pub is_receiver : Draft → List ℕ → Bool
is_receiver draft name = is_among name draft.receivers || is_connector draft name

-- it names a processor
abbrev pub is_processor : Draft → List ℕ → Bool
is_processor draft name = list_any (λ p. bytes_eq name p.name) draft.processors

-- it names what a pipeline may export to
abbrev pub is_exporter : Draft → List ℕ → Bool
is_exporter draft name =
    list_any (λ e. bytes_eq name e.name) draft.exporters || is_connector draft name

-- it names a pipeline that receives from that connector
abbrev pub is_fed_by : Draft → List ℕ → List ℕ → Bool
is_fed_by draft connector name =
    list_any (λ p. bytes_eq name p.name && is_among connector p.receivers) draft.pipelines

-- a fault of that kind at a name that isn't one of them, Repeated at one that stood before
abbrev pub name_fault : (List ℕ → Bool) → FaultKind → List ℕ → List (List ℕ) → List ℕ
    → Option PointedFault
name_fault is_one kind at earlier name =
    if is_one name then (if is_among name earlier then Some (fault Repeated at) else None)
    else Some (fault kind at)

-- the first of those faults among names that stand behind the earlier ones of their list
abbrev pub names_fault : (List ℕ → Bool) → FaultKind → List ℕ → List (List ℕ) → List (List ℕ)
    → Option PointedFault
names_fault is_one kind at earlier [] = None
names_fault is_one kind at earlier (name ∷ names) =
    first_of (name_fault is_one kind (element_of at (length earlier)) earlier name)
    (names_fault is_one kind at (earlier ++ name ∷ []) names)

-- a fault of that kind where the list is empty
abbrev pub empty_fault : FaultKind → List ℕ → List (List ℕ) → Option PointedFault
empty_fault kind at [] = Some (fault kind at)
empty_fault kind at (name ∷ names) = None

-- of the receivers that stand there
abbrev pub receivers_fault : Draft → List ℕ → List (List ℕ) → Option PointedFault
receivers_fault draft at names =
    first_of (empty_fault NoReceiver at names)
    (names_fault (is_receiver draft) UnknownComponent at [] names)

-- of the exporters that stand there
abbrev pub exporters_fault : Draft → List ℕ → List (List ℕ) → Option PointedFault
exporters_fault draft at names =
    first_of (empty_fault NoExporter at names)
    (names_fault (is_exporter draft) UnknownComponent at [] names)

-- of the pipeline that stands there
abbrev pub pipeline_fault : Draft → List ℕ → Pipeline → Option PointedFault
pipeline_fault draft at p =
    first_of (receivers_fault draft (member_of at (codes "receivers")) p.receivers)
    (first_of (names_fault (is_processor draft) UnknownComponent
    (member_of at (codes "processors")) [] p.processors)
    (exporters_fault draft (member_of at (codes "exporters")) p.exporters))

-- of the pipelines that stand there
abbrev pub pipelines_fault : Draft → List ℕ → List Pipeline → Option PointedFault
pipelines_fault draft at [] = None
pipelines_fault draft at (p ∷ ps) =
    first_of (pipeline_fault draft (member_of at p.name) p) (pipelines_fault draft at ps)

-- of the pipelines to which a connector routes
abbrev pub routed_fault : Draft → List ℕ → List ℕ → List (List ℕ) → Option PointedFault
routed_fault draft connector at names =
    names_fault (is_fed_by draft connector) UnknownPipeline at [] names

-- of the pipelines of a row, which stand there
abbrev pub row_fault : Draft → List ℕ → List ℕ → List (List ℕ) → Option PointedFault
row_fault draft connector at names =
    first_of (empty_fault NoExporter at names) (routed_fault draft connector at names)

-- of the rows of a connector from that index on
abbrev pub rows_fault : Draft → List ℕ → List ℕ → ℕ → List RowDraft → Option PointedFault
rows_fault draft connector at index [] = None
rows_fault draft connector at index (row ∷ rows) =
    first_of (row_fault draft connector (member_of (element_of at index) (codes "pipelines"))
    row.pipelines)
    (rows_fault draft connector at (suc index) rows)

-- some pipeline exports to it, and some receives from it
abbrev pub is_used : Draft → List ℕ → Bool
is_used draft connector =
    list_any (λ p. is_among connector p.exporters) draft.pipelines
    && list_any (λ p. is_among connector p.receivers) draft.pipelines

-- UnusedConnector where that isn't so
abbrev pub unused_fault : Draft → List ℕ → List ℕ → Option PointedFault
unused_fault draft at connector =
    if is_used draft connector then None else Some (fault UnusedConnector at)

-- of the rows, then of the default pipelines, of the connector that stands there
abbrev pub routes_fault : Draft → List ℕ → Connector → Option PointedFault
routes_fault draft at c =
    first_of (rows_fault draft c.name (member_of at (codes "table")) 0 c.rows)
    (routed_fault draft c.name (member_of at (codes "default_pipelines")) c.defaults)

-- of the connector that stands there
abbrev pub connector_fault : Draft → List ℕ → Connector → Option PointedFault
connector_fault draft at c =
    first_of (routes_fault draft at c) (unused_fault draft at c.name)

-- of the connectors that stand there
abbrev pub connectors_fault : Draft → List ℕ → List Connector → Option PointedFault
connectors_fault draft at [] = None
connectors_fault draft at (c ∷ cs) =
    first_of (connector_fault draft (member_of at c.name) c) (connectors_fault draft at cs)

-- some pipeline has the file receiver
abbrev pub is_fed : Draft → Bool
is_fed draft =
    list_any (λ p. list_any (λ name. is_among name draft.receivers) p.receivers) draft.pipelines

-- NoReceiver where none has
abbrev pub unfed_fault : Draft → List ℕ → Option PointedFault
unfed_fault draft at = if is_fed draft then None else Some (fault NoReceiver at)

-- where the pipelines stand
abbrev pub pipelines_at : List ℕ
pipelines_at = member_of (member_of [] (codes "service")) (codes "pipelines")

-- where the connectors stand
abbrev pub connectors_at : List ℕ
connectors_at = member_of [] (codes "connectors")

-- of all pipelines, then of all connectors, then of the whole
abbrev pub references_fault : Draft → Option PointedFault
references_fault draft =
    first_of (pipelines_fault draft pipelines_at draft.pipelines)
    (first_of (connectors_fault draft connectors_at draft.connectors)
    (unfed_fault draft pipelines_at))
