-- The first fault in the numbers and the paths of a configuration.
use Rattle.std.specs.Prelude.{ℕ, ◌+◌, nat_lt, List, [], ◌∷◌, ◌++◌, length, Option, Some, None, if◌then◌else◌, codes}
use Rattle.conf_shape.specs.declared.kind.FaultKind.TheVariants.{TooManyPipelines, TooManyStatements, SamePath}
use Rattle.conf_shape.specs.declared.fault.PointedFault.{PointedFault}
use Rattle.conf_shape.specs.Pointer.{member_of}
use Rattle.conf_shape.specs.Fault.{fault, first_of}
use Rattle.conf_draft.specs.declared.draft.GroupDraft.{GroupDraft}
use Rattle.conf_draft.specs.declared.draft.ProcessorKind.{ProcessorKind}
use Rattle.conf_draft.specs.declared.draft.ProcessorKind.TheVariants.{Transform, Filter, GroupByAttrs}
use Rattle.conf_draft.specs.declared.draft.Processor.{Processor}
use Rattle.conf_draft.specs.declared.draft.Connector.{Connector}
use Rattle.conf_draft.specs.declared.draft.Exporter.{Exporter}
use Rattle.conf_draft.specs.declared.draft.Draft.{Draft}
use Rattle.conf_draft.specs.References.{is_among, pipelines_at}

-- how many pipelines there may be
abbrev pub max_pipelines : ℕ
max_pipelines = 32

-- how many statements, conditions and groups there may be together
abbrev pub max_statements : ℕ
max_statements = 1024

-- the groups with their statements and conditions
abbrev pub group_counts : List GroupDraft → ℕ
group_counts [] = 0
group_counts (g ∷ gs) = 1 + (length g.conditions + length g.statements) + group_counts gs

-- the statements, conditions and groups of a processor
abbrev pub kind_count : ProcessorKind → ℕ
kind_count (Transform t) = group_counts t.groups
kind_count (Filter f) = length f.conditions
kind_count (GroupByAttrs keys) = 0

-- those of processors
abbrev pub processor_counts : List Processor → ℕ
processor_counts [] = 0
processor_counts (p ∷ ps) = kind_count p.kind + processor_counts ps

-- the conditions of connectors: one a row
abbrev pub connector_counts : List Connector → ℕ
connector_counts [] = 0
connector_counts (c ∷ cs) = length c.rows + connector_counts cs

-- all statements, conditions and groups
abbrev pub statement_count : Draft → ℕ
statement_count draft = processor_counts draft.processors + connector_counts draft.connectors

-- TooManyPipelines past the limit
abbrev pub pipelines_limit_fault : Draft → Option PointedFault
pipelines_limit_fault draft =
    if nat_lt max_pipelines (length draft.pipelines)
    then Some (fault TooManyPipelines pipelines_at) else None

-- TooManyStatements past the limit
abbrev pub statements_limit_fault : Draft → Option PointedFault
statements_limit_fault draft =
    if nat_lt max_statements (statement_count draft)
    then Some (fault TooManyStatements []) else None

-- SamePath where an earlier exporter has that path
abbrev pub path_fault : List ℕ → List (List ℕ) → List ℕ → Option PointedFault
path_fault at earlier path = if is_among path earlier then Some (fault SamePath at) else None

-- the first of those faults among exporters that stand behind the earlier paths
abbrev pub paths_fault : List ℕ → List (List ℕ) → List Exporter → Option PointedFault
paths_fault at earlier [] = None
paths_fault at earlier (e ∷ es) =
    first_of (path_fault (member_of (member_of at e.name) (codes "path")) earlier e.path)
    (paths_fault at (earlier ++ e.path ∷ []) es)

-- SamePath at the first exporter whose path is one of the names, or that of an exporter before it
abbrev pub files_fault : List (List ℕ) → Draft → Option PointedFault
files_fault taken draft = paths_fault (member_of [] (codes "exporters")) taken draft.exporters

-- of the pipelines, then of the statements, then of the exporters' paths
abbrev pub limits_fault : Draft → Option PointedFault
limits_fault draft =
    first_of (pipelines_limit_fault draft)
    (first_of (statements_limit_fault draft)
    (files_fault [] draft))
