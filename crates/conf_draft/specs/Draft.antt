-- What a configuration of a right shape spells; of another shape these words say nothing that
-- counts.
use Rattle.std.specs.Prelude.{ℕ, List, [], ◌∷◌, Option, Some, None, if◌then◌else◌, codes, unwrap_or}
use Prim.Native.String.{String}
use Rattle.std.specs.Str.{bytes_eq}
use Rattle.serde_json.specs.Data.{Data, string, array, object, Items, no_items, item, Members, no_members, member}
use Rattle.serde_json.specs.Find.{get}
use Rattle.pdata_tree.specs.declared.place.Context.{Context}
use Rattle.pdata_tree.specs.declared.place.Context.TheVariants.{Resource, Scope, Log}
use Rattle.conf_shape.specs.ComponentName.{type_of}
use Rattle.conf_draft.specs.declared.draft.ErrorMode.{ErrorMode}
use Rattle.conf_draft.specs.declared.draft.ErrorMode.TheVariants.{Ignore, Silent, Propagate}
use Rattle.conf_draft.specs.declared.draft.Action.{Action}
use Rattle.conf_draft.specs.declared.draft.Action.TheVariants.{Move, Copy}
use Rattle.conf_draft.specs.declared.draft.GroupDraft.{GroupDraft}
use Rattle.conf_draft.specs.declared.draft.TransformDraft.{TransformDraft}
use Rattle.conf_draft.specs.declared.draft.FilterDraft.{FilterDraft}
use Rattle.conf_draft.specs.declared.draft.ProcessorKind.{ProcessorKind}
use Rattle.conf_draft.specs.declared.draft.ProcessorKind.TheVariants.{Transform, Filter, GroupByAttrs}
use Rattle.conf_draft.specs.declared.draft.Processor.{Processor}
use Rattle.conf_draft.specs.declared.draft.RowDraft.{RowDraft}
use Rattle.conf_draft.specs.declared.draft.Connector.{Connector}
use Rattle.conf_draft.specs.declared.draft.Exporter.{Exporter}
use Rattle.conf_draft.specs.declared.draft.Pipeline.{Pipeline}
use Rattle.conf_draft.specs.declared.draft.Draft.{Draft}

-- the member with that name, where there is one
abbrev pub at : String → Data → Option Data
at name d = get (codes name) d

-- the member of a member
abbrev pub within : String → Option Data → Option Data
within name None = None
within name (Some d) = at name d

-- the text there; empty where none stands
abbrev pub text_of : Option Data → List ℕ
text_of (Some (string text)) = text
text_of _ = []

-- the elements there
abbrev pub elements_of : Option Data → Items
elements_of (Some (array ds)) = ds
elements_of _ = no_items

-- the members there
abbrev pub members_of : Option Data → Members
members_of (Some (object ms)) = ms
members_of _ = no_members

-- what each element spells
abbrev pub each : {X : Type 0} → (Data → X) → Items → List X
each read no_items = []
each read (item d ds) = read d ∷ each read ds

-- what each member spells
abbrev pub each_named : {X : Type 0} → (List ℕ → Data → X) → Members → List X
each_named read no_members = []
each_named read (member name d ms) = read name d ∷ each_named read ms

-- the list of texts there
abbrev pub texts_of : Option Data → List (List ℕ)
texts_of there = each (λ d. text_of (Some d)) (elements_of there)

-- the names of the members there
abbrev pub names_of : Option Data → List (List ℕ)
names_of there = each_named (λ name d. name) (members_of there)

-- an error mode; absent it is `propagate`
abbrev pub mode_of : List ℕ → ErrorMode
mode_of text =
    if bytes_eq text (codes "ignore") then Ignore
    else (if bytes_eq text (codes "silent") then Silent else Propagate)

-- the context of a group
abbrev pub context_of : List ℕ → Context
context_of text =
    if bytes_eq text (codes "resource") then Resource
    else (if bytes_eq text (codes "scope") then Scope else Log)

-- the context of a row; absent it is `resource`
abbrev pub row_context_of : List ℕ → Context
row_context_of text = if bytes_eq text (codes "log") then Log else Resource

-- an action; absent it is `move`
abbrev pub action_of : List ℕ → Action
action_of text = if bytes_eq text (codes "copy") then Copy else Move

-- a group of statements
abbrev pub group_of : Data → GroupDraft
group_of d = record {
  context = context_of (text_of (at "context" d));
  conditions = texts_of (at "conditions" d);
  statements = texts_of (at "statements" d);
}

-- what stands under a `transform`
abbrev pub transform_of : Data → TransformDraft
transform_of d = record {
  mode = mode_of (text_of (at "error_mode" d));
  groups = each group_of (elements_of (at "log_statements" d));
}

-- what stands under a `filter`
abbrev pub filter_of : Data → FilterDraft
filter_of d = record {
  mode = mode_of (text_of (at "error_mode" d));
  conditions = texts_of (within "log_record" (at "logs" d));
}

-- a processor of that type
abbrev pub kind_of : List ℕ → Data → ProcessorKind
kind_of type_name d =
    if bytes_eq type_name (codes "transform") then Transform (transform_of d)
    else (if bytes_eq type_name (codes "filter") then Filter (filter_of d)
    else GroupByAttrs (texts_of (at "keys" d)))

-- a processor with that name
abbrev pub processor_of : List ℕ → Data → Processor
processor_of name d = record { name = name; kind = kind_of (unwrap_or (type_of name) []) d }

-- a row of a routing table
abbrev pub row_of : Data → RowDraft
row_of d = record {
  context = row_context_of (text_of (at "context" d));
  condition = text_of (at "condition" d);
  pipelines = texts_of (at "pipelines" d);
  action = action_of (text_of (at "action" d));
}

-- a routing connector with that name
abbrev pub connector_of : List ℕ → Data → Connector
connector_of name d = record {
  name = name;
  mode = mode_of (text_of (at "error_mode" d));
  rows = each row_of (elements_of (at "table" d));
  defaults = texts_of (at "default_pipelines" d);
}

-- an exporter with that name
abbrev pub exporter_of : List ℕ → Data → Exporter
exporter_of name d = record { name = name; path = text_of (at "path" d) }

-- a pipeline with that name
abbrev pub pipeline_of : List ℕ → Data → Pipeline
pipeline_of name d = record {
  name = name;
  receivers = texts_of (at "receivers" d);
  processors = texts_of (at "processors" d);
  exporters = texts_of (at "exporters" d);
}

-- all that a configuration spells
abbrev pub draft_of : Data → Draft
draft_of d = record {
  receivers = names_of (at "receivers" d);
  processors = each_named processor_of (members_of (at "processors" d));
  connectors = each_named connector_of (members_of (at "connectors" d));
  exporters = each_named exporter_of (members_of (at "exporters" d));
  pipelines = each_named pipeline_of (members_of (within "pipelines" (at "service" d)));
}
