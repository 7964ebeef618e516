-- Which paths a context has (the table of paths in docs/OTTL.md).
use Rattle.std.specs.Prelude.{ℕ, ◌==◌, ◌||◌, cond, codes, List, [], ◌∷◌, length, map, Option, Some, None, Result, Ok, Err}
use Rattle.std.specs.Str.{bytes_eq}
use Rattle.ottl_parse.specs.declared.path.Path.{Path}
use Rattle.ottl_parse.specs.declared.path.PathKey.{PathKey}
use Rattle.ottl_parse.specs.declared.path.PathKey.TheVariants as written
use Rattle.pdata_tree.specs.Paths.{is_field_of, takes_keys}
use Rattle.pdata_tree.specs.declared.path.Field.{Field}
use Rattle.pdata_tree.specs.declared.path.Field.TheVariants as field
use Rattle.pdata_tree.specs.declared.path.Key.{Key}
use Rattle.pdata_tree.specs.declared.path.Key.TheVariants as key
use Rattle.pdata_tree.specs.declared.path.PathTo.{PathTo}
use Rattle.pdata_tree.specs.declared.place.Context.{Context}
use Rattle.ottl_plan.specs.Answers.{fault}
use Rattle.ottl_plan.specs.declared.fault.PlanFault.{PlanFault}
use Rattle.ottl_plan.specs.declared.fault.PlanKind.TheVariants.{UnknownPath}

-- a field of one name
unfoldable pub field_named : List ℕ → Option Field
field_named name =
    cond (bytes_eq name (codes "attributes")) (Some field.Attributes)
    (cond (bytes_eq name (codes "dropped_attributes_count")) (Some field.DroppedAttributesCount)
    (cond (bytes_eq name (codes "name")) (Some field.Name)
    (cond (bytes_eq name (codes "version")) (Some field.Version)
    (cond (bytes_eq name (codes "body")) (Some field.Body)
    (cond (bytes_eq name (codes "severity_number")) (Some field.SeverityNumber)
    (cond (bytes_eq name (codes "severity_text")) (Some field.SeverityText)
    (cond (bytes_eq name (codes "time_unix_nano")) (Some field.Time)
    (cond (bytes_eq name (codes "time")) (Some field.Time)
    (cond (bytes_eq name (codes "observed_time_unix_nano")) (Some field.ObservedTime)
    (cond (bytes_eq name (codes "observed_time")) (Some field.ObservedTime)
    (cond (bytes_eq name (codes "flags")) (Some field.Flags)
    (cond (bytes_eq name (codes "cache")) (Some field.Cache) None))))))))))))

-- a field of the resource, behind `resource.`
unfoldable pub resource_field : List ℕ → Option Field
resource_field name =
    cond (bytes_eq name (codes "attributes")) (Some field.ResourceAttributes)
    (cond (bytes_eq name (codes "dropped_attributes_count"))
    (Some field.ResourceDroppedAttributesCount) None)

-- a field of the scope, behind `instrumentation_scope.`
unfoldable pub scope_field : List ℕ → Option Field
scope_field name =
    cond (bytes_eq name (codes "attributes")) (Some field.InstrumentationScopeAttributes)
    (cond (bytes_eq name (codes "name")) (Some field.InstrumentationScopeName)
    (cond (bytes_eq name (codes "version")) (Some field.InstrumentationScopeVersion) None))

-- a field as a text, behind its name and a point
abbrev pub as_string : Field → List ℕ → Option Field
as_string field name = cond (bytes_eq name (codes "string")) (Some field) None

-- a field of two names
unfoldable pub field_below : List ℕ → List ℕ → Option Field
field_below first second =
    cond (bytes_eq first (codes "resource")) (resource_field second)
    (cond (bytes_eq first (codes "instrumentation_scope")) (scope_field second)
    (cond (bytes_eq first (codes "body")) (as_string field.BodyString second)
    (cond (bytes_eq first (codes "trace_id")) (as_string field.TraceIdString second)
    (cond (bytes_eq first (codes "span_id")) (as_string field.SpanIdString second) None))))

-- the field that names stand for, in the contexts that have it
abbrev pub field_in_any : List (List ℕ) → Option Field
field_in_any (name ∷ []) = field_named name
field_in_any (first ∷ second ∷ []) = field_below first second
field_in_any _ = None

-- a field, where the context has it
abbrev pub if_of : Context → Option Field → Option Field
if_of context None = None
if_of context (Some field) = cond (is_field_of context field) (Some field) None

-- the field that names stand for in a context
abbrev pub field_of : Context → List (List ℕ) → Option Field
field_of context names = if_of context (field_in_any names)

-- a key of a path
abbrev pub key_of : PathKey → Key
key_of (written.Name name) = key.Name name
key_of (written.Index index) = key.Index index

-- a field with keys, where they may follow it
abbrev pub with_keys : ℕ → List PathKey → Option Field → Result PathTo PlanFault
with_keys at keys None = Err (fault UnknownPath at)
with_keys at keys (Some field) =
    cond (takes_keys field || length keys == 0)
    (Ok (record { field = field; keys = map key_of keys }))
    (Err (fault UnknownPath at))

-- a path at a place of the text, in a context
abbrev pub path_of : Context → ℕ → Path → Result PathTo PlanFault
path_of context at path = with_keys at path.keys (field_of context path.names)
