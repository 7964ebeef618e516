-- The one written form of a payload (OTLP logs in the JSON encoding of protobuf): members in the
-- order of the tables, what is absent left out, no blanks. It is the text of a value of JSON.
use Rattle.std.specs.Prelude.{ℕ, ℤ, pos, Bool, true, false, ◌==◌, ◌||◌, cond, codes, List, [], ◌∷◌, ◌++◌, map}
use Rattle.std.specs.List.{list_all}
use Rattle.std.specs.Str.{bytes_eq}
use Rattle.std.specs.Ordering.{int_eq}
use Rattle.std.specs.Fmt.{decimal, signed_decimal}
use Rattle.hex.specs.Hex.{encode_lower}
use Rattle.base64.specs.Engines.{standard}
use Rattle.base64.specs.GeneralPurpose as base64
use Rattle.pdata_value.specs.Value.{pairs}
use Rattle.pdata_value.specs.declared.value.Value.{Value, out-Value}
use Rattle.pdata_value.specs.declared.value.Value.TheOpen.{Value-F, Pairs-F, Values-F}
use Rattle.pdata_value.specs.declared.value.Value.TheFolds.{fold-Value}
use Rattle.pdata_value.specs.declared.values.Values.{Values}
use Rattle.pdata_value.specs.declared.pairs.Pairs.{Pairs}
use Rattle.pdata_tree.specs.declared.batch.Batch.{Batch}
use Rattle.pdata_tree.specs.declared.resource.ResourceNode.{ResourceNode}
use Rattle.pdata_tree.specs.declared.resource.ResourceTree.{ResourceTree}
use Rattle.pdata_tree.specs.declared.scope.ScopeNode.{ScopeNode}
use Rattle.pdata_tree.specs.declared.scope.ScopeTree.{ScopeTree}
use Rattle.pdata_tree.specs.declared.record.LogRecord.{LogRecord}
use Rattle.json_text.specs.Kinds.{Member}
use Rattle.json_text.specs.Writing.{text_of}
use Rattle.json_text.specs.declared.json.Json.{Json}
use Rattle.json_text.specs.declared.json.JsonKind.TheVariants as kinds

-- Values of JSON before they are written: no place is meant.

-- a text
abbrev pub text_json : List ℕ → Json
text_json text = record { at = 0; kind = kinds.Text text }

-- a number by its spelling
abbrev pub number_json : List ℕ → Json
number_json spelling = record { at = 0; kind = kinds.Number spelling }

-- a truth
abbrev pub truth_json : Bool → Json
truth_json truth = record { at = 0; kind = kinds.Truth truth }

-- a list of these elements
abbrev pub list_json : List Json → Json
list_json items = record { at = 0; kind = kinds.List items }

-- an object of these members
abbrev pub object_json : List Member → Json
object_json members = record { at = 0; kind = kinds.Object members }

-- a member that is left out where what it holds is as good as absent
abbrev pub unless : Bool → List ℕ → Json → List Member
unless true key json = []
unless false key json = (key, json) ∷ []

-- a list that is left out where it is empty
abbrev pub list_member : List ℕ → List Json → List Member
list_member key [] = []
list_member key (json ∷ jsons) = (key, list_json (json ∷ jsons)) ∷ []

-- an empty text or list of pairs
abbrev pub is_empty : {X : Type 0} → List X → Bool
is_empty [] = true
is_empty (x ∷ xs) = false

-- a text, left out where it is empty
abbrev pub text_member : List ℕ → List ℕ → List Member
text_member key text = unless (is_empty text) key (text_json text)

-- a number of 64 bits is a text
abbrev pub u64_member : List ℕ → ℕ → List Member
u64_member key n = unless (n == 0) key (text_json (decimal n))

-- a number of 32 bits is a numeral
abbrev pub u32_member : List ℕ → ℕ → List Member
u32_member key n = unless (n == 0) key (number_json (decimal n))

-- the same with a sign
abbrev pub i32_member : List ℕ → ℤ → List Member
i32_member key n = unless (int_eq n (pos 0)) key (number_json (signed_decimal n))

-- an id is lower-case hexadecimal; one of zeros alone is the empty id
abbrev pub id_member : List ℕ → List ℕ → List Member
id_member key id = unless (list_all (λ b. b == 0) id) key (text_json (encode_lower id))

-- Values.

-- one of the three words that spell a double and are no numeral
abbrev pub is_word : List ℕ → Bool
is_word spelling =
    bytes_eq spelling (codes "NaN") || bytes_eq spelling (codes "Infinity")
    || bytes_eq spelling (codes "-Infinity")

-- a double is its numeral, or its word in quotes
abbrev pub double_json : List ℕ → Json
double_json spelling = cond (is_word spelling) (text_json spelling) (number_json spelling)

-- an object of one member
abbrev pub one_json : List ℕ → Json → Json
one_json key json = object_json ((key, json) ∷ [])

-- what `arrayValue` and `kvlistValue` hold
abbrev pub values_json : List Json → Json
values_json items = object_json (list_member (codes "values") items)

-- a pair of a key and what its value is written as
abbrev pub pair_of : List ℕ → Json → Json
pair_of key value = object_json ((codes "key", text_json key) ∷ (codes "value", value) ∷ [])

-- a value, whose elements are written so
abbrev pub value_step : Value-F Json (List Json) (List Json) → Json
value_step Value-F.Empty = object_json []
value_step (Value-F.Text text) = one_json (codes "stringValue") (text_json text)
value_step (Value-F.Truth truth) = one_json (codes "boolValue") (truth_json truth)
value_step (Value-F.Int int) = one_json (codes "intValue") (text_json (signed_decimal int))
value_step (Value-F.Double spelling) = one_json (codes "doubleValue") (double_json spelling)
value_step (Value-F.Bytes bytes) =
    one_json (codes "bytesValue") (text_json (base64.encode_of standard bytes))
value_step (Value-F.List items) = one_json (codes "arrayValue") (values_json items)
value_step (Value-F.Map items) = one_json (codes "kvlistValue") (values_json items)

-- the pairs of a map
abbrev pub pairs_step : Pairs-F Json (List Json) (List Json) → List Json
pairs_step map_of = map (λ p. pair_of p.0 p.1) map_of.items

-- the values of a list
abbrev pub values_step : Values-F Json (List Json) (List Json) → List Json
values_step list = list.items

-- a value
unfoldable pub value_json : Value → Json
value_json = fold-Value Json (List Json) (List Json) value_step pairs_step values_step

-- a pair
abbrev pub pair_json : List ℕ × Value → Json
pair_json pair = pair_of pair.0 (value_json pair.1)

-- attributes, left out where there are none
abbrev pub attributes_member : Pairs → List Member
attributes_member attributes = list_member (codes "attributes") (map pair_json (pairs attributes))

-- Trees.

-- whether a kind is the empty value
abbrev pub empty_layer : Value-F Value Pairs Values → Bool
empty_layer Value-F.Empty = true
empty_layer _ = false

-- whether a value is the empty one
unfoldable pub is_empty_value : Value → Bool
is_empty_value value = empty_layer (out-Value value)

-- a body, left out where it is the empty value
abbrev pub body_member : Value → List Member
body_member body = unless (is_empty_value body) (codes "body") (value_json body)

-- a log record
abbrev pub record_members : LogRecord → List Member
record_members log =
    u64_member (codes "timeUnixNano") log.time
    ++ u64_member (codes "observedTimeUnixNano") log.observed
    ++ i32_member (codes "severityNumber") log.severity
    ++ text_member (codes "severityText") log.severity_text
    ++ body_member log.body
    ++ attributes_member log.attributes
    ++ u32_member (codes "droppedAttributesCount") log.dropped
    ++ u32_member (codes "flags") log.flags
    ++ id_member (codes "traceId") log.trace_id
    ++ id_member (codes "spanId") log.span_id

-- a log record
unfoldable pub record_json : LogRecord → Json
record_json log = object_json (record_members log)

-- a scope
abbrev pub scope_members : ScopeNode → List Member
scope_members scope =
    text_member (codes "name") scope.name
    ++ text_member (codes "version") scope.version
    ++ attributes_member scope.attributes
    ++ u32_member (codes "droppedAttributesCount") scope.dropped

-- a scope element
abbrev pub scope_logs_members : ScopeTree → List Member
scope_logs_members element =
    (codes "scope", object_json (scope_members element.node))
    ∷ list_member (codes "logRecords") (map record_json element.logs)
    ++ text_member (codes "schemaUrl") element.node.schema_url

-- a scope with its log records
unfoldable pub scope_logs_json : ScopeTree → Json
scope_logs_json element = object_json (scope_logs_members element)

-- a resource
abbrev pub resource_members : ResourceNode → List Member
resource_members resource =
    attributes_member resource.attributes
    ++ u32_member (codes "droppedAttributesCount") resource.dropped

-- a resource element
abbrev pub resource_logs_members : ResourceTree → List Member
resource_logs_members element =
    (codes "resource", object_json (resource_members element.node))
    ∷ list_member (codes "scopeLogs") (map scope_logs_json element.scopes)
    ++ text_member (codes "schemaUrl") element.node.schema_url

-- a resource with its scopes
unfoldable pub resource_logs_json : ResourceTree → Json
resource_logs_json element = object_json (resource_logs_members element)

-- a payload
unfoldable pub batch_json : Batch → Json
batch_json batch =
    one_json (codes "resourceLogs") (list_json (map resource_logs_json batch.resources))

-- the line
abbrev pub line : Batch → List ℕ
line batch = text_of (batch_json batch)
