-- Log records, scopes, resources and payloads of OTLP (`LogRecord`, `ScopeLogs`, `ResourceLogs`,
-- `LogsData`).
use Rattle.std.specs.Prelude.{ℕ, codes, replicate, pos, List, [], ◌∷◌}
use Rattle.pdata_value.specs.declared.value.Value.TheVariants as values
use Rattle.pdata_tree.specs.declared.batch.Batch.{Batch}
use Rattle.pdata_tree.specs.declared.resource.ResourceNode.{ResourceNode}
use Rattle.pdata_tree.specs.declared.resource.ResourceTree.{ResourceTree}
use Rattle.pdata_tree.specs.declared.scope.ScopeNode.{ScopeNode}
use Rattle.pdata_tree.specs.declared.scope.ScopeTree.{ScopeTree}
use Rattle.pdata_tree.specs.declared.record.LogRecord.{LogRecord}
use Rattle.json_text.specs.Kinds.{as_members}
use Rattle.otlp_json.specs.declared.error.PayloadKind.TheVariants.{NotObject}
use Rattle.otlp_json.specs.Reads.{Reader, or_wrong, ◌>>=◌}
use Rattle.otlp_json.specs.Limits.{most_levels, one_record, one_holder}
use Rattle.otlp_json.specs.Fields.{text_in, u64_in, u32_in, i32_in, id_in}
use Rattle.otlp_json.specs.Objects.{Row, plain, nested, fields, object, list}
use Rattle.otlp_json.specs.Values.{value_in, pairs_in}

-- Log records.

-- a record without members
abbrev pub empty_record : LogRecord
empty_record = record {
  time = 0;
  observed = 0;
  severity = pos 0;
  severity_text = [];
  body = values.Empty;
  attributes = record { items = [] };
  dropped = 0;
  flags = 0;
  trace_id = replicate 16 0;
  span_id = replicate 8 0;
}

-- the members of a log record
unfoldable pub record_table : List (Row LogRecord)
record_table =
    plain (codes "timeUnixNano") u64_in (λ log time. record log { time = time })
    ∷ plain (codes "observedTimeUnixNano") u64_in
    (λ log observed. record log { observed = observed })
    ∷ plain (codes "severityNumber") i32_in (λ log severity. record log { severity = severity })
    ∷ plain (codes "severityText") text_in (λ log text. record log { severity_text = text })
    ∷ nested (codes "body") (value_in most_levels) (λ log body. record log { body = body })
    ∷ nested (codes "attributes") (pairs_in most_levels)
    (λ log attributes. record log { attributes = attributes })
    ∷ plain (codes "droppedAttributesCount") u32_in
    (λ log dropped. record log { dropped = dropped })
    ∷ plain (codes "flags") u32_in (λ log flags. record log { flags = flags })
    ∷ plain (codes "traceId") (id_in 16) (λ log id. record log { trace_id = id })
    ∷ plain (codes "spanId") (id_in 8) (λ log id. record log { span_id = id })
    ∷ []

-- a log record, which is counted before its members are read
unfoldable pub record_in : Reader LogRecord
record_in json n = one_record json.at n >>= object record_table empty_record json

-- Scopes.

-- a scope without members
abbrev pub empty_scope : ScopeNode
empty_scope = record {
  name = [];
  version = [];
  attributes = record { items = [] };
  dropped = 0;
  schema_url = [];
}

-- the members of a scope
unfoldable pub scope_table : List (Row ScopeNode)
scope_table =
    plain (codes "name") text_in (λ scope name. record scope { name = name })
    ∷ plain (codes "version") text_in (λ scope version. record scope { version = version })
    ∷ nested (codes "attributes") (pairs_in most_levels)
    (λ scope attributes. record scope { attributes = attributes })
    ∷ plain (codes "droppedAttributesCount") u32_in
    (λ scope dropped. record scope { dropped = dropped })
    ∷ []

-- a scope
unfoldable pub scope_in : Reader ScopeNode
scope_in = object scope_table empty_scope

-- the log records of a scope
unfoldable pub records_in : Reader (List LogRecord)
records_in = list record_in

-- the schema's URL is the element's
abbrev pub with_scope : ScopeTree → ScopeNode → ScopeTree
with_scope element scope =
    record element { node = record scope { schema_url = element.node.schema_url } }

-- a scope with this URL of its schema
abbrev pub with_scope_schema : ScopeTree → List ℕ → ScopeTree
with_scope_schema element url = record element { node = record element.node { schema_url = url } }

-- the members of a scope element
unfoldable pub scope_logs_table : List (Row ScopeTree)
scope_logs_table =
    nested (codes "scope") scope_in with_scope
    ∷ nested (codes "logRecords") records_in (λ element logs. record element { logs = logs })
    ∷ plain (codes "schemaUrl") text_in with_scope_schema
    ∷ []

-- a scope element without members
abbrev pub empty_scope_logs : ScopeTree
empty_scope_logs = record { node = empty_scope; logs = [] }

-- a scope element, which is counted before its members are read
unfoldable pub scope_logs_in : Reader ScopeTree
scope_logs_in json n = one_holder json.at n >>= object scope_logs_table empty_scope_logs json

-- Resources.

-- a resource without members
abbrev pub empty_resource : ResourceNode
empty_resource = record { attributes = record { items = [] }; dropped = 0; schema_url = [] }

-- the members of a resource
unfoldable pub resource_table : List (Row ResourceNode)
resource_table =
    nested (codes "attributes") (pairs_in most_levels)
    (λ resource attributes. record resource { attributes = attributes })
    ∷ plain (codes "droppedAttributesCount") u32_in
    (λ resource dropped. record resource { dropped = dropped })
    ∷ []

-- a resource
unfoldable pub resource_in : Reader ResourceNode
resource_in = object resource_table empty_resource

-- the scope elements of a resource
unfoldable pub scopes_in : Reader (List ScopeTree)
scopes_in = list scope_logs_in

-- the schema's URL is the element's
abbrev pub with_resource : ResourceTree → ResourceNode → ResourceTree
with_resource element resource =
    record element { node = record resource { schema_url = element.node.schema_url } }

-- a resource with this URL of its schema
abbrev pub with_resource_schema : ResourceTree → List ℕ → ResourceTree
with_resource_schema element url =
    record element { node = record element.node { schema_url = url } }

-- the members of a resource element
unfoldable pub resource_logs_table : List (Row ResourceTree)
resource_logs_table =
    nested (codes "resource") resource_in with_resource
    ∷ nested (codes "scopeLogs") scopes_in (λ element scopes. record element { scopes = scopes })
    ∷ plain (codes "schemaUrl") text_in with_resource_schema
    ∷ []

-- a resource element without members
abbrev pub empty_resource_logs : ResourceTree
empty_resource_logs = record { node = empty_resource; scopes = [] }

-- a resource element, which is counted before its members are read
unfoldable pub resource_logs_in : Reader ResourceTree
resource_logs_in json n =
    one_holder json.at n >>= object resource_logs_table empty_resource_logs json

-- Payloads.

-- the resource elements of a payload
unfoldable pub resources_in : Reader (List ResourceTree)
resources_in = list resource_logs_in

-- the members of a payload
unfoldable pub batch_table : List (Row Batch)
batch_table = nested (codes "resourceLogs") resources_in
    (λ batch resources. record batch { resources = resources }) ∷ []

-- a payload without members
abbrev pub empty_batch : Batch
empty_batch = record { resources = [] }

-- a payload, which has to be an object
unfoldable pub batch_in : Reader Batch
batch_in json n =
    or_wrong NotObject json.at (as_members json)
    >>= λ members. fields batch_table members empty_batch n
