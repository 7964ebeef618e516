-- Trees that are read are payloads that can be written.
use Rattle.std.proofs.Common.{◌≡◌, ℕ, ◌<◌, ◌^◌, List, [], Result, Ok, Err, refl, subst, arith, w32}
use Rattle.std.specs.Prelude.{codes}
use Rattle.std.specs.Int.RustNames.{FitsSigned}
use Rattle.std.specs.List.{All}
use Rattle.std.specs.Str.{IsUtf8}
use Rattle.std.proofs.lemmas.Int.{ints}
use Rattle.std.proofs.lemmas.List.Elements.{All-nil}
use Rattle.std.proofs.lemmas.Str.{IsUtf8-nil}
use Rattle.pdata_tree.specs.declared.batch.Batch.{Batch}
use Rattle.pdata_tree.specs.declared.resource.ResourceTree.{ResourceTree}
use Rattle.pdata_tree.specs.declared.scope.ScopeTree.{ScopeTree}
use Rattle.pdata_tree.specs.declared.record.LogRecord.{LogRecord}
use Rattle.json_text.specs.Kinds.{Member, as_members}
use Rattle.json_text.specs.Reading.{json_text}
use Rattle.json_text.specs.declared.json.Json.{Json}
use Rattle.json_text.specs.declared.error.JsonFault.{JsonFault}
use Rattle.otlp_json.specs.declared.error.PayloadKind.TheVariants.{NotObject}
use Rattle.otlp_json.specs.Reads.{or_wrong}
use Rattle.otlp_json.specs.Fields.{text_in, u64_in, u32_in, i32_in, id_in}
use Rattle.otlp_json.specs.Limits.{most_containers, most_levels, none_counted, one_record, one_holder}
use Rattle.otlp_json.specs.Objects.{fields, object}
use Rattle.otlp_json.specs.Payload.{payload, payload_of}
use Rattle.otlp_json.specs.Trees.{batch_in, batch_table, empty_batch, empty_record, empty_resource, empty_resource_logs, empty_scope, empty_scope_logs, record_in, record_table, records_in, resource_in, resource_logs_in, resource_logs_table, resource_table, resources_in, scope_in, scope_logs_in, scope_logs_table, scope_table, scopes_in, with_resource, with_resource_schema, with_scope, with_scope_schema}
use Rattle.otlp_json.specs.Values.{pairs_in, value_in}
use Rattle.otlp_json.specs.WellFormed.{IsValue, IsAttributes, IsId, IsRecord, IsScope, IsScopeLogs, IsResource, IsResourceLogs, IsPayload}
use Rattle.otlp_json.proofs.Measured.{first_read, same_read}
use Rattle.otlp_json.proofs.TreesMeasured.{payload-within}
use Rattle.payload_laws.proofs.DecodedBytes.{zero_bytes}
use Rattle.payload_laws.proofs.ReadJson.{Good, members_good}
use Rattle.payload_laws.proofs.ReadFields.{found, text-gives, u64-gives, u32-gives, i32-gives, id-gives}
use Rattle.payload_laws.proofs.ReadObjects.{Counts, Gives, TableKeeps, plain-keeps, nested-keeps, fields-keep, object-gives, list-gives}
use Rattle.payload_laws.proofs.ReadValues.{IsPair, empty-is, pairs-give, value-gives}

-- Records.

attributes-give : Gives IsAttributes (pairs_in most_levels)
unfolding pairs_in
attributes-give = pairs-give most_levels (value_in most_levels) (value-gives most_levels)

no_attributes : IsAttributes (record { items = [] })
no_attributes = All-nil (IsPair most_levels (value_in most_levels) (value-gives most_levels))

record_table-keeps : TableKeeps IsRecord record_table
unfolding record_table
record_table-keeps = (
  plain-keeps IsRecord (λ n. n < 2 ^ 64) (codes "timeUnixNano") u64_in (λ log x. record log { time = x }) u64-gives (λ log x h q. record { time = q; observed = h.observed; severity = h.severity; severity_text = h.severity_text; body = h.body; attributes = h.attributes; dropped = h.dropped; flags = h.flags; trace_id = h.trace_id; span_id = h.span_id }),
  (
    plain-keeps IsRecord (λ n. n < 2 ^ 64) (codes "observedTimeUnixNano") u64_in (λ log x. record log { observed = x }) u64-gives (λ log x h q. record { time = h.time; observed = q; severity = h.severity; severity_text = h.severity_text; body = h.body; attributes = h.attributes; dropped = h.dropped; flags = h.flags; trace_id = h.trace_id; span_id = h.span_id }),
    (
      plain-keeps IsRecord (FitsSigned w32) (codes "severityNumber") i32_in (λ log x. record log { severity = x }) i32-gives (λ log x h q. record { time = h.time; observed = h.observed; severity = q; severity_text = h.severity_text; body = h.body; attributes = h.attributes; dropped = h.dropped; flags = h.flags; trace_id = h.trace_id; span_id = h.span_id }),
      (
        plain-keeps IsRecord IsUtf8 (codes "severityText") text_in (λ log x. record log { severity_text = x }) text-gives (λ log x h q. record { time = h.time; observed = h.observed; severity = h.severity; severity_text = q; body = h.body; attributes = h.attributes; dropped = h.dropped; flags = h.flags; trace_id = h.trace_id; span_id = h.span_id }),
        (
          nested-keeps IsRecord (IsValue most_levels) (codes "body") (value_in most_levels) (λ log x. record log { body = x }) (value-gives most_levels) (λ log x h q. record { time = h.time; observed = h.observed; severity = h.severity; severity_text = h.severity_text; body = q; attributes = h.attributes; dropped = h.dropped; flags = h.flags; trace_id = h.trace_id; span_id = h.span_id }),
          (
            nested-keeps IsRecord IsAttributes (codes "attributes") (pairs_in most_levels) (λ log x. record log { attributes = x }) attributes-give (λ log x h q. record { time = h.time; observed = h.observed; severity = h.severity; severity_text = h.severity_text; body = h.body; attributes = q; dropped = h.dropped; flags = h.flags; trace_id = h.trace_id; span_id = h.span_id }),
            (
              plain-keeps IsRecord (λ n. n < 2 ^ 32) (codes "droppedAttributesCount") u32_in (λ log x. record log { dropped = x }) u32-gives (λ log x h q. record { time = h.time; observed = h.observed; severity = h.severity; severity_text = h.severity_text; body = h.body; attributes = h.attributes; dropped = q; flags = h.flags; trace_id = h.trace_id; span_id = h.span_id }),
              (
                plain-keeps IsRecord (λ n. n < 2 ^ 32) (codes "flags") u32_in (λ log x. record log { flags = x }) u32-gives (λ log x h q. record { time = h.time; observed = h.observed; severity = h.severity; severity_text = h.severity_text; body = h.body; attributes = h.attributes; dropped = h.dropped; flags = q; trace_id = h.trace_id; span_id = h.span_id }),
                (
                  plain-keeps IsRecord (IsId 16) (codes "traceId") (id_in 16) (λ log x. record log { trace_id = x }) (id-gives 16) (λ log x h q. record { time = h.time; observed = h.observed; severity = h.severity; severity_text = h.severity_text; body = h.body; attributes = h.attributes; dropped = h.dropped; flags = h.flags; trace_id = q; span_id = h.span_id }),
                  (
                    plain-keeps IsRecord (IsId 8) (codes "spanId") (id_in 8) (λ log x. record log { span_id = x }) (id-gives 8) (λ log x h q. record { time = h.time; observed = h.observed; severity = h.severity; severity_text = h.severity_text; body = h.body; attributes = h.attributes; dropped = h.dropped; flags = h.flags; trace_id = h.trace_id; span_id = q }),
                    tt,
                  ),
                ),
              ),
            ),
          ),
        ),
      ),
    ),
  ),
)

empty_record-is : IsRecord empty_record
empty_record-is = record {
  time = omega arith;
  observed = omega arith;
  severity = omega (arith, ints);
  severity_text = IsUtf8-nil;
  body = empty-is 63;
  attributes = no_attributes;
  dropped = omega arith;
  flags = omega arith;
  trace_id = zero_bytes 16;
  span_id = zero_bytes 8;
}

record-gives : Gives IsRecord record_in
unfolding record_in
record-gives json n x m good is =
    let one = first_read {A = Counts} {B = LogRecord × Counts} (one_record json.at n) (object record_table empty_record json) (x, m) is in
    object-gives IsRecord record_table record_table-keeps empty_record empty_record-is json one.0 x m good one.2

records-give : Gives (All IsRecord) records_in
unfolding records_in
records-give = list-gives IsRecord record_in record-gives

-- Scopes.

scope_table-keeps : TableKeeps IsScope scope_table
unfolding scope_table
scope_table-keeps = (
  plain-keeps IsScope IsUtf8 (codes "name") text_in (λ scope name. record scope { name = name }) text-gives (λ scope x h q. record { name = q; version = h.version; attributes = h.attributes; dropped = h.dropped; schema_url = h.schema_url }),
  (
    plain-keeps IsScope IsUtf8 (codes "version") text_in (λ scope version. record scope { version = version }) text-gives (λ scope x h q. record { name = h.name; version = q; attributes = h.attributes; dropped = h.dropped; schema_url = h.schema_url }),
    (
      nested-keeps IsScope IsAttributes (codes "attributes") (pairs_in most_levels) (λ scope attributes. record scope { attributes = attributes }) attributes-give
          (λ scope x h q. record { name = h.name; version = h.version; attributes = q; dropped = h.dropped; schema_url = h.schema_url }),
      (
        plain-keeps IsScope (λ n. n < 2 ^ 32) (codes "droppedAttributesCount") u32_in (λ scope dropped. record scope { dropped = dropped }) u32-gives
            (λ scope x h q. record { name = h.name; version = h.version; attributes = h.attributes; dropped = q; schema_url = h.schema_url }),
        tt,
      ),
    ),
  ),
)

empty_scope-is : IsScope empty_scope
empty_scope-is = record { name = IsUtf8-nil; version = IsUtf8-nil; attributes = no_attributes; dropped = omega arith; schema_url = IsUtf8-nil }

scope-gives : Gives IsScope scope_in
unfolding scope_in
scope-gives = object-gives IsScope scope_table scope_table-keeps empty_scope empty_scope-is

scope_logs_table-keeps : TableKeeps IsScopeLogs scope_logs_table
unfolding scope_logs_table
scope_logs_table-keeps = (
  nested-keeps IsScopeLogs IsScope (codes "scope") scope_in with_scope scope-gives (λ element x h q. record { node = record { name = q.name; version = q.version; attributes = q.attributes; dropped = q.dropped; schema_url = h.node.schema_url }; logs = h.logs }),
  (
    nested-keeps IsScopeLogs (All IsRecord) (codes "logRecords") records_in (λ element logs. record element { logs = logs }) records-give (λ element x h q. record { node = h.node; logs = q }),
    (
      plain-keeps IsScopeLogs IsUtf8 (codes "schemaUrl") text_in with_scope_schema text-gives
          (λ element x h q. record { node = record { name = h.node.name; version = h.node.version; attributes = h.node.attributes; dropped = h.node.dropped; schema_url = q }; logs = h.logs }),
      tt,
    ),
  ),
)

empty_scope_logs-is : IsScopeLogs empty_scope_logs
empty_scope_logs-is = record { node = empty_scope-is; logs = All-nil IsRecord }

scope_logs-give : Gives IsScopeLogs scope_logs_in
unfolding scope_logs_in
scope_logs-give json n x m good is =
    let one = first_read {A = Counts} {B = ScopeTree × Counts} (one_holder json.at n) (object scope_logs_table empty_scope_logs json) (x, m) is in
    object-gives IsScopeLogs scope_logs_table scope_logs_table-keeps empty_scope_logs empty_scope_logs-is json one.0 x m good one.2

scopes-give : Gives (All IsScopeLogs) scopes_in
unfolding scopes_in
scopes-give = list-gives IsScopeLogs scope_logs_in scope_logs-give

-- Resources.

resource_table-keeps : TableKeeps IsResource resource_table
unfolding resource_table
resource_table-keeps = (
  nested-keeps IsResource IsAttributes (codes "attributes") (pairs_in most_levels) (λ resource attributes. record resource { attributes = attributes }) attributes-give
      (λ resource x h q. record { attributes = q; dropped = h.dropped; schema_url = h.schema_url }),
  (
    plain-keeps IsResource (λ n. n < 2 ^ 32) (codes "droppedAttributesCount") u32_in (λ resource dropped. record resource { dropped = dropped }) u32-gives
        (λ resource x h q. record { attributes = h.attributes; dropped = q; schema_url = h.schema_url }),
    tt,
  ),
)

empty_resource-is : IsResource empty_resource
empty_resource-is = record { attributes = no_attributes; dropped = omega arith; schema_url = IsUtf8-nil }

resource-gives : Gives IsResource resource_in
unfolding resource_in
resource-gives = object-gives IsResource resource_table resource_table-keeps empty_resource empty_resource-is

resource_logs_table-keeps : TableKeeps IsResourceLogs resource_logs_table
unfolding resource_logs_table
resource_logs_table-keeps = (
  nested-keeps IsResourceLogs IsResource (codes "resource") resource_in with_resource resource-gives
      (λ element x h q. record { node = record { attributes = q.attributes; dropped = q.dropped; schema_url = h.node.schema_url }; scopes = h.scopes }),
  (
    nested-keeps IsResourceLogs (All IsScopeLogs) (codes "scopeLogs") scopes_in (λ element scopes. record element { scopes = scopes }) scopes-give
        (λ element x h q. record { node = h.node; scopes = q }),
    (
      plain-keeps IsResourceLogs IsUtf8 (codes "schemaUrl") text_in with_resource_schema text-gives
          (λ element x h q. record { node = record { attributes = h.node.attributes; dropped = h.node.dropped; schema_url = q }; scopes = h.scopes }),
      tt,
    ),
  ),
)

empty_resource_logs-is : IsResourceLogs empty_resource_logs
empty_resource_logs-is = record { node = empty_resource-is; scopes = All-nil IsScopeLogs }

resource_logs-give : Gives IsResourceLogs resource_logs_in
unfolding resource_logs_in
resource_logs-give json n x m good is =
    let one = first_read {A = Counts} {B = ResourceTree × Counts} (one_holder json.at n) (object resource_logs_table empty_resource_logs json) (x, m) is in
    object-gives IsResourceLogs resource_logs_table resource_logs_table-keeps empty_resource_logs empty_resource_logs-is json one.0 x m good one.2

resources-give : Gives (All IsResourceLogs) resources_in
unfolding resources_in
resources-give = list-gives IsResourceLogs resource_logs_in resource_logs-give

-- Payloads.

-- all but the limits
abbrev AreResources : Batch → Type 0
AreResources batch = All IsResourceLogs batch.resources

batch_table-keeps : TableKeeps AreResources batch_table
unfolding batch_table
batch_table-keeps = (
  nested-keeps AreResources (All IsResourceLogs) (codes "resourceLogs") resources_in (λ batch resources. record batch { resources = resources }) resources-give (λ batch x h q. q),
  tt,
)

batch-gives : Gives AreResources batch_in
unfolding batch_in
batch-gives json n batch m good is =
    let went = first_read {A = List Member} {B = Batch × Counts} (or_wrong NotObject json.at (as_members json)) (λ members. fields batch_table members empty_batch n) (batch, m) is in
    fields-keep AreResources batch_table batch_table-keeps went.0 empty_batch n batch m (members_good json went.0 good (found NotObject json.at (as_members json) went.0 went.1)) went.2
    (All-nil IsResourceLogs)

-- What is read as JSON is good.
module _ (good : (line : List ℕ) (json : Json) → json_text line most_containers ≡ Ok json → Good json) where
  resources-read : (line : List ℕ) (batch : Batch) (read : Result Json JsonFault) → json_text line most_containers ≡ read → payload_of read ≡ Ok batch → AreResources batch
  resources-read line batch (Ok json) there is =
      let went = first_read {A = Batch × Counts} {B = Batch} (batch_in json none_counted) (λ p. Ok p.0) batch is in
      subst AreResources (same_read {Y = Batch} went.0.0 batch went.2) (batch-gives json none_counted went.0.0 went.0.1 (good line json there) went.1)
  resources-read line batch (Err fault) there is = absurd (cc is)

  -- a payload that is read can be written
  pub read-is : (line : List ℕ) (batch : Batch) → payload line ≡ Ok batch → IsPayload batch
  unfolding payload
  read-is line batch is = record {
    resources = resources-read line batch (json_text line most_containers) refl is;
    within = payload-within line batch is;
  }
