-- A payload is read as before wherever it stands.
use Rattle.std.proofs.Common.{◌≡◌, ◌∙◌, ℕ, ◌+◌, List, [], map, Ok, Err, Some, None, Option, refl, ap, nat_lt}
use Rattle.std.specs.Prelude.{codes}
use Rattle.pdata_tree.specs.declared.batch.Batch.{Batch}
use Rattle.json_text.specs.Kinds.{Member, as_members}
use Rattle.json_text.specs.Placed.{Placing, placed_items, placing, placed}
use Rattle.json_text.specs.declared.json.Json.{Json}
use Rattle.json_text.specs.declared.json.JsonKind.TheVariants as kinds
use Rattle.json_text.proofs.Layers.{placing-List, placing-Object}
use Rattle.json_text.proofs.KindLemmas.{as_members-Object, as_members-back}
use Rattle.otlp_json.specs.declared.counts.Counts.{Counts}
use Rattle.otlp_json.specs.declared.error.PayloadKind.TheVariants.{TooMany, NotObject}
use Rattle.otlp_json.specs.Reads.{Read, Reader, wrong, or_wrong, ◌>>=◌, each}
use Rattle.otlp_json.specs.Limits.{most_records, most_holders, most_levels, one_record, one_holder}
use Rattle.otlp_json.specs.Fields.{text_in, u64_in, u32_in, i32_in, id_in, items_in}
use Rattle.otlp_json.specs.Objects.{fields, list}
use Rattle.otlp_json.specs.Values.{value_in, pairs_in}
use Rattle.otlp_json.specs.Trees.{empty_record, record_table, record_in, empty_scope, scope_table, scope_in, records_in, scope_logs_table, empty_scope_logs, scope_logs_in, empty_resource, resource_table, resource_in, scopes_in, resource_logs_table, empty_resource_logs, resource_logs_in, resources_in, batch_table, empty_batch, batch_in}
use Rattle.otlp_json.proofs.PlaceFree.{bind-free, test-free, text-free, u64-free, u32-free, i32-free, id-free, items-back, items_in-List, placed_all, FreeRows, plain-free, fields-free, object-free}
use Rattle.otlp_json.proofs.ValuesFree.{ReaderFree, nested-free, each-free, value-free, pairs_by-free}

module _ {X : Type 0} (one : Reader X) (free : ReaderFree one) where
  list_by : (json : Json) (at : ℕ) (n : Counts) (p : List X × Counts) (r : Read (List Json)) → items_in json ≡ r
      → (r >>= λ js. each one [] js n) ≡ Ok p → list one (placed at json) n ≡ Ok p
  list_by json at n p (Ok js) is ok =
      let there = placed_items (at + 1) (map placing js) in
      ap (λ (q : Placing Json). list one (q.1 at) n) (placing-List json js (items-back json js is))
      ∙ ap (λ (r : Read (List Json)). r >>= λ ks. each one [] ks n) (items_in-List (record { at = at; kind = kinds.List there }) there refl)
      ∙ each-free one free js (at + 1) [] n p ok
  list_by json at n p (Err e) is ok = absurd cc

  list-free : ReaderFree (list one)
  list-free json at n p ok = list_by json at n p (items_in json) refl ok

attributes-free : (levels : ℕ) → ReaderFree (pairs_in levels)
unfolding pairs_in
attributes-free levels json at n p ok = pairs_by-free levels (value_in levels) (value-free levels) json at n p ok

record-limit : (at to : ℕ) (n m : Counts) → one_record at n ≡ Ok m → one_record to n ≡ Ok m
record-limit at to n m ok = test-free (nat_lt n.records most_records) (Ok _) (wrong TooMany at) (Ok _) (wrong TooMany to) m (λ is. is) (λ is. absurd cc) ok

holder-limit : (at to : ℕ) (n m : Counts) → one_holder at n ≡ Ok m → one_holder to n ≡ Ok m
holder-limit at to n m ok = test-free (nat_lt n.holders most_holders) (Ok _) (wrong TooMany at) (Ok _) (wrong TooMany to) m (λ is. is) (λ is. absurd cc) ok

record_rows : FreeRows record_table
unfolding record_table
record_rows = (
  plain-free (codes "timeUnixNano") u64_in _ u64-free,
  (
    plain-free (codes "observedTimeUnixNano") u64_in _ u64-free,
    (
      plain-free (codes "severityNumber") i32_in _ i32-free,
      (
        plain-free (codes "severityText") text_in _ text-free,
        (
          nested-free (codes "body") (value_in most_levels) _ (value-free most_levels),
          (
            nested-free (codes "attributes") (pairs_in most_levels) _ (attributes-free most_levels),
            (
              plain-free (codes "droppedAttributesCount") u32_in _ u32-free,
              (
                plain-free (codes "flags") u32_in _ u32-free,
                (plain-free (codes "traceId") (id_in 16) _ (id-free 16), (plain-free (codes "spanId") (id_in 8) _ (id-free 8), tt)),
              ),
            ),
          ),
        ),
      ),
    ),
  ),
)

record-free : ReaderFree record_in
unfolding record_in
record-free json at n p ok =
    bind-free (one_record json.at n) (one_record (placed at json).at n) _ _ p (λ m is. record-limit json.at (placed at json).at n m is)
    (λ m is. object-free record_table record_rows empty_record json at m p is) ok

records-free : ReaderFree records_in
unfolding records_in
records-free json at n p ok = list-free record_in record-free json at n p ok

scope_rows : FreeRows scope_table
unfolding scope_table
scope_rows = (
  plain-free (codes "name") text_in _ text-free,
  (
    plain-free (codes "version") text_in _ text-free,
    (
      nested-free (codes "attributes") (pairs_in most_levels) _ (attributes-free most_levels),
      (plain-free (codes "droppedAttributesCount") u32_in _ u32-free, tt),
    ),
  ),
)

scope-free : ReaderFree scope_in
unfolding scope_in
scope-free json at n p ok = object-free scope_table scope_rows empty_scope json at n p ok

scope_logs_rows : FreeRows scope_logs_table
unfolding scope_logs_table
scope_logs_rows = (
  nested-free (codes "scope") scope_in _ scope-free,
  (nested-free (codes "logRecords") records_in _ records-free, (plain-free (codes "schemaUrl") text_in _ text-free, tt)),
)

scope_logs-free : ReaderFree scope_logs_in
unfolding scope_logs_in
scope_logs-free json at n p ok =
    bind-free (one_holder json.at n) (one_holder (placed at json).at n) _ _ p (λ m is. holder-limit json.at (placed at json).at n m is)
    (λ m is. object-free scope_logs_table scope_logs_rows empty_scope_logs json at m p is) ok

scopes-free : ReaderFree scopes_in
unfolding scopes_in
scopes-free json at n p ok = list-free scope_logs_in scope_logs-free json at n p ok

resource_rows : FreeRows resource_table
unfolding resource_table
resource_rows = (
  nested-free (codes "attributes") (pairs_in most_levels) _ (attributes-free most_levels),
  (plain-free (codes "droppedAttributesCount") u32_in _ u32-free, tt),
)

resource-free : ReaderFree resource_in
unfolding resource_in
resource-free json at n p ok = object-free resource_table resource_rows empty_resource json at n p ok

resource_logs_rows : FreeRows resource_logs_table
unfolding resource_logs_table
resource_logs_rows = (
  nested-free (codes "resource") resource_in _ resource-free,
  (nested-free (codes "scopeLogs") scopes_in _ scopes-free, (plain-free (codes "schemaUrl") text_in _ text-free, tt)),
)

resource_logs-free : ReaderFree resource_logs_in
unfolding resource_logs_in
resource_logs-free json at n p ok =
    bind-free (one_holder json.at n) (one_holder (placed at json).at n) _ _ p (λ m is. holder-limit json.at (placed at json).at n m is)
    (λ m is. object-free resource_logs_table resource_logs_rows empty_resource_logs json at m p is) ok

resources-free : ReaderFree resources_in
unfolding resources_in
resources-free json at n p ok = list-free resource_logs_in resource_logs-free json at n p ok

batch_rows : FreeRows batch_table
unfolding batch_table
batch_rows = (nested-free (codes "resourceLogs") resources_in _ resources-free, tt)

batch_by : (json : Json) (at : ℕ) (n : Counts) (p : Batch × Counts) (o : Option (List Member)) → as_members json ≡ o
    → (or_wrong NotObject json.at o >>= λ ms. fields batch_table ms empty_batch n) ≡ Ok p → batch_in (placed at json) n ≡ Ok p
unfolding batch_in
batch_by json at n p (Some ms) is ok =
    let there = placed_all (at + 1) ms in
    ap (λ (q : Placing Json). batch_in (q.1 at) n) (placing-Object json ms (as_members-back json ms is))
    ∙ ap (λ (o : Option (List Member)). or_wrong NotObject at o >>= λ ns. fields batch_table ns empty_batch n)
    (as_members-Object (record { at = at; kind = kinds.Object there }) there refl)
    ∙ fields-free batch_table batch_rows ms (at + 1) empty_batch n p ok
batch_by json at n p None is ok = absurd cc

-- a payload is read as before wherever it stands
pub batch-free : ReaderFree batch_in
unfolding batch_in
batch-free json at n p ok = batch_by json at n p (as_members json) refl ok
