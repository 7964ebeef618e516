-- Values and trees that are read are no larger than what was counted.
use Rattle.std.proofs.Common.{◌≡◌, ◌∙◌, ◌⊎◌, inl, inr, ℕ, zero, suc, ◌-◌, ◌≤◌, Bool, true, false, List, [], ◌∷◌, Option, Some, None, Result, Ok, Err, refl, sym, ap, subst, arith}
use Rattle.std.specs.Prelude.{◌&&◌, ◌||◌, cond, codes}
use Rattle.std.specs.Str.{bytes_eq}
use Rattle.pdata_value.specs.Value.{items, pairs}
use Rattle.pdata_value.specs.declared.value.Value.{Value, out-Value}
use Rattle.pdata_value.specs.declared.value.Value.TheOpen.{Value-F}
use Rattle.pdata_value.specs.declared.value.Value.TheViews.{out-roll-Value}
use Rattle.pdata_value.specs.declared.value.Value.TheVariants as values
use Rattle.pdata_value.specs.declared.values.Values.{Values}
use Rattle.pdata_value.specs.declared.pairs.Pairs.{Pairs}
use Rattle.pdata_tree.specs.declared.batch.Batch.{Batch}
use Rattle.pdata_tree.specs.declared.resource.ResourceNode.{ResourceNode}
use Rattle.pdata_tree.specs.declared.resource.ResourceTree.{ResourceTree}
use Rattle.pdata_tree.specs.declared.scope.ScopeNode.{ScopeNode}
use Rattle.pdata_tree.specs.declared.scope.ScopeTree.{ScopeTree}
use Rattle.pdata_tree.specs.declared.record.LogRecord.{LogRecord}
use Rattle.json_text.specs.Kinds.{Member, as_members}
use Rattle.json_text.specs.Members.{stands, has_standing, last_standing}
use Rattle.json_text.specs.Reading.{json_text}
use Rattle.json_text.specs.declared.json.Json.{Json}
use Rattle.json_text.specs.declared.error.JsonFault.{JsonFault}
use Rattle.otlp_json.specs.declared.counts.Counts.{Counts}
use Rattle.otlp_json.specs.declared.error.PayloadKind.TheVariants.{NotObject}
use Rattle.otlp_json.specs.Reads.{Read, Reader, ◌>>=◌, each, or_wrong}
use Rattle.otlp_json.specs.Fields.{text_in, truth_in, i64_in, double_in, bytes_in, u64_in, u32_in, i32_in, id_in, items_in, members_in}
use Rattle.otlp_json.specs.Limits.{most_containers, most_levels, none_counted, one_record, one_holder, one_value}
use Rattle.otlp_json.specs.Line.{empty_layer, is_empty_value}
use Rattle.otlp_json.specs.Objects.{by_row, fields, object}
use Rattle.otlp_json.specs.Payload.{payload, payload_of}
use Rattle.otlp_json.specs.Trees.{batch_in, batch_table, empty_batch, empty_record, empty_resource, empty_resource_logs, empty_scope, empty_scope_logs, record_in, record_table, records_in, resource_in, resource_logs_in, resource_logs_table, resource_table, resources_in, scope_in, scope_logs_in, scope_logs_table, scope_table, scopes_in, with_resource, with_resource_schema, with_scope, with_scope_schema}
use Rattle.otlp_json.specs.Values.{absent_value, array_table, map_table, only, pair_by, pair_table, pairs_by, pairs_in, value_by, value_in, value_table, values_by, is_value_key}
use Rattle.otlp_json.specs.WellFormed.{Within, sizes, only_values, size_of, size_of_record, size_of_resource_logs, size_of_scope_logs, values_in_body, values_in_items, values_in_pairs, values_in_value}
use Rattle.otlp_json.proofs.Counting.{count-Bytes, count-Double, count-Empty, count-Int, count-List, count-Map, count-Text, count-Truth, sizes-pairs, sizes-values}
use Rattle.otlp_json.proofs.Once.{key_is}
use Rattle.otlp_json.proofs.Measured.{object-comes, pair_is, same_read, AtMost, Comes, Measures, MeasuresTable, all-measure, fields-measure, first_read, key-measures, list-measures, nested-measures, object-measures, one_holder-measures, one_record-measures, one_value-measures, plain-measures, same-at-most}

-- Sizes.

abbrev of_value : Value → Counts
of_value v = only_values (values_in_value v)

abbrev of_pair : List ℕ × Value → Counts
of_pair p = only_values (values_in_value p.1)

abbrev of_values : Values → Counts
of_values vs = only_values (values_in_items (items vs))

abbrev of_pairs : Pairs → Counts
of_pairs ps = only_values (values_in_pairs (pairs ps))

-- the values in a value
abbrev of_inner : Value → Counts
of_inner v = only_values (values_in_value v - 1)

none_inside : (v : Value) (x : Value) → values_in_value v ≡ 1 → AtMost (of_inner v) (of_inner x)
none_inside v x one = record { records = omega arith; holders = omega arith; values = omega (arith, one) }

and_false : (t : Bool) → (t && false) ≡ false
and_false true = refl
and_false false = refl

-- Values.

module _ (levels : ℕ) (value : Reader Value) (measures : Measures of_value value) where
  pub values-measure : Measures of_values (values_by value)
  values-measure json n vs m is within =
      let went = first_read {A = List Json} {B = Values × Counts} (items_in json)
      (λ items. each value [] items n >>= λ p. Ok (record { items = p.0 }, p.1)) (vs, m) is in
      let read = first_read {A = List Value × Counts} {B = Values × Counts} (each value [] went.0 n) (λ p. Ok (record { items = p.0 }, p.1)) (vs, m) went.2 in
      let comes = all-measure of_value value measures went.0 n read.0.0 read.0.1 read.1 within in
      let same = pair_is {X = Values} (record { items = read.0.0 }) vs read.0.1 m read.2 in
      subst (λ (c : Counts). Comes n (of_values vs) c) same.1
      (subst (λ (xs : Values). Comes n (of_values xs) read.0.1) same.0
      (subst (λ (c : Counts). Comes n c read.0.1) (sizes-values read.0.0) comes))

  pair_table-measures : MeasuresTable of_pair (pair_table value)
  pair_table-measures = (
    plain-measures of_pair (codes "key") text_in (λ pair key. (key, pair.1)) (λ x f. same-at-most (of_pair x)),
    (
      nested-measures of_pair of_value (codes "value") value (λ pair v. (pair.0, v)) measures
          (λ x f. record { records = omega arith; holders = omega arith; values = omega arith }),
      tt,
    ),
  )

  abbrev Pair : Type 0
  Pair = List ℕ × Value

  abbrev keyed : Pair → Counts → List ℕ → Read (Pair × Counts)
  keyed x n key = Ok ((key, x.1), n)

  abbrev valued : Pair → Value × Counts → Read (Pair × Counts)
  valued x v = Ok ((x.0, v.0), v.1)

  abbrev unread : Pair → Counts → Read (Pair × Counts)
  unread x n = Ok (x, n)

  -- a member of a pair: it is read, or it counts nothing and the value is still to be read
  abbrev Goes : Bool → Counts → List ℕ × Value → Counts → Type 0
  Goes has n z k = ((has ≡ true) × (n ≡ k)) ⊎ Comes n (of_pair z) k

  pair-step : (t v has : Bool) (json : Json) (x : List ℕ × Value) (n : Counts) (z : List ℕ × Value) (k : Counts) → (t ≡ true → v ≡ false) → (v || has) ≡ true
      → cond t (text_in json >>= keyed x n) (cond v (value json n >>= valued x) (unread x n)) ≡ Ok (z, k) → Within n → Goes has n z k
  pair-step true true has json x n z k one there is within = absurd (cc (one refl))
  pair-step true false has json x n z k one there is within =
      let went = first_read {A = List ℕ} {B = (List ℕ × Value) × Counts} (text_in json) (keyed x n) (z, k) is in
      inl (there, (pair_is {X = List ℕ × Value} (went.0, x.1) z n k went.2).1)
  pair-step false true has json x n z k one there is within =
      let went = first_read {A = Value × Counts} {B = (List ℕ × Value) × Counts} (value json n) (valued x) (z, k) is in
      let same = pair_is {X = List ℕ × Value} (x.0, went.0.0) z went.0.1 k went.2 in
      inr (subst (λ (c : Counts). Comes n (of_pair z) c) same.1
      (subst (λ (p : List ℕ × Value). Comes n (of_pair p) went.0.1) same.0 (measures json n went.0.0 went.0.1 went.1 within)))
  pair-step false false has json x n z k one there is within = inl (there, (pair_is {X = List ℕ × Value} x z n k is).1)

  one_key : (key : List ℕ) (behind : Bool) → (bytes_eq key (codes "key") && behind) ≡ true → (bytes_eq key (codes "value") && behind) ≡ false
  one_key key true is = by_key_is (bytes_eq key (codes "key")) refl is where
    by_key_is : (t : Bool) → bytes_eq key (codes "key") ≡ t → (t && true) ≡ true → (bytes_eq key (codes "value") && true) ≡ false
    by_key_is true same both = subst (λ (k : List ℕ). (bytes_eq k (codes "value") && true) ≡ false) (sym (key_is key (codes "key") same)) refl
    by_key_is false same both = absurd (cc both)
  one_key key false is = and_false (bytes_eq key (codes "value"))

  -- a pair whose value is still to be read
  pair-reads : (members : List Member) (x : List ℕ × Value) (n : Counts) (y : List ℕ × Value) (m : Counts) → has_standing (codes "value") members ≡ true
      → fields (pair_table value) members x n ≡ Ok (y, m) → Within n → Comes n (of_pair y) m
  pair-reads [] x n y m has is within = absurd (cc has)
  pair-reads (member ∷ members) x n y m has is within =
      let went = first_read {A = (List ℕ × Value) × Counts} {B = (List ℕ × Value) × Counts} (by_row (pair_table value) member members x n)
      (λ p. fields (pair_table value) members p.0 p.1) (y, m) is in
      let z = went.0.0 in
      let k = went.0.1 in
      let goes = pair-step (bytes_eq member.0 (codes "key") && stands member members) (bytes_eq member.0 (codes "value") && stands member members)
      (has_standing (codes "value") members) member.1 x n z k (one_key member.0 (stands member members)) has went.1 within in
      elim goes [
        | inl still ↦
            subst (λ (c : Counts). Comes c (of_pair y) m) (sym still.1)
            (pair-reads members z k y m still.0 went.2 (subst Within still.1 within))
        | inr comes ↦ fields-measure of_pair (pair_table value) pair_table-measures members z k y m n went.2 comes
      ]

  empty_pair-measures : (members : List Member) (at : ℕ) (n k : Counts) (y : List ℕ × Value) (m : Counts) (t : Bool) → has_standing (codes "value") members ≡ t
      → cond t (Ok n) (one_value levels at n) ≡ Ok k → fields (pair_table value) members ([], values.Empty) k ≡ Ok (y, m) → Within n → Comes n (of_pair y) m
  empty_pair-measures members at n k y m true has counted is within =
      let same : n ≡ k = cc counted in
      pair-reads members ([], values.Empty) n y m has (subst (λ (c : Counts). fields (pair_table value) members ([], values.Empty) c ≡ Ok (y, m)) (sym same) is) within
  empty_pair-measures members at n k y m false has counted is within =
      let one = one_value-measures levels at n k counted within in
      fields-measure of_pair (pair_table value) pair_table-measures members ([], values.Empty) k y m n is (record {
        counted = record { records = one.counted.records; holders = one.counted.holders; values = omega (arith, one.counted.values, count-Empty) };
        within = one.within;
      })

  pub pair-measures : Measures of_pair (pair_by levels value)
  pair-measures json n y m is within =
      let members = first_read {A = List Member} {B = (List ℕ × Value) × Counts} (members_in json)
      (λ members. absent_value levels json.at members n >>= fields (pair_table value) members ([], values.Empty)) (y, m) is in
      let counted = first_read {A = Counts} {B = (List ℕ × Value) × Counts} (absent_value levels json.at members.0 n)
      (fields (pair_table value) members.0 ([], values.Empty)) (y, m) members.2 in
      empty_pair-measures members.0 json.at n counted.0 y m (has_standing (codes "value") members.0) refl counted.1 counted.2 within

  pub pairs-measure : Measures of_pairs (pairs_by levels value)
  pairs-measure json n ps m is within =
      let went = first_read {A = List Json} {B = Pairs × Counts} (items_in json)
      (λ items. each (pair_by levels value) [] items n >>= λ p. Ok (record { items = p.0 }, p.1)) (ps, m) is in
      let read = first_read {A = List (List ℕ × Value) × Counts} {B = Pairs × Counts} (each (pair_by levels value) [] went.0 n)
      (λ p. Ok (record { items = p.0 }, p.1)) (ps, m) went.2 in
      let comes = all-measure of_pair (pair_by levels value) pair-measures went.0 n read.0.0 read.0.1 read.1 within in
      let same = pair_is {X = Pairs} (record { items = read.0.0 }) ps read.0.1 m read.2 in
      subst (λ (c : Counts). Comes n (of_pairs ps) c) same.1
      (subst (λ (xs : Pairs). Comes n (of_pairs xs) read.0.1) same.0
      (subst (λ (c : Counts). Comes n c read.0.1) (sizes-pairs read.0.0) comes))

  array-measures : Measures of_values (object (array_table value) (record { items = [] }))
  array-measures =
      object-measures of_values (array_table value) (
        nested-measures of_values of_values (codes "values") (values_by value) (λ _ vs. vs) values-measure
            (λ x f. record { records = omega arith; holders = omega arith; values = omega arith }),
        tt,
      )
      (record { items = [] }) (record { records = omega arith; holders = omega arith; values = omega arith })

  map-measures : Measures of_pairs (object (map_table levels value) (record { items = [] }))
  map-measures =
      object-measures of_pairs (map_table levels value) (
        nested-measures of_pairs of_pairs (codes "values") (pairs_by levels value) (λ _ ps. ps) pairs-measure
            (λ x f. record { records = omega arith; holders = omega arith; values = omega arith }),
        tt,
      )
      (record { items = [] }) (record { records = omega arith; holders = omega arith; values = omega arith })

  value_table-measures : MeasuresTable of_inner (value_table levels value)
  value_table-measures = (
    plain-measures of_inner (codes "stringValue") text_in (λ _ text. values.Text text) (λ x f. none_inside (values.Text f) x (count-Text f)),
    (
      plain-measures of_inner (codes "boolValue") truth_in (λ _ truth. values.Truth truth) (λ x f. none_inside (values.Truth f) x (count-Truth f)),
      (
        plain-measures of_inner (codes "intValue") i64_in (λ _ int. values.Int int) (λ x f. none_inside (values.Int f) x (count-Int f)),
        (
          plain-measures of_inner (codes "doubleValue") double_in (λ _ spelling. values.Double spelling) (λ x f. none_inside (values.Double f) x (count-Double f)),
          (
            nested-measures of_inner of_values (codes "arrayValue") (object (array_table value) (record { items = [] })) (λ _ list. values.List list) array-measures
                (λ x f. record { records = omega arith; holders = omega arith; values = omega (arith, count-List f) }),
            (
              nested-measures of_inner of_pairs (codes "kvlistValue") (object (map_table levels value) (record { items = [] })) (λ _ ps. values.Map ps) map-measures
                  (λ x f. record { records = omega arith; holders = omega arith; values = omega (arith, count-Map f) }),
              (plain-measures of_inner (codes "bytesValue") bytes_in (λ _ bytes. values.Bytes bytes) (λ x f. none_inside (values.Bytes f) x (count-Bytes f)), tt),
            ),
          ),
        ),
      ),
    ),
  )

  only-measures : (found : Option Member) (n : Counts) (v : Value) (m base : Counts) → only (value_table levels value) found n ≡ Ok (v, m)
      → Comes base (of_inner values.Empty) n → Comes base (of_inner v) m
  only-measures None n v m base is comes =
      let same = pair_is values.Empty v n m is in
      subst (λ (c : Counts). Comes base (of_inner v) c) same.1 (subst (λ (w : Value). Comes base (of_inner w) n) same.0 comes)
  only-measures (Some member) n v m base is comes =
      key-measures of_inner (value_table levels value) value_table-measures member.0 member.1 values.Empty n v m base is comes

  -- a value that is counted
  pub inner-measures : (json : Json) (n : Counts) (v : Value) (m : Counts) → value_by levels value json n ≡ Ok (v, m) → Within n → Comes n (of_inner v) m
  inner-measures json n v m is within =
      let members = first_read {A = List Member} {B = Value × Counts} (members_in json)
      (λ members. only (value_table levels value) (last_standing is_value_key None members) n) (v, m) is in
      only-measures (last_standing is_value_key None members.0) n v m n members.2 (record {
        counted = record { records = omega arith; holders = omega arith; values = omega (arith, count-Empty) };
        within = within;
      })

pub value-measures : (levels : ℕ) → Measures of_value (value_in levels)
unfolding value_in
value-measures zero json n v m is within =
    let one = first_read {A = Counts} {B = Value × Counts} (one_value zero json.at n) (λ k. Ok (values.Empty, k)) (v, m) is in
    let comes = one_value-measures zero json.at n one.0 one.1 within in
    let same = pair_is values.Empty v one.0 m one.2 in
    subst (λ (c : Counts). Comes n (of_value v) c) same.1
    (subst (λ (w : Value). Comes n (of_value w) one.0) same.0 (record {
      counted = record { records = comes.counted.records; holders = comes.counted.holders; values = omega (arith, comes.counted.values, count-Empty) };
      within = comes.within;
    }))
value-measures (suc levels) json n v m is within =
    let one = first_read {A = Counts} {B = Value × Counts} (one_value (suc levels) json.at n) (value_by levels (value_in levels) json) (v, m) is in
    let comes = one_value-measures (suc levels) json.at n one.0 one.1 within in
    let inner = inner-measures levels (value_in levels) (value-measures levels) json one.0 v m one.2 comes.within in
    record {
      counted =
          record {
            records = omega (arith, comes.counted.records, inner.counted.records);
            holders = omega (arith, comes.counted.holders, inner.counted.holders);
            values = omega (arith, comes.counted.values, inner.counted.values);
          };
      within = inner.within;
    }

-- Records.

abbrev of_attributes : Pairs → Counts
of_attributes = of_pairs

pub attributes-measure : Measures of_attributes (pairs_in most_levels)
unfolding pairs_in
attributes-measure = pairs-measure most_levels (value_in most_levels) (value-measures most_levels)

body_at_most : (body : Value) (t : Bool) → cond t 0 (values_in_value body) ≤ values_in_value body
body_at_most body true = omega arith
body_at_most body false = omega arith

record_table-measures : MeasuresTable size_of_record record_table
unfolding record_table
record_table-measures = (
  plain-measures size_of_record (codes "timeUnixNano") u64_in (λ log time. record log { time = time }) (λ x f. same-at-most (size_of_record x)),
  (
    plain-measures size_of_record (codes "observedTimeUnixNano") u64_in (λ log observed. record log { observed = observed }) (λ x f. same-at-most (size_of_record x)),
    (
      plain-measures size_of_record (codes "severityNumber") i32_in (λ log severity. record log { severity = severity }) (λ x f. same-at-most (size_of_record x)),
      (
        plain-measures size_of_record (codes "severityText") text_in (λ log text. record log { severity_text = text }) (λ x f. same-at-most (size_of_record x)),
        (
          nested-measures size_of_record of_value (codes "body") (value_in most_levels) (λ log body. record log { body = body }) (value-measures most_levels)
              (λ x f. record { records = omega arith; holders = omega arith; values = omega (arith, body_at_most f (is_empty_value f)) }),
          (
            nested-measures size_of_record of_pairs (codes "attributes") (pairs_in most_levels) (λ log attributes. record log { attributes = attributes }) attributes-measure
                (λ x f. record { records = omega arith; holders = omega arith; values = omega arith }),
            (
              plain-measures size_of_record (codes "droppedAttributesCount") u32_in (λ log dropped. record log { dropped = dropped }) (λ x f. same-at-most (size_of_record x)),
              (
                plain-measures size_of_record (codes "flags") u32_in (λ log flags. record log { flags = flags }) (λ x f. same-at-most (size_of_record x)),
                (
                  plain-measures size_of_record (codes "traceId") (id_in 16) (λ log id. record log { trace_id = id }) (λ x f. same-at-most (size_of_record x)),
                  (plain-measures size_of_record (codes "spanId") (id_in 8) (λ log id. record log { span_id = id }) (λ x f. same-at-most (size_of_record x)), tt),
                ),
              ),
            ),
          ),
        ),
      ),
    ),
  ),
)

empty_is : is_empty_value values.Empty ≡ true
unfolding is_empty_value
empty_is = ap (λ (v : Value). empty_layer (out-Value v)) (sym values.rolls-Empty) ∙ ap empty_layer (out-roll-Value Value-F.Empty)

no_body : values_in_body empty_record.body ≡ 0
no_body = ap (λ (t : Bool). cond t 0 (values_in_value values.Empty)) empty_is

empty_record-size : AtMost (size_of_record empty_record) (record { records = 1; holders = 0; values = 0 })
empty_record-size = record { records = omega arith; holders = omega arith; values = omega (arith, no_body) }

-- the beginning of an object is counted
begun : (n size one k : Counts) → AtMost size one → Comes n one k → Comes n size k
begun n size one k less comes = record {
  counted =
      record {
        records = omega (arith, less.records, comes.counted.records);
        holders = omega (arith, less.holders, comes.counted.holders);
        values = omega (arith, less.values, comes.counted.values);
      };
  within = comes.within;
}

record-measures : Measures size_of_record record_in
unfolding record_in
record-measures json n x m is within =
    let one = first_read {A = Counts} {B = LogRecord × Counts} (one_record json.at n) (object record_table empty_record json) (x, m) is in
    object-comes size_of_record record_table record_table-measures empty_record json one.0 x m n one.2
    (begun n (size_of_record empty_record) (record { records = 1; holders = 0; values = 0 }) one.0 empty_record-size (one_record-measures json.at n one.0 one.1 within))

records-measure : Measures (sizes size_of_record) records_in
unfolding records_in
records-measure = list-measures size_of_record record_in record-measures

-- Scopes.

abbrev of_scope : ScopeNode → Counts
of_scope scope = of_pairs scope.attributes

scope_table-measures : MeasuresTable of_scope scope_table
unfolding scope_table
scope_table-measures = (
  plain-measures of_scope (codes "name") text_in (λ scope name. record scope { name = name }) (λ x f. same-at-most (of_scope x)),
  (
    plain-measures of_scope (codes "version") text_in (λ scope version. record scope { version = version }) (λ x f. same-at-most (of_scope x)),
    (
      nested-measures of_scope of_pairs (codes "attributes") (pairs_in most_levels) (λ scope attributes. record scope { attributes = attributes }) attributes-measure
          (λ x f. record { records = omega arith; holders = omega arith; values = omega arith }),
      (plain-measures of_scope (codes "droppedAttributesCount") u32_in (λ scope dropped. record scope { dropped = dropped }) (λ x f. same-at-most (of_scope x)), tt),
    ),
  ),
)

nothing : (a : Counts) → a.records ≡ 0 → a.holders ≡ 0 → a.values ≡ 0 → AtMost a none_counted
nothing a records holders values = record { records = omega (arith, records); holders = omega (arith, holders); values = omega (arith, values) }

scope-measures : Measures of_scope scope_in
unfolding scope_in
scope-measures = object-measures of_scope scope_table scope_table-measures empty_scope (nothing (of_scope empty_scope) refl refl refl)

scope_logs_table-measures : MeasuresTable size_of_scope_logs scope_logs_table
unfolding scope_logs_table size_of_scope_logs
scope_logs_table-measures = (
  nested-measures size_of_scope_logs of_scope (codes "scope") scope_in with_scope scope-measures
      (λ x f. record { records = omega arith; holders = omega arith; values = omega arith }),
  (
    nested-measures size_of_scope_logs (sizes size_of_record) (codes "logRecords") records_in (λ element logs. record element { logs = logs }) records-measure
        (λ x f. record { records = omega arith; holders = omega arith; values = omega arith }),
    (plain-measures size_of_scope_logs (codes "schemaUrl") text_in with_scope_schema (λ x f. same-at-most (size_of_scope_logs x)), tt),
  ),
)

empty_scope_logs-size : AtMost (size_of_scope_logs empty_scope_logs) (record { records = 0; holders = 1; values = 0 })
unfolding size_of_scope_logs
empty_scope_logs-size = record { records = omega arith; holders = omega arith; values = omega arith }

scope_logs-measures : Measures size_of_scope_logs scope_logs_in
unfolding scope_logs_in
scope_logs-measures json n x m is within =
    let one = first_read {A = Counts} {B = ScopeTree × Counts} (one_holder json.at n) (object scope_logs_table empty_scope_logs json) (x, m) is in
    object-comes size_of_scope_logs scope_logs_table scope_logs_table-measures empty_scope_logs json one.0 x m n one.2
    (begun n (size_of_scope_logs empty_scope_logs) (record { records = 0; holders = 1; values = 0 }) one.0 empty_scope_logs-size
    (one_holder-measures json.at n one.0 one.1 within))

scopes-measure : Measures (sizes size_of_scope_logs) scopes_in
unfolding scopes_in
scopes-measure = list-measures size_of_scope_logs scope_logs_in scope_logs-measures

-- Resources.

abbrev of_resource : ResourceNode → Counts
of_resource resource = of_pairs resource.attributes

resource_table-measures : MeasuresTable of_resource resource_table
unfolding resource_table
resource_table-measures = (
  nested-measures of_resource of_pairs (codes "attributes") (pairs_in most_levels) (λ resource attributes. record resource { attributes = attributes }) attributes-measure
      (λ x f. record { records = omega arith; holders = omega arith; values = omega arith }),
  (plain-measures of_resource (codes "droppedAttributesCount") u32_in (λ resource dropped. record resource { dropped = dropped }) (λ x f. same-at-most (of_resource x)), tt),
)

resource-measures : Measures of_resource resource_in
unfolding resource_in
resource-measures = object-measures of_resource resource_table resource_table-measures empty_resource (nothing (of_resource empty_resource) refl refl refl)

resource_logs_table-measures : MeasuresTable size_of_resource_logs resource_logs_table
unfolding resource_logs_table size_of_resource_logs
resource_logs_table-measures = (
  nested-measures size_of_resource_logs of_resource (codes "resource") resource_in with_resource resource-measures
      (λ x f. record { records = omega arith; holders = omega arith; values = omega arith }),
  (
    nested-measures size_of_resource_logs (sizes size_of_scope_logs) (codes "scopeLogs") scopes_in (λ element scopes. record element { scopes = scopes }) scopes-measure
        (λ x f. record { records = omega arith; holders = omega arith; values = omega arith }),
    (plain-measures size_of_resource_logs (codes "schemaUrl") text_in with_resource_schema (λ x f. same-at-most (size_of_resource_logs x)), tt),
  ),
)

empty_resource_logs-size : AtMost (size_of_resource_logs empty_resource_logs) (record { records = 0; holders = 1; values = 0 })
unfolding size_of_resource_logs
empty_resource_logs-size = record { records = omega arith; holders = omega arith; values = omega arith }

resource_logs-measures : Measures size_of_resource_logs resource_logs_in
unfolding resource_logs_in
resource_logs-measures json n x m is within =
    let one = first_read {A = Counts} {B = ResourceTree × Counts} (one_holder json.at n) (object resource_logs_table empty_resource_logs json) (x, m) is in
    object-comes size_of_resource_logs resource_logs_table resource_logs_table-measures empty_resource_logs json one.0 x m n one.2
    (begun n (size_of_resource_logs empty_resource_logs) (record { records = 0; holders = 1; values = 0 }) one.0 empty_resource_logs-size
    (one_holder-measures json.at n one.0 one.1 within))

resources-measure : Measures (sizes size_of_resource_logs) resources_in
unfolding resources_in
resources-measure = list-measures size_of_resource_logs resource_logs_in resource_logs-measures

-- Payloads.

batch_table-measures : MeasuresTable size_of batch_table
unfolding batch_table size_of
batch_table-measures = (
  nested-measures size_of (sizes size_of_resource_logs) (codes "resourceLogs") resources_in (λ batch resources. record batch { resources = resources }) resources-measure
      (λ x f. record { records = omega arith; holders = omega arith; values = omega arith }),
  tt,
)

empty_batch-size : AtMost (size_of empty_batch) none_counted
unfolding size_of
empty_batch-size = nothing none_counted refl refl refl

batch-within : (json : Json) (batch : Batch) (m : Counts) → batch_in json none_counted ≡ Ok (batch, m) → Within (size_of batch)
unfolding batch_in
batch-within json batch m is =
    let went = first_read {A = List Member} {B = Batch × Counts} (or_wrong NotObject json.at (as_members json))
    (λ members. fields batch_table members empty_batch none_counted) (batch, m) is in
    let comes = fields-measure size_of batch_table batch_table-measures went.0 empty_batch none_counted batch m none_counted went.2 (record {
      counted =
          record {
            records = omega (arith, empty_batch-size.records);
            holders = omega (arith, empty_batch-size.holders);
            values = omega (arith, empty_batch-size.values);
          };
      within = (omega arith, omega arith, omega arith);
    }) in
    (omega (arith, comes.counted.records, comes.within.0), omega (arith, comes.counted.holders, comes.within.1), omega (arith, comes.counted.values, comes.within.2))

pub payload-within : (line : List ℕ) (batch : Batch) → payload line ≡ Ok batch → Within (size_of batch)
unfolding payload
payload-within line batch is = read_so (json_text line most_containers) is where
  read_so : (read : Result Json JsonFault) → payload_of read ≡ Ok batch → Within (size_of batch)
  read_so (Ok json) came =
      let went = first_read {A = Batch × Counts} {B = Batch} (batch_in json none_counted) (λ p. Ok p.0) batch came in
      subst (λ (b : Batch). Within (size_of b)) (same_read {Y = Batch} went.0.0 batch went.2) (batch-within json went.0.0 went.0.1 went.1)
  read_so (Err fault) came = absurd (cc came)
