-- A written tree is read again as the same tree.
use Rattle.std.proofs.Common.{◌≡◌, ◌∙◌, ℕ, ◌<◌, ◌==◌, Bool, true, false, List, [], ◌∷◌, ◌++◌, map, Ok, refl, sym, ap, arith, append-nil, append_assoc, pos, cond}
use Rattle.std.specs.Prelude.{codes, ℤ}
use Rattle.std.specs.List.{All, list_all}
use Rattle.std.specs.Ordering.{int_eq}
use Rattle.std.specs.Fmt.{decimal, signed_decimal}
use Rattle.std.proofs.lemmas.Bool.Decides.{nat_tests}
use Rattle.std.proofs.lemmas.Int.{ints}
use Rattle.std.proofs.lemmas.List.Elements.{All-weaker}
use Rattle.hex.specs.Hex.{encode_lower}
use Rattle.pdata_value.specs.Value.{pairs}
use Rattle.pdata_value.specs.Pairs.{is_distinct}
use Rattle.pdata_value.specs.declared.value.Value.{Value, roll-Value, out-Value}
use Rattle.pdata_value.specs.declared.value.Value.TheOpen.{Value-F}
use Rattle.pdata_value.specs.declared.value.Value.TheVariants as values
use Rattle.pdata_value.specs.declared.value.Value.TheViews.{roll-out-Value}
use Rattle.pdata_value.specs.declared.values.Values.{Values}
use Rattle.pdata_value.specs.declared.pairs.Pairs.{Pairs}
use Rattle.pdata_tree.specs.declared.batch.Batch.{Batch}
use Rattle.pdata_tree.specs.declared.resource.ResourceNode.{ResourceNode}
use Rattle.pdata_tree.specs.declared.resource.ResourceTree.{ResourceTree}
use Rattle.pdata_tree.specs.declared.scope.ScopeNode.{ScopeNode}
use Rattle.pdata_tree.specs.declared.scope.ScopeTree.{ScopeTree}
use Rattle.pdata_tree.specs.declared.record.LogRecord.{LogRecord}
use Rattle.json_text.specs.Kinds.{Member}
use Rattle.json_text.specs.declared.json.Json.{Json}
use Rattle.json_text.proofs.KindLemmas.{is_null-Text, is_null-Number, is_null-List, is_null-Object, as_members-Object}
use Rattle.otlp_json.specs.declared.counts.Counts.{Counts}
use Rattle.otlp_json.specs.Reads.{Reader}
use Rattle.otlp_json.specs.Limits.{most_records, most_holders, most_levels, none_counted}
use Rattle.otlp_json.specs.Objects.{fields, object, list}
use Rattle.otlp_json.specs.Trees.{empty_record, record_table, record_in, empty_scope, scope_table, scope_in, records_in, scope_logs_table, empty_scope_logs, scope_logs_in, empty_resource, resource_table, resource_in, scopes_in, resource_logs_table, empty_resource_logs, resource_logs_in, resources_in, batch_table, batch_in}
use Rattle.otlp_json.specs.Line.{text_json, number_json, list_json, object_json, unless, list_member, is_empty, value_json, pair_json, empty_layer, is_empty_value, record_members, record_json, scope_members, scope_logs_members, scope_logs_json, resource_members, resource_logs_members, resource_logs_json, batch_json}
use Rattle.otlp_json.specs.WellFormed.{plus, Within, only_values, sizes, values_in_value, values_in_pairs, values_in_body, size_of_record, size_of_scope_logs, size_of_resource_logs, size_of, IsRecord, IsScope, IsScopeLogs, IsResource, IsResourceLogs, IsPayload}
use Rattle.otlp_json.proofs.Pieces.{Piece, AreSome, members_by, present, optional, unless-is, list_member-is, optional-some, fields-present, filled, filled-step}
use Rattle.otlp_json.proofs.PlaceFree.{members_in-Object, items_in-List}
use Rattle.otlp_json.proofs.FieldsBack.{text_back, u64_back, u32_back, i32_back, id_back, zeros_are}
use Rattle.otlp_json.proofs.Counting.{same_counts, plus-none, one_record-is, one_holder-is}
use Rattle.otlp_json.proofs.ValuesBack.{Back, each-back, value_json-some, value-back, attributes-back}

-- What is left out.

zero_is : (n : ℕ) → (n == 0) ≡ true → 0 ≡ n
zero_is n is = grind (arith, nat_tests)

zero_int_is : (n : ℤ) → int_eq n (pos 0) ≡ true → pos 0 ≡ n
zero_int_is n is = grind (arith, ints)

empty_is : {X : Type 0} (xs : List X) → is_empty xs ≡ true → [] ≡ xs
empty_is [] is = refl
empty_is (x ∷ xs) is = absurd cc

empty_map_is : {X Y : Type 0} (f : X → Y) (xs : List X) → is_empty (map f xs) ≡ true → [] ≡ xs
empty_map_is f [] is = refl
empty_map_is f (x ∷ xs) is = absurd cc

empty_layer_is : (v : Value) (layer : Value-F Value Pairs Values) → v ≡ roll-Value layer → empty_layer layer ≡ true → values.Empty ≡ v
empty_layer_is v Value-F.Empty is empty = sym (is ∙ values.rolls-Empty)
empty_layer_is v (Value-F.Text x) is empty = absurd cc
empty_layer_is v (Value-F.Truth x) is empty = absurd cc
empty_layer_is v (Value-F.Int x) is empty = absurd cc
empty_layer_is v (Value-F.Double x) is empty = absurd cc
empty_layer_is v (Value-F.Bytes x) is empty = absurd cc
empty_layer_is v (Value-F.List x) is empty = absurd cc
empty_layer_is v (Value-F.Map x) is empty = absurd cc

empty_value_is : (v : Value) → is_empty_value v ≡ true → values.Empty ≡ v
unfolding is_empty_value
empty_value_is v is = empty_layer_is v (out-Value v) (sym (roll-out-Value v)) is

-- Counts.

within-less : (n s : Counts) → Within (plus n s) → Within n
within-less n s fits = (omega (arith, fits.0), omega (arith, fits.1), omega (arith, fits.2))

plus-zero : (n : Counts) → n ≡ plus n (only_values 0)
plus-zero n = sym (plus-none n)

body_left : (n : Counts) (t : Bool) (k : ℕ) → t ≡ true → n ≡ plus n (only_values (cond t 0 k))
body_left n true k is = plus-zero n
body_left n false k is = absurd cc

body_there : (t : Bool) (k : ℕ) → t ≡ false → cond t 0 k ≡ k
body_there true k is = absurd cc
body_there false k is = refl

attributes_left : (n : Counts) (ps : List (List ℕ × Value)) → is_empty (map pair_json ps) ≡ true → n ≡ plus n (only_values (values_in_pairs ps))
attributes_left n [] is = plus-zero n
attributes_left n (p ∷ ps) is = absurd cc

-- Pieces in a row.

glued-1 : (a : List Member) → a ≡ a ++ []
glued-1 a = sym (append-nil a)

glued-2 : (a b : List Member) → a ++ b ≡ a ++ (b ++ [])
glued-2 a b = simp (append_assoc, append-nil)

glued-3 : (a b c : List Member) → a ++ b ++ c ≡ a ++ (b ++ (c ++ []))
glued-3 a b c = simp (append_assoc, append-nil)

glued-4 : (a b c d : List Member) → a ++ b ++ c ++ d ≡ a ++ (b ++ (c ++ (d ++ [])))
glued-4 a b c d = simp (append_assoc, append-nil)

glued-10 : (a b c d e f g h i j : List Member) → a ++ b ++ c ++ d ++ e ++ f ++ g ++ h ++ i ++ j ≡ a ++ (b ++ (c ++ (d ++ (e ++ (f ++ (g ++ (h ++ (i ++ (j ++ [])))))))))
glued-10 a b c d e f g h i j = simp (append_assoc, append-nil)

unfoldable pub record_pieces : LogRecord → List Piece
record_pieces log =
    (codes "timeUnixNano", optional (log.time == 0) (text_json (decimal log.time)))
    ∷ (codes "observedTimeUnixNano", optional (log.observed == 0) (text_json (decimal log.observed)))
    ∷ (codes "severityNumber", optional (int_eq log.severity (pos 0)) (number_json (signed_decimal log.severity)))
    ∷ (codes "severityText", optional (is_empty log.severity_text) (text_json log.severity_text))
    ∷ (codes "body", optional (is_empty_value log.body) (value_json log.body))
    ∷ (codes "attributes", optional (is_empty (map pair_json (pairs log.attributes))) (list_json (map pair_json (pairs log.attributes))))
    ∷ (codes "droppedAttributesCount", optional (log.dropped == 0) (number_json (decimal log.dropped)))
    ∷ (codes "flags", optional (log.flags == 0) (number_json (decimal log.flags)))
    ∷ (codes "traceId", optional (list_all (λ b. b == 0) log.trace_id) (text_json (encode_lower log.trace_id)))
    ∷ (codes "spanId", optional (list_all (λ b. b == 0) log.span_id) (text_json (encode_lower log.span_id)))
    ∷ []

pub record_present : (log : LogRecord) → record_members log ≡ present (record_pieces log)
unfolding record_pieces
record_present log =
    glued-10 (unless (log.time == 0) (codes "timeUnixNano") (text_json (decimal log.time))) (unless (log.observed == 0) (codes "observedTimeUnixNano") (text_json (decimal log.observed))) (unless (int_eq log.severity (pos 0)) (codes "severityNumber") (number_json (signed_decimal log.severity))) (unless (is_empty log.severity_text) (codes "severityText") (text_json log.severity_text)) (unless (is_empty_value log.body) (codes "body") (value_json log.body)) (list_member (codes "attributes") (map pair_json (pairs log.attributes))) (unless (log.dropped == 0) (codes "droppedAttributesCount") (number_json (decimal log.dropped))) (unless (log.flags == 0) (codes "flags") (number_json (decimal log.flags))) (unless (list_all (λ b. b == 0) log.trace_id) (codes "traceId") (text_json (encode_lower log.trace_id))) (unless (list_all (λ b. b == 0) log.span_id) (codes "spanId") (text_json (encode_lower log.span_id)))
    ∙ ap (λ (l : List Member). (l) ++ ((unless (log.observed == 0) (codes "observedTimeUnixNano") (text_json (decimal log.observed))) ++ ((unless (int_eq log.severity (pos 0)) (codes "severityNumber") (number_json (signed_decimal log.severity))) ++ ((unless (is_empty log.severity_text) (codes "severityText") (text_json log.severity_text)) ++ ((unless (is_empty_value log.body) (codes "body") (value_json log.body)) ++ ((list_member (codes "attributes") (map pair_json (pairs log.attributes))) ++ ((unless (log.dropped == 0) (codes "droppedAttributesCount") (number_json (decimal log.dropped))) ++ ((unless (log.flags == 0) (codes "flags") (number_json (decimal log.flags))) ++ ((unless (list_all (λ b. b == 0) log.trace_id) (codes "traceId") (text_json (encode_lower log.trace_id))) ++ ((unless (list_all (λ b. b == 0) log.span_id) (codes "spanId") (text_json (encode_lower log.span_id))) ++ [])))))))))) (unless-is (log.time == 0) (codes "timeUnixNano") (text_json (decimal log.time)))
    ∙ ap (λ (l : List Member). (members_by (codes "timeUnixNano") (optional (log.time == 0) (text_json (decimal log.time)))) ++ ((l) ++ ((unless (int_eq log.severity (pos 0)) (codes "severityNumber") (number_json (signed_decimal log.severity))) ++ ((unless (is_empty log.severity_text) (codes "severityText") (text_json log.severity_text)) ++ ((unless (is_empty_value log.body) (codes "body") (value_json log.body)) ++ ((list_member (codes "attributes") (map pair_json (pairs log.attributes))) ++ ((unless (log.dropped == 0) (codes "droppedAttributesCount") (number_json (decimal log.dropped))) ++ ((unless (log.flags == 0) (codes "flags") (number_json (decimal log.flags))) ++ ((unless (list_all (λ b. b == 0) log.trace_id) (codes "traceId") (text_json (encode_lower log.trace_id))) ++ ((unless (list_all (λ b. b == 0) log.span_id) (codes "spanId") (text_json (encode_lower log.span_id))) ++ [])))))))))) (unless-is (log.observed == 0) (codes "observedTimeUnixNano") (text_json (decimal log.observed)))
    ∙ ap (λ (l : List Member). (members_by (codes "timeUnixNano") (optional (log.time == 0) (text_json (decimal log.time)))) ++ ((members_by (codes "observedTimeUnixNano") (optional (log.observed == 0) (text_json (decimal log.observed)))) ++ ((l) ++ ((unless (is_empty log.severity_text) (codes "severityText") (text_json log.severity_text)) ++ ((unless (is_empty_value log.body) (codes "body") (value_json log.body)) ++ ((list_member (codes "attributes") (map pair_json (pairs log.attributes))) ++ ((unless (log.dropped == 0) (codes "droppedAttributesCount") (number_json (decimal log.dropped))) ++ ((unless (log.flags == 0) (codes "flags") (number_json (decimal log.flags))) ++ ((unless (list_all (λ b. b == 0) log.trace_id) (codes "traceId") (text_json (encode_lower log.trace_id))) ++ ((unless (list_all (λ b. b == 0) log.span_id) (codes "spanId") (text_json (encode_lower log.span_id))) ++ [])))))))))) (unless-is (int_eq log.severity (pos 0)) (codes "severityNumber") (number_json (signed_decimal log.severity)))
    ∙ ap (λ (l : List Member). (members_by (codes "timeUnixNano") (optional (log.time == 0) (text_json (decimal log.time)))) ++ ((members_by (codes "observedTimeUnixNano") (optional (log.observed == 0) (text_json (decimal log.observed)))) ++ ((members_by (codes "severityNumber") (optional (int_eq log.severity (pos 0)) (number_json (signed_decimal log.severity)))) ++ ((l) ++ ((unless (is_empty_value log.body) (codes "body") (value_json log.body)) ++ ((list_member (codes "attributes") (map pair_json (pairs log.attributes))) ++ ((unless (log.dropped == 0) (codes "droppedAttributesCount") (number_json (decimal log.dropped))) ++ ((unless (log.flags == 0) (codes "flags") (number_json (decimal log.flags))) ++ ((unless (list_all (λ b. b == 0) log.trace_id) (codes "traceId") (text_json (encode_lower log.trace_id))) ++ ((unless (list_all (λ b. b == 0) log.span_id) (codes "spanId") (text_json (encode_lower log.span_id))) ++ [])))))))))) (unless-is (is_empty log.severity_text) (codes "severityText") (text_json log.severity_text))
    ∙ ap (λ (l : List Member). (members_by (codes "timeUnixNano") (optional (log.time == 0) (text_json (decimal log.time)))) ++ ((members_by (codes "observedTimeUnixNano") (optional (log.observed == 0) (text_json (decimal log.observed)))) ++ ((members_by (codes "severityNumber") (optional (int_eq log.severity (pos 0)) (number_json (signed_decimal log.severity)))) ++ ((members_by (codes "severityText") (optional (is_empty log.severity_text) (text_json log.severity_text))) ++ ((l) ++ ((list_member (codes "attributes") (map pair_json (pairs log.attributes))) ++ ((unless (log.dropped == 0) (codes "droppedAttributesCount") (number_json (decimal log.dropped))) ++ ((unless (log.flags == 0) (codes "flags") (number_json (decimal log.flags))) ++ ((unless (list_all (λ b. b == 0) log.trace_id) (codes "traceId") (text_json (encode_lower log.trace_id))) ++ ((unless (list_all (λ b. b == 0) log.span_id) (codes "spanId") (text_json (encode_lower log.span_id))) ++ [])))))))))) (unless-is (is_empty_value log.body) (codes "body") (value_json log.body))
    ∙ ap (λ (l : List Member). (members_by (codes "timeUnixNano") (optional (log.time == 0) (text_json (decimal log.time)))) ++ ((members_by (codes "observedTimeUnixNano") (optional (log.observed == 0) (text_json (decimal log.observed)))) ++ ((members_by (codes "severityNumber") (optional (int_eq log.severity (pos 0)) (number_json (signed_decimal log.severity)))) ++ ((members_by (codes "severityText") (optional (is_empty log.severity_text) (text_json log.severity_text))) ++ ((members_by (codes "body") (optional (is_empty_value log.body) (value_json log.body))) ++ ((l) ++ ((unless (log.dropped == 0) (codes "droppedAttributesCount") (number_json (decimal log.dropped))) ++ ((unless (log.flags == 0) (codes "flags") (number_json (decimal log.flags))) ++ ((unless (list_all (λ b. b == 0) log.trace_id) (codes "traceId") (text_json (encode_lower log.trace_id))) ++ ((unless (list_all (λ b. b == 0) log.span_id) (codes "spanId") (text_json (encode_lower log.span_id))) ++ [])))))))))) (list_member-is (codes "attributes") (map pair_json (pairs log.attributes)))
    ∙ ap (λ (l : List Member). (members_by (codes "timeUnixNano") (optional (log.time == 0) (text_json (decimal log.time)))) ++ ((members_by (codes "observedTimeUnixNano") (optional (log.observed == 0) (text_json (decimal log.observed)))) ++ ((members_by (codes "severityNumber") (optional (int_eq log.severity (pos 0)) (number_json (signed_decimal log.severity)))) ++ ((members_by (codes "severityText") (optional (is_empty log.severity_text) (text_json log.severity_text))) ++ ((members_by (codes "body") (optional (is_empty_value log.body) (value_json log.body))) ++ ((members_by (codes "attributes") (optional (is_empty (map pair_json (pairs log.attributes))) (list_json (map pair_json (pairs log.attributes))))) ++ ((l) ++ ((unless (log.flags == 0) (codes "flags") (number_json (decimal log.flags))) ++ ((unless (list_all (λ b. b == 0) log.trace_id) (codes "traceId") (text_json (encode_lower log.trace_id))) ++ ((unless (list_all (λ b. b == 0) log.span_id) (codes "spanId") (text_json (encode_lower log.span_id))) ++ [])))))))))) (unless-is (log.dropped == 0) (codes "droppedAttributesCount") (number_json (decimal log.dropped)))
    ∙ ap (λ (l : List Member). (members_by (codes "timeUnixNano") (optional (log.time == 0) (text_json (decimal log.time)))) ++ ((members_by (codes "observedTimeUnixNano") (optional (log.observed == 0) (text_json (decimal log.observed)))) ++ ((members_by (codes "severityNumber") (optional (int_eq log.severity (pos 0)) (number_json (signed_decimal log.severity)))) ++ ((members_by (codes "severityText") (optional (is_empty log.severity_text) (text_json log.severity_text))) ++ ((members_by (codes "body") (optional (is_empty_value log.body) (value_json log.body))) ++ ((members_by (codes "attributes") (optional (is_empty (map pair_json (pairs log.attributes))) (list_json (map pair_json (pairs log.attributes))))) ++ ((members_by (codes "droppedAttributesCount") (optional (log.dropped == 0) (number_json (decimal log.dropped)))) ++ ((l) ++ ((unless (list_all (λ b. b == 0) log.trace_id) (codes "traceId") (text_json (encode_lower log.trace_id))) ++ ((unless (list_all (λ b. b == 0) log.span_id) (codes "spanId") (text_json (encode_lower log.span_id))) ++ [])))))))))) (unless-is (log.flags == 0) (codes "flags") (number_json (decimal log.flags)))
    ∙ ap (λ (l : List Member). (members_by (codes "timeUnixNano") (optional (log.time == 0) (text_json (decimal log.time)))) ++ ((members_by (codes "observedTimeUnixNano") (optional (log.observed == 0) (text_json (decimal log.observed)))) ++ ((members_by (codes "severityNumber") (optional (int_eq log.severity (pos 0)) (number_json (signed_decimal log.severity)))) ++ ((members_by (codes "severityText") (optional (is_empty log.severity_text) (text_json log.severity_text))) ++ ((members_by (codes "body") (optional (is_empty_value log.body) (value_json log.body))) ++ ((members_by (codes "attributes") (optional (is_empty (map pair_json (pairs log.attributes))) (list_json (map pair_json (pairs log.attributes))))) ++ ((members_by (codes "droppedAttributesCount") (optional (log.dropped == 0) (number_json (decimal log.dropped)))) ++ ((members_by (codes "flags") (optional (log.flags == 0) (number_json (decimal log.flags)))) ++ ((l) ++ ((unless (list_all (λ b. b == 0) log.span_id) (codes "spanId") (text_json (encode_lower log.span_id))) ++ [])))))))))) (unless-is (list_all (λ b. b == 0) log.trace_id) (codes "traceId") (text_json (encode_lower log.trace_id)))
    ∙ ap (λ (l : List Member). (members_by (codes "timeUnixNano") (optional (log.time == 0) (text_json (decimal log.time)))) ++ ((members_by (codes "observedTimeUnixNano") (optional (log.observed == 0) (text_json (decimal log.observed)))) ++ ((members_by (codes "severityNumber") (optional (int_eq log.severity (pos 0)) (number_json (signed_decimal log.severity)))) ++ ((members_by (codes "severityText") (optional (is_empty log.severity_text) (text_json log.severity_text))) ++ ((members_by (codes "body") (optional (is_empty_value log.body) (value_json log.body))) ++ ((members_by (codes "attributes") (optional (is_empty (map pair_json (pairs log.attributes))) (list_json (map pair_json (pairs log.attributes))))) ++ ((members_by (codes "droppedAttributesCount") (optional (log.dropped == 0) (number_json (decimal log.dropped)))) ++ ((members_by (codes "flags") (optional (log.flags == 0) (number_json (decimal log.flags)))) ++ ((members_by (codes "traceId") (optional (list_all (λ b. b == 0) log.trace_id) (text_json (encode_lower log.trace_id)))) ++ ((l) ++ [])))))))))) (unless-is (list_all (λ b. b == 0) log.span_id) (codes "spanId") (text_json (encode_lower log.span_id)))

record_distinct : (log : LogRecord) → is_distinct (record_pieces log) ≡ true
unfolding record_pieces
record_distinct log = refl

record_some : (log : LogRecord) → AreSome (record_pieces log)
unfolding record_pieces
record_some log = (optional-some (log.time == 0) (text_json (decimal log.time)) (is_null-Text (text_json (decimal log.time)) _ refl), (optional-some (log.observed == 0) (text_json (decimal log.observed)) (is_null-Text (text_json (decimal log.observed)) _ refl), (optional-some (int_eq log.severity (pos 0)) (number_json (signed_decimal log.severity)) (is_null-Number (number_json (signed_decimal log.severity)) _ refl), (optional-some (is_empty log.severity_text) (text_json log.severity_text) (is_null-Text (text_json log.severity_text) _ refl), (optional-some (is_empty_value log.body) (value_json log.body) (value_json-some log.body), (optional-some (is_empty (map pair_json (pairs log.attributes))) (list_json (map pair_json (pairs log.attributes))) (is_null-List (list_json (map pair_json (pairs log.attributes))) _ refl), (optional-some (log.dropped == 0) (number_json (decimal log.dropped)) (is_null-Number (number_json (decimal log.dropped)) _ refl), (optional-some (log.flags == 0) (number_json (decimal log.flags)) (is_null-Number (number_json (decimal log.flags)) _ refl), (optional-some (list_all (λ b. b == 0) log.trace_id) (text_json (encode_lower log.trace_id)) (is_null-Text (text_json (encode_lower log.trace_id)) _ refl), (optional-some (list_all (λ b. b == 0) log.span_id) (text_json (encode_lower log.span_id)) (is_null-Text (text_json (encode_lower log.span_id)) _ refl), tt))))))))))

record_filled : (log : LogRecord) → IsRecord log → (n : Counts) → Within (plus (plus n (only_values (values_in_body log.body))) (only_values (values_in_pairs (pairs log.attributes))))
    → filled record_table (record_pieces log) empty_record n ≡ Ok (log, plus (plus n (only_values (values_in_body log.body))) (only_values (values_in_pairs (pairs log.attributes))))
unfolding record_pieces record_table
record_filled log good n fits =
    let some_body = only_values (values_in_body log.body) in
    let some_attributes = only_values (values_in_pairs (pairs log.attributes)) in
    let bodied = plus n some_body in
    let all = plus bodied some_attributes in
    let within_body : Within bodied = within-less bodied some_attributes fits in
    let x0 : LogRecord = empty_record in
    let x1 : LogRecord = record empty_record { time = log.time } in
    let x2 : LogRecord = record empty_record { time = log.time; observed = log.observed } in
    let x3 : LogRecord = record empty_record { time = log.time; observed = log.observed; severity = log.severity } in
    let x4 : LogRecord = record empty_record { time = log.time; observed = log.observed; severity = log.severity; severity_text = log.severity_text } in
    let x5 : LogRecord = record empty_record { time = log.time; observed = log.observed; severity = log.severity; severity_text = log.severity_text; body = log.body } in
    let x6 : LogRecord = record empty_record { time = log.time; observed = log.observed; severity = log.severity; severity_text = log.severity_text; body = log.body; attributes = log.attributes } in
    let x7 : LogRecord = record empty_record { time = log.time; observed = log.observed; severity = log.severity; severity_text = log.severity_text; body = log.body; attributes = log.attributes; dropped = log.dropped } in
    let x8 : LogRecord = record empty_record { time = log.time; observed = log.observed; severity = log.severity; severity_text = log.severity_text; body = log.body; attributes = log.attributes; dropped = log.dropped; flags = log.flags } in
    let x9 : LogRecord = record empty_record { time = log.time; observed = log.observed; severity = log.severity; severity_text = log.severity_text; body = log.body; attributes = log.attributes; dropped = log.dropped; flags = log.flags; trace_id = log.trace_id } in
    let x10 : LogRecord = record empty_record { time = log.time; observed = log.observed; severity = log.severity; severity_text = log.severity_text; body = log.body; attributes = log.attributes; dropped = log.dropped; flags = log.flags; trace_id = log.trace_id; span_id = log.span_id } in
    let rest10 : List Piece = [] in
    let rest9 : List Piece = (codes "spanId", optional (list_all (λ b. b == 0) log.span_id) (text_json (encode_lower log.span_id))) ∷ rest10 in
    let rest8 : List Piece = (codes "traceId", optional (list_all (λ b. b == 0) log.trace_id) (text_json (encode_lower log.trace_id))) ∷ rest9 in
    let rest7 : List Piece = (codes "flags", optional (log.flags == 0) (number_json (decimal log.flags))) ∷ rest8 in
    let rest6 : List Piece = (codes "droppedAttributesCount", optional (log.dropped == 0) (number_json (decimal log.dropped))) ∷ rest7 in
    let rest5 : List Piece = (codes "attributes", optional (is_empty (map pair_json (pairs log.attributes))) (list_json (map pair_json (pairs log.attributes)))) ∷ rest6 in
    let rest4 : List Piece = (codes "body", optional (is_empty_value log.body) (value_json log.body)) ∷ rest5 in
    let rest3 : List Piece = (codes "severityText", optional (is_empty log.severity_text) (text_json log.severity_text)) ∷ rest4 in
    let rest2 : List Piece = (codes "severityNumber", optional (int_eq log.severity (pos 0)) (number_json (signed_decimal log.severity))) ∷ rest3 in
    let rest1 : List Piece = (codes "observedTimeUnixNano", optional (log.observed == 0) (text_json (decimal log.observed))) ∷ rest2 in
    filled-step record_table (codes "timeUnixNano") (log.time == 0) (text_json (decimal log.time)) rest1 x0 x1 x10 n n all (λ is. (ap (λ v. record x0 { time = v }) (zero_is log.time is), refl)) (λ is. rw (u64_back log.time good.time) refl)
    (filled-step record_table (codes "observedTimeUnixNano") (log.observed == 0) (text_json (decimal log.observed)) rest2 x1 x2 x10 n n all (λ is. (ap (λ v. record x1 { observed = v }) (zero_is log.observed is), refl)) (λ is. rw (u64_back log.observed good.observed) refl)
    (filled-step record_table (codes "severityNumber") (int_eq log.severity (pos 0)) (number_json (signed_decimal log.severity)) rest3 x2 x3 x10 n n all (λ is. (ap (λ v. record x2 { severity = v }) (zero_int_is log.severity is), refl)) (λ is. rw (i32_back log.severity good.severity) refl)
    (filled-step record_table (codes "severityText") (is_empty log.severity_text) (text_json log.severity_text) rest4 x3 x4 x10 n n all (λ is. (ap (λ v. record x3 { severity_text = v }) (empty_is log.severity_text is), refl)) (λ is. rw (text_back log.severity_text) refl)
    (filled-step record_table (codes "body") (is_empty_value log.body) (value_json log.body) rest5 x4 x5 x10 n bodied all (λ is. (ap (λ v. record x4 { body = v }) (empty_value_is log.body is), body_left n (is_empty_value log.body) (values_in_value log.body) is)) (λ is. rw (body_there (is_empty_value log.body) (values_in_value log.body) is, value-back most_levels log.body good.body n (rw (body_there (is_empty_value log.body) (values_in_value log.body) is) at within_body)) refl)
    (filled-step record_table (codes "attributes") (is_empty (map pair_json (pairs log.attributes))) (list_json (map pair_json (pairs log.attributes))) rest6 x5 x6 x10 bodied all all (λ is. (ap (λ v. record x5 { attributes = v }) (ap (λ (l : List (List ℕ × Value)). record { items = l }) (empty_map_is pair_json (pairs log.attributes) is)), attributes_left bodied (pairs log.attributes) is)) (λ is. rw (attributes-back most_levels log.attributes good.attributes bodied fits) refl)
    (filled-step record_table (codes "droppedAttributesCount") (log.dropped == 0) (number_json (decimal log.dropped)) rest7 x6 x7 x10 all all all (λ is. (ap (λ v. record x6 { dropped = v }) (zero_is log.dropped is), refl)) (λ is. rw (u32_back log.dropped good.dropped) refl)
    (filled-step record_table (codes "flags") (log.flags == 0) (number_json (decimal log.flags)) rest8 x7 x8 x10 all all all (λ is. (ap (λ v. record x7 { flags = v }) (zero_is log.flags is), refl)) (λ is. rw (u32_back log.flags good.flags) refl)
    (filled-step record_table (codes "traceId") (list_all (λ b. b == 0) log.trace_id) (text_json (encode_lower log.trace_id)) rest9 x8 x9 x10 all all all (λ is. (ap (λ v. record x8 { trace_id = v }) (sym (zeros_are 16 log.trace_id is good.trace_id.0)), refl)) (λ is. rw (id_back 16 log.trace_id is good.trace_id.0 good.trace_id.1) refl)
    (filled-step record_table (codes "spanId") (list_all (λ b. b == 0) log.span_id) (text_json (encode_lower log.span_id)) rest10 x9 x10 x10 all all all (λ is. (ap (λ v. record x9 { span_id = v }) (sym (zeros_are 8 log.span_id is good.span_id.0)), refl)) (λ is. rw (id_back 8 log.span_id is good.span_id.0 good.span_id.1) refl)
    refl)))))))))

record_fields : (log : LogRecord) → IsRecord log → (n : Counts) → Within (plus n (size_of_record log))
    → object record_table empty_record (record_json log) (plus n (record { records = 1; holders = 0; values = 0 })) ≡ Ok (log, plus n (size_of_record log))
unfolding record_json
record_fields log good n fits =
    let one : Counts = record { records = 1; holders = 0; values = 0 } in
    let n1 = plus n one in
    let some_body = only_values (values_in_body log.body) in
    let some_attributes = only_values (values_in_pairs (pairs log.attributes)) in
    let all = plus (plus n1 some_body) some_attributes in
    let same : all ≡ plus n (size_of_record log) = same_counts all (plus n (size_of_record log)) (omega arith) (omega arith) (omega arith) in
    let within : Within all = (omega (arith, fits.0), omega (arith, fits.1), omega (arith, fits.2)) in
    rw (members_in-Object (object_json (record_members log)) (record_members log) refl)
    (ap (λ (ms : List Member). fields record_table ms empty_record n1) (record_present log)
    ∙ fields-present record_table (record_pieces log) empty_record n1 (record_distinct log) (record_some log) ∙ record_filled log good n1 within
    ∙ ap (λ (m : Counts). Ok (log, m)) same)

record_at : (log : LogRecord) → (record_json log).at ≡ 0
unfolding record_json
record_at log = refl

-- a log record is read again as the same record
pub record-back : (log : LogRecord) → IsRecord log → Back record_in record_json size_of_record log
unfolding record_in record_json
record-back log good n fits =
    let room : n.records < most_records = omega (arith, fits.0) in
    rw (record_at log, one_record-is 0 n room) (record_fields log good n fits)

-- Lists of such.

items-back : {X : Type 0} (one : Reader X) (json : X → Json) (size : X → Counts) (xs : List X) → All (Back one json size) xs → (n : Counts) → Within (plus n (sizes size xs))
    → list one (list_json (map json xs)) n ≡ Ok (xs, plus n (sizes size xs))
items-back one json size xs all n fits = rw (items_in-List (list_json (map json xs)) (map json xs) refl) (each-back one json size xs all [] n fits)

sizes_left : {X : Type 0} (json : X → Json) (size : X → Counts) (n : Counts) (xs : List X) → is_empty (map json xs) ≡ true → n ≡ plus n (sizes size xs)
sizes_left json size n [] is = sym (plus-none n)
sizes_left json size n (x ∷ xs) is = absurd cc

unfoldable pub scope_pieces : ScopeNode → List Piece
scope_pieces scope =
    (codes "name", optional (is_empty scope.name) (text_json scope.name))
    ∷ (codes "version", optional (is_empty scope.version) (text_json scope.version))
    ∷ (codes "attributes", optional (is_empty (map pair_json (pairs scope.attributes))) (list_json (map pair_json (pairs scope.attributes))))
    ∷ (codes "droppedAttributesCount", optional (scope.dropped == 0) (number_json (decimal scope.dropped)))
    ∷ []

pub scope_present : (scope : ScopeNode) → scope_members scope ≡ present (scope_pieces scope)
unfolding scope_pieces
scope_present scope =
    glued-4 (unless (is_empty scope.name) (codes "name") (text_json scope.name)) (unless (is_empty scope.version) (codes "version") (text_json scope.version)) (list_member (codes "attributes") (map pair_json (pairs scope.attributes))) (unless (scope.dropped == 0) (codes "droppedAttributesCount") (number_json (decimal scope.dropped)))
    ∙ ap (λ (l : List Member). (l) ++ ((unless (is_empty scope.version) (codes "version") (text_json scope.version)) ++ ((list_member (codes "attributes") (map pair_json (pairs scope.attributes))) ++ ((unless (scope.dropped == 0) (codes "droppedAttributesCount") (number_json (decimal scope.dropped))) ++ [])))) (unless-is (is_empty scope.name) (codes "name") (text_json scope.name))
    ∙ ap (λ (l : List Member). (members_by (codes "name") (optional (is_empty scope.name) (text_json scope.name))) ++ ((l) ++ ((list_member (codes "attributes") (map pair_json (pairs scope.attributes))) ++ ((unless (scope.dropped == 0) (codes "droppedAttributesCount") (number_json (decimal scope.dropped))) ++ [])))) (unless-is (is_empty scope.version) (codes "version") (text_json scope.version))
    ∙ ap (λ (l : List Member). (members_by (codes "name") (optional (is_empty scope.name) (text_json scope.name))) ++ ((members_by (codes "version") (optional (is_empty scope.version) (text_json scope.version))) ++ ((l) ++ ((unless (scope.dropped == 0) (codes "droppedAttributesCount") (number_json (decimal scope.dropped))) ++ [])))) (list_member-is (codes "attributes") (map pair_json (pairs scope.attributes)))
    ∙ ap (λ (l : List Member). (members_by (codes "name") (optional (is_empty scope.name) (text_json scope.name))) ++ ((members_by (codes "version") (optional (is_empty scope.version) (text_json scope.version))) ++ ((members_by (codes "attributes") (optional (is_empty (map pair_json (pairs scope.attributes))) (list_json (map pair_json (pairs scope.attributes))))) ++ ((l) ++ [])))) (unless-is (scope.dropped == 0) (codes "droppedAttributesCount") (number_json (decimal scope.dropped)))

scope_distinct : (scope : ScopeNode) → is_distinct (scope_pieces scope) ≡ true
unfolding scope_pieces
scope_distinct scope = refl

scope_some : (scope : ScopeNode) → AreSome (scope_pieces scope)
unfolding scope_pieces
scope_some scope = (optional-some (is_empty scope.name) (text_json scope.name) (is_null-Text (text_json scope.name) _ refl), (optional-some (is_empty scope.version) (text_json scope.version) (is_null-Text (text_json scope.version) _ refl), (optional-some (is_empty (map pair_json (pairs scope.attributes))) (list_json (map pair_json (pairs scope.attributes))) (is_null-List (list_json (map pair_json (pairs scope.attributes))) _ refl), (optional-some (scope.dropped == 0) (number_json (decimal scope.dropped)) (is_null-Number (number_json (decimal scope.dropped)) _ refl), tt))))

scope_filled : (scope : ScopeNode) → IsScope scope → (n : Counts) → Within (plus n (only_values (values_in_pairs (pairs scope.attributes))))
    → filled scope_table (scope_pieces scope) empty_scope n ≡ Ok (record scope { schema_url = [] }, plus n (only_values (values_in_pairs (pairs scope.attributes))))
unfolding scope_pieces scope_table
scope_filled scope good n fits =
    let all = plus n (only_values (values_in_pairs (pairs scope.attributes))) in
    let x0 : ScopeNode = empty_scope in
    let x1 : ScopeNode = record empty_scope { name = scope.name } in
    let x2 : ScopeNode = record empty_scope { name = scope.name; version = scope.version } in
    let x3 : ScopeNode = record empty_scope { name = scope.name; version = scope.version; attributes = scope.attributes } in
    let x4 : ScopeNode = record empty_scope { name = scope.name; version = scope.version; attributes = scope.attributes; dropped = scope.dropped } in
    let rest4 : List Piece = [] in
    let rest3 : List Piece = (codes "droppedAttributesCount", optional (scope.dropped == 0) (number_json (decimal scope.dropped))) ∷ rest4 in
    let rest2 : List Piece = (codes "attributes", optional (is_empty (map pair_json (pairs scope.attributes))) (list_json (map pair_json (pairs scope.attributes)))) ∷ rest3 in
    let rest1 : List Piece = (codes "version", optional (is_empty scope.version) (text_json scope.version)) ∷ rest2 in
    filled-step scope_table (codes "name") (is_empty scope.name) (text_json scope.name) rest1 x0 x1 x4 n n all (λ is. (ap (λ v. record x0 { name = v }) (empty_is scope.name is), refl)) (λ is. rw (text_back scope.name) refl)
    (filled-step scope_table (codes "version") (is_empty scope.version) (text_json scope.version) rest2 x1 x2 x4 n n all (λ is. (ap (λ v. record x1 { version = v }) (empty_is scope.version is), refl)) (λ is. rw (text_back scope.version) refl)
    (filled-step scope_table (codes "attributes") (is_empty (map pair_json (pairs scope.attributes))) (list_json (map pair_json (pairs scope.attributes))) rest3 x2 x3 x4 n all all (λ is. (ap (λ v. record x2 { attributes = v }) (ap (λ (l : List (List ℕ × Value)). record { items = l }) (empty_map_is pair_json (pairs scope.attributes) is)), attributes_left n (pairs scope.attributes) is)) (λ is. rw (attributes-back most_levels scope.attributes good.attributes n fits) refl)
    (filled-step scope_table (codes "droppedAttributesCount") (scope.dropped == 0) (number_json (decimal scope.dropped)) rest4 x3 x4 x4 all all all (λ is. (ap (λ v. record x3 { dropped = v }) (zero_is scope.dropped is), refl)) (λ is. rw (u32_back scope.dropped good.dropped) refl)
    refl)))

unfoldable pub resource_pieces : ResourceNode → List Piece
resource_pieces resource =
    (codes "attributes", optional (is_empty (map pair_json (pairs resource.attributes))) (list_json (map pair_json (pairs resource.attributes))))
    ∷ (codes "droppedAttributesCount", optional (resource.dropped == 0) (number_json (decimal resource.dropped)))
    ∷ []

pub resource_present : (resource : ResourceNode) → resource_members resource ≡ present (resource_pieces resource)
unfolding resource_pieces
resource_present resource =
    glued-2 (list_member (codes "attributes") (map pair_json (pairs resource.attributes))) (unless (resource.dropped == 0) (codes "droppedAttributesCount") (number_json (decimal resource.dropped)))
    ∙ ap (λ (l : List Member). (l) ++ ((unless (resource.dropped == 0) (codes "droppedAttributesCount") (number_json (decimal resource.dropped))) ++ [])) (list_member-is (codes "attributes") (map pair_json (pairs resource.attributes)))
    ∙ ap (λ (l : List Member). (members_by (codes "attributes") (optional (is_empty (map pair_json (pairs resource.attributes))) (list_json (map pair_json (pairs resource.attributes))))) ++ ((l) ++ [])) (unless-is (resource.dropped == 0) (codes "droppedAttributesCount") (number_json (decimal resource.dropped)))

resource_distinct : (resource : ResourceNode) → is_distinct (resource_pieces resource) ≡ true
unfolding resource_pieces
resource_distinct resource = refl

resource_some : (resource : ResourceNode) → AreSome (resource_pieces resource)
unfolding resource_pieces
resource_some resource = (optional-some (is_empty (map pair_json (pairs resource.attributes))) (list_json (map pair_json (pairs resource.attributes))) (is_null-List (list_json (map pair_json (pairs resource.attributes))) _ refl), (optional-some (resource.dropped == 0) (number_json (decimal resource.dropped)) (is_null-Number (number_json (decimal resource.dropped)) _ refl), tt))

resource_filled : (resource : ResourceNode) → IsResource resource → (n : Counts) → Within (plus n (only_values (values_in_pairs (pairs resource.attributes))))
    → filled resource_table (resource_pieces resource) empty_resource n ≡ Ok (record resource { schema_url = [] }, plus n (only_values (values_in_pairs (pairs resource.attributes))))
unfolding resource_pieces resource_table
resource_filled resource good n fits =
    let all = plus n (only_values (values_in_pairs (pairs resource.attributes))) in
    let x0 : ResourceNode = empty_resource in
    let x1 : ResourceNode = record empty_resource { attributes = resource.attributes } in
    let x2 : ResourceNode = record empty_resource { attributes = resource.attributes; dropped = resource.dropped } in
    let rest2 : List Piece = [] in
    let rest1 : List Piece = (codes "droppedAttributesCount", optional (resource.dropped == 0) (number_json (decimal resource.dropped))) ∷ rest2 in
    filled-step resource_table (codes "attributes") (is_empty (map pair_json (pairs resource.attributes))) (list_json (map pair_json (pairs resource.attributes))) rest1 x0 x1 x2 n all all (λ is. (ap (λ v. record x0 { attributes = v }) (ap (λ (l : List (List ℕ × Value)). record { items = l }) (empty_map_is pair_json (pairs resource.attributes) is)), attributes_left n (pairs resource.attributes) is)) (λ is. rw (attributes-back most_levels resource.attributes good.attributes n fits) refl)
    (filled-step resource_table (codes "droppedAttributesCount") (resource.dropped == 0) (number_json (decimal resource.dropped)) rest2 x1 x2 x2 all all all (λ is. (ap (λ v. record x1 { dropped = v }) (zero_is resource.dropped is), refl)) (λ is. rw (u32_back resource.dropped good.dropped) refl)
    refl)

scope-back : (scope : ScopeNode) → IsScope scope → (n : Counts) → Within (plus n (only_values (values_in_pairs (pairs scope.attributes))))
    → scope_in (object_json (scope_members scope)) n ≡ Ok (record scope { schema_url = [] }, plus n (only_values (values_in_pairs (pairs scope.attributes))))
unfolding scope_in
scope-back scope good n fits =
    rw (members_in-Object (object_json (scope_members scope)) (scope_members scope) refl)
    (ap (λ (ms : List Member). fields scope_table ms empty_scope n) (scope_present scope)
    ∙ fields-present scope_table (scope_pieces scope) empty_scope n (scope_distinct scope) (scope_some scope) ∙ scope_filled scope good n fits)

resource-back : (resource : ResourceNode) → IsResource resource → (n : Counts) → Within (plus n (only_values (values_in_pairs (pairs resource.attributes))))
    → resource_in (object_json (resource_members resource)) n ≡ Ok (record resource { schema_url = [] }, plus n (only_values (values_in_pairs (pairs resource.attributes))))
unfolding resource_in
resource-back resource good n fits =
    rw (members_in-Object (object_json (resource_members resource)) (resource_members resource) refl)
    (ap (λ (ms : List Member). fields resource_table ms empty_resource n) (resource_present resource)
    ∙ fields-present resource_table (resource_pieces resource) empty_resource n (resource_distinct resource) (resource_some resource) ∙ resource_filled resource good n fits)

unfoldable pub scope_logs_pieces : ScopeTree → List Piece
scope_logs_pieces element =
    (codes "scope", optional (false) (object_json (scope_members element.node)))
    ∷ (codes "logRecords", optional (is_empty (map record_json element.logs)) (list_json (map record_json element.logs)))
    ∷ (codes "schemaUrl", optional (is_empty element.node.schema_url) (text_json element.node.schema_url))
    ∷ []

pub scope_logs_present : (element : ScopeTree) → scope_logs_members element ≡ present (scope_logs_pieces element)
unfolding scope_logs_pieces
scope_logs_present element =
    glued-3 ((codes "scope", object_json (scope_members element.node)) ∷ []) (list_member (codes "logRecords") (map record_json element.logs)) (unless (is_empty element.node.schema_url) (codes "schemaUrl") (text_json element.node.schema_url))
    ∙ ap (λ (l : List Member). ((codes "scope", object_json (scope_members element.node)) ∷ []) ++ ((l) ++ ((unless (is_empty element.node.schema_url) (codes "schemaUrl") (text_json element.node.schema_url)) ++ []))) (list_member-is (codes "logRecords") (map record_json element.logs))
    ∙ ap (λ (l : List Member). ((codes "scope", object_json (scope_members element.node)) ∷ []) ++ ((members_by (codes "logRecords") (optional (is_empty (map record_json element.logs)) (list_json (map record_json element.logs)))) ++ ((l) ++ []))) (unless-is (is_empty element.node.schema_url) (codes "schemaUrl") (text_json element.node.schema_url))

scope_logs_distinct : (element : ScopeTree) → is_distinct (scope_logs_pieces element) ≡ true
unfolding scope_logs_pieces
scope_logs_distinct element = refl

scope_logs_some : (element : ScopeTree) → AreSome (scope_logs_pieces element)
unfolding scope_logs_pieces
scope_logs_some element = (optional-some (false) (object_json (scope_members element.node)) (is_null-Object (object_json (scope_members element.node)) _ refl), (optional-some (is_empty (map record_json element.logs)) (list_json (map record_json element.logs)) (is_null-List (list_json (map record_json element.logs)) _ refl), (optional-some (is_empty element.node.schema_url) (text_json element.node.schema_url) (is_null-Text (text_json element.node.schema_url) _ refl), tt)))

scope_logs_filled : (element : ScopeTree) → IsScopeLogs element → (n : Counts) → Within (plus (plus n (only_values (values_in_pairs (pairs element.node.attributes)))) (sizes size_of_record element.logs))
    → filled scope_logs_table (scope_logs_pieces element) empty_scope_logs n ≡ Ok (element, plus (plus n (only_values (values_in_pairs (pairs element.node.attributes)))) (sizes size_of_record element.logs))
unfolding scope_logs_pieces scope_logs_table records_in
scope_logs_filled element good n fits =
    let some_attributes = only_values (values_in_pairs (pairs element.node.attributes)) in
    let some_items = sizes size_of_record element.logs in
    let noded = plus n some_attributes in
    let all = plus noded some_items in
    let within_node : Within noded = within-less noded some_items fits in
    let all_back : All (Back record_in record_json size_of_record) element.logs = All-weaker IsRecord (Back record_in record_json size_of_record) (λ x h. record-back x h) element.logs good.logs in
    let x0 : ScopeTree = empty_scope_logs in
    let x1 : ScopeTree = record empty_scope_logs { node = record element.node { schema_url = [] } } in
    let x2 : ScopeTree = record { node = record element.node { schema_url = [] }; logs = element.logs } in
    let x3 : ScopeTree = element in
    let rest3 : List Piece = [] in
    let rest2 : List Piece = (codes "schemaUrl", optional (is_empty element.node.schema_url) (text_json element.node.schema_url)) ∷ rest3 in
    let rest1 : List Piece = (codes "logRecords", optional (is_empty (map record_json element.logs)) (list_json (map record_json element.logs))) ∷ rest2 in
    filled-step scope_logs_table (codes "scope") (false) (object_json (scope_members element.node)) rest1 x0 x1 x3 n noded all (λ is. (absurd cc, absurd cc)) (λ is. rw (scope-back element.node good.node n within_node) refl)
    (filled-step scope_logs_table (codes "logRecords") (is_empty (map record_json element.logs)) (list_json (map record_json element.logs)) rest2 x1 x2 x3 noded all all (λ is. (ap (λ v. record x1 { logs = v }) (empty_map_is record_json element.logs is), sizes_left record_json size_of_record noded element.logs is)) (λ is. rw (items-back record_in record_json size_of_record element.logs all_back noded fits) refl)
    (filled-step scope_logs_table (codes "schemaUrl") (is_empty element.node.schema_url) (text_json element.node.schema_url) rest3 x2 x3 x3 all all all (λ is. (ap (λ v. record x2 { node = record element.node { schema_url = v } }) (empty_is element.node.schema_url is), refl)) (λ is. rw (text_back element.node.schema_url) refl)
    refl))

scope_logs_at : (element : ScopeTree) → (scope_logs_json element).at ≡ 0
unfolding scope_logs_json
scope_logs_at element = refl

scope_logs_fields : (element : ScopeTree) → IsScopeLogs element → (n : Counts) → Within (plus n (size_of_scope_logs element))
    → object scope_logs_table empty_scope_logs (scope_logs_json element) (plus n (record { records = 0; holders = 1; values = 0 })) ≡ Ok (element, plus n (size_of_scope_logs element))
unfolding scope_logs_json size_of_scope_logs
scope_logs_fields element good n fits =
    let one : Counts = record { records = 0; holders = 1; values = 0 } in
    let n1 = plus n one in
    let some_attributes = only_values (values_in_pairs (pairs element.node.attributes)) in
    let some_items = sizes size_of_record element.logs in
    let all = plus (plus n1 some_attributes) some_items in
    let same : all ≡ plus n (size_of_scope_logs element) = same_counts all (plus n (size_of_scope_logs element)) (omega arith) (omega arith) (omega arith) in
    let within : Within all = (omega (arith, fits.0), omega (arith, fits.1), omega (arith, fits.2)) in
    rw (members_in-Object (object_json (scope_logs_members element)) (scope_logs_members element) refl)
    (ap (λ (ms : List Member). fields scope_logs_table ms empty_scope_logs n1) (scope_logs_present element)
    ∙ fields-present scope_logs_table (scope_logs_pieces element) empty_scope_logs n1 (scope_logs_distinct element) (scope_logs_some element) ∙ scope_logs_filled element good n1 within
    ∙ ap (λ (m : Counts). Ok (element, m)) same)

scope_logs_room : (element : ScopeTree) (n : Counts) → Within (plus n (size_of_scope_logs element)) → n.holders < most_holders
unfolding size_of_scope_logs
scope_logs_room element n fits = omega (arith, fits.1)

-- an element is read again as the same element
pub scope_logs-back : (element : ScopeTree) → IsScopeLogs element → Back scope_logs_in scope_logs_json size_of_scope_logs element
unfolding scope_logs_in scope_logs_json
scope_logs-back element good n fits =
    rw (scope_logs_at element, one_holder-is 0 n (scope_logs_room element n fits)) (scope_logs_fields element good n fits)

unfoldable pub resource_logs_pieces : ResourceTree → List Piece
resource_logs_pieces element =
    (codes "resource", optional (false) (object_json (resource_members element.node)))
    ∷ (codes "scopeLogs", optional (is_empty (map scope_logs_json element.scopes)) (list_json (map scope_logs_json element.scopes)))
    ∷ (codes "schemaUrl", optional (is_empty element.node.schema_url) (text_json element.node.schema_url))
    ∷ []

pub resource_logs_present : (element : ResourceTree) → resource_logs_members element ≡ present (resource_logs_pieces element)
unfolding resource_logs_pieces
resource_logs_present element =
    glued-3 ((codes "resource", object_json (resource_members element.node)) ∷ []) (list_member (codes "scopeLogs") (map scope_logs_json element.scopes)) (unless (is_empty element.node.schema_url) (codes "schemaUrl") (text_json element.node.schema_url))
    ∙ ap (λ (l : List Member). ((codes "resource", object_json (resource_members element.node)) ∷ []) ++ ((l) ++ ((unless (is_empty element.node.schema_url) (codes "schemaUrl") (text_json element.node.schema_url)) ++ []))) (list_member-is (codes "scopeLogs") (map scope_logs_json element.scopes))
    ∙ ap (λ (l : List Member). ((codes "resource", object_json (resource_members element.node)) ∷ []) ++ ((members_by (codes "scopeLogs") (optional (is_empty (map scope_logs_json element.scopes)) (list_json (map scope_logs_json element.scopes)))) ++ ((l) ++ []))) (unless-is (is_empty element.node.schema_url) (codes "schemaUrl") (text_json element.node.schema_url))

resource_logs_distinct : (element : ResourceTree) → is_distinct (resource_logs_pieces element) ≡ true
unfolding resource_logs_pieces
resource_logs_distinct element = refl

resource_logs_some : (element : ResourceTree) → AreSome (resource_logs_pieces element)
unfolding resource_logs_pieces
resource_logs_some element = (optional-some (false) (object_json (resource_members element.node)) (is_null-Object (object_json (resource_members element.node)) _ refl), (optional-some (is_empty (map scope_logs_json element.scopes)) (list_json (map scope_logs_json element.scopes)) (is_null-List (list_json (map scope_logs_json element.scopes)) _ refl), (optional-some (is_empty element.node.schema_url) (text_json element.node.schema_url) (is_null-Text (text_json element.node.schema_url) _ refl), tt)))

resource_logs_filled : (element : ResourceTree) → IsResourceLogs element → (n : Counts) → Within (plus (plus n (only_values (values_in_pairs (pairs element.node.attributes)))) (sizes size_of_scope_logs element.scopes))
    → filled resource_logs_table (resource_logs_pieces element) empty_resource_logs n ≡ Ok (element, plus (plus n (only_values (values_in_pairs (pairs element.node.attributes)))) (sizes size_of_scope_logs element.scopes))
unfolding resource_logs_pieces resource_logs_table scopes_in
resource_logs_filled element good n fits =
    let some_attributes = only_values (values_in_pairs (pairs element.node.attributes)) in
    let some_items = sizes size_of_scope_logs element.scopes in
    let noded = plus n some_attributes in
    let all = plus noded some_items in
    let within_node : Within noded = within-less noded some_items fits in
    let all_back : All (Back scope_logs_in scope_logs_json size_of_scope_logs) element.scopes = All-weaker IsScopeLogs (Back scope_logs_in scope_logs_json size_of_scope_logs) (λ x h. scope_logs-back x h) element.scopes good.scopes in
    let x0 : ResourceTree = empty_resource_logs in
    let x1 : ResourceTree = record empty_resource_logs { node = record element.node { schema_url = [] } } in
    let x2 : ResourceTree = record { node = record element.node { schema_url = [] }; scopes = element.scopes } in
    let x3 : ResourceTree = element in
    let rest3 : List Piece = [] in
    let rest2 : List Piece = (codes "schemaUrl", optional (is_empty element.node.schema_url) (text_json element.node.schema_url)) ∷ rest3 in
    let rest1 : List Piece = (codes "scopeLogs", optional (is_empty (map scope_logs_json element.scopes)) (list_json (map scope_logs_json element.scopes))) ∷ rest2 in
    filled-step resource_logs_table (codes "resource") (false) (object_json (resource_members element.node)) rest1 x0 x1 x3 n noded all (λ is. (absurd cc, absurd cc)) (λ is. rw (resource-back element.node good.node n within_node) refl)
    (filled-step resource_logs_table (codes "scopeLogs") (is_empty (map scope_logs_json element.scopes)) (list_json (map scope_logs_json element.scopes)) rest2 x1 x2 x3 noded all all (λ is. (ap (λ v. record x1 { scopes = v }) (empty_map_is scope_logs_json element.scopes is), sizes_left scope_logs_json size_of_scope_logs noded element.scopes is)) (λ is. rw (items-back scope_logs_in scope_logs_json size_of_scope_logs element.scopes all_back noded fits) refl)
    (filled-step resource_logs_table (codes "schemaUrl") (is_empty element.node.schema_url) (text_json element.node.schema_url) rest3 x2 x3 x3 all all all (λ is. (ap (λ v. record x2 { node = record element.node { schema_url = v } }) (empty_is element.node.schema_url is), refl)) (λ is. rw (text_back element.node.schema_url) refl)
    refl))

resource_logs_at : (element : ResourceTree) → (resource_logs_json element).at ≡ 0
unfolding resource_logs_json
resource_logs_at element = refl

resource_logs_fields : (element : ResourceTree) → IsResourceLogs element → (n : Counts) → Within (plus n (size_of_resource_logs element))
    → object resource_logs_table empty_resource_logs (resource_logs_json element) (plus n (record { records = 0; holders = 1; values = 0 })) ≡ Ok (element, plus n (size_of_resource_logs element))
unfolding resource_logs_json size_of_resource_logs
resource_logs_fields element good n fits =
    let one : Counts = record { records = 0; holders = 1; values = 0 } in
    let n1 = plus n one in
    let some_attributes = only_values (values_in_pairs (pairs element.node.attributes)) in
    let some_items = sizes size_of_scope_logs element.scopes in
    let all = plus (plus n1 some_attributes) some_items in
    let same : all ≡ plus n (size_of_resource_logs element) = same_counts all (plus n (size_of_resource_logs element)) (omega arith) (omega arith) (omega arith) in
    let within : Within all = (omega (arith, fits.0), omega (arith, fits.1), omega (arith, fits.2)) in
    rw (members_in-Object (object_json (resource_logs_members element)) (resource_logs_members element) refl)
    (ap (λ (ms : List Member). fields resource_logs_table ms empty_resource_logs n1) (resource_logs_present element)
    ∙ fields-present resource_logs_table (resource_logs_pieces element) empty_resource_logs n1 (resource_logs_distinct element) (resource_logs_some element) ∙ resource_logs_filled element good n1 within
    ∙ ap (λ (m : Counts). Ok (element, m)) same)

resource_logs_room : (element : ResourceTree) (n : Counts) → Within (plus n (size_of_resource_logs element)) → n.holders < most_holders
unfolding size_of_resource_logs
resource_logs_room element n fits = omega (arith, fits.1)

-- an element is read again as the same element
pub resource_logs-back : (element : ResourceTree) → IsResourceLogs element → Back resource_logs_in resource_logs_json size_of_resource_logs element
unfolding resource_logs_in resource_logs_json
resource_logs-back element good n fits =
    rw (resource_logs_at element, one_holder-is 0 n (resource_logs_room element n fits)) (resource_logs_fields element good n fits)

-- a payload is read again as the same payload
pub batch-back : (batch : Batch) → IsPayload batch → batch_in (batch_json batch) none_counted ≡ Ok (batch, plus none_counted (size_of batch))
unfolding batch_in batch_json batch_table resources_in size_of
batch-back batch good =
    let js = list_json (map resource_logs_json batch.resources) in
    let all_back : All (Back resource_logs_in resource_logs_json size_of_resource_logs) batch.resources =
    All-weaker IsResourceLogs (Back resource_logs_in resource_logs_json size_of_resource_logs) (λ x h. resource_logs-back x h) batch.resources good.resources in
    let fits : Within (plus none_counted (sizes size_of_resource_logs batch.resources)) = (omega (arith, good.within.0), omega (arith, good.within.1), omega (arith, good.within.2)) in
    rw (
      as_members-Object (batch_json batch) ((codes "resourceLogs", js) ∷ []) refl,
      is_null-List js _ refl,
      items-back resource_logs_in resource_logs_json size_of_resource_logs batch.resources all_back none_counted fits,
    ) refl
