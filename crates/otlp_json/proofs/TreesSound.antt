-- A written payload can be read again as JSON.
use Rattle.std.proofs.Common.{◌≡◌, ◌∙◌, ℕ, ℤ, zero, suc, ◌*◌, ◌<◌, ◌^◌, ◌==◌, false, List, [], ◌∷◌, map, refl, sym, subst, arith, pos, SFits, w32, w64}
use Rattle.std.specs.Prelude.{codes}
use Rattle.std.specs.List.{All, list_all}
use Rattle.std.specs.Str.{IsUtf8}
use Rattle.std.specs.Ordering.{int_eq}
use Rattle.std.specs.Fmt.{decimal, signed_decimal}
use Rattle.std.proofs.lemmas.Int.{ints}
use Rattle.std.proofs.lemmas.List.Elements.{All-map, All-weaker}
use Rattle.hex.specs.Hex.{encode_lower}
use Rattle.base64.specs.Engines.{standard}
use Rattle.base64.specs.GeneralPurpose as base64
use Rattle.pdata_value.specs.Value.{items, pairs}
use Rattle.pdata_value.specs.declared.value.Value.{Value, roll-Value, out-Value}
use Rattle.pdata_value.specs.declared.value.Value.TheOpen.{Value-F}
use Rattle.pdata_value.specs.declared.value.Value.TheVariants as variants
use Rattle.pdata_value.specs.declared.value.Value.TheViews.{roll-out-Value}
use Rattle.pdata_value.specs.declared.values.Values.{Values}
use Rattle.pdata_value.specs.declared.pairs.Pairs.{Pairs}
use Rattle.pdata_tree.specs.declared.batch.Batch.{Batch}
use Rattle.pdata_tree.specs.declared.resource.ResourceNode.{ResourceNode}
use Rattle.pdata_tree.specs.declared.resource.ResourceTree.{ResourceTree}
use Rattle.pdata_tree.specs.declared.scope.ScopeNode.{ScopeNode}
use Rattle.pdata_tree.specs.declared.scope.ScopeTree.{ScopeTree}
use Rattle.pdata_tree.specs.declared.record.LogRecord.{LogRecord}
use Rattle.json_text.specs.declared.json.Json.{Json}
use Rattle.otlp_json.specs.Limits.{most_levels}
use Rattle.otlp_json.specs.Line.{text_json, number_json, truth_json, list_json, object_json, one_json, list_member, is_empty, is_empty_value, values_json, double_json, value_json, pair_json, record_members, record_json, scope_members, scope_logs_members, scope_logs_json, resource_members, resource_logs_members, resource_logs_json, batch_json}
use Rattle.otlp_json.specs.WellFormed.{holds, IsValue, IsAttributes, IsRecord, IsScope, IsScopeLogs, IsResource, IsResourceLogs, IsPayload}
use Rattle.otlp_json.proofs.ValueJson.{value_json-Empty, value_json-Text, value_json-Truth, value_json-Int, value_json-Double, value_json-Bytes, value_json-List, value_json-Map}
use Rattle.otlp_json.proofs.Sound.{Sound, SoundMembers, sound-deeper, sound-text, sound-number, sound-truth, sound-list, sound-object, members-none, members-cons, present-sound, sound-optional, utf8-is, utf8-hex, utf8-base64, numeral-decimal, numeral-signed, utf8-decimal, utf8-signed, sound-double}
use Rattle.otlp_json.proofs.TreesBack.{record_pieces, record_present, scope_pieces, scope_present, resource_pieces, resource_present, scope_logs_pieces, scope_logs_present, resource_logs_pieces, resource_logs_present}

-- Values: a level takes at most four containers.

one-sound : (key : List ℕ) (json : Json) (d : ℕ) → IsUtf8 key → Sound json d → Sound (one_json key json) (suc d)
one-sound key json d utf8 s = sound-object ((key, json) ∷ []) d (members-cons key json [] d utf8 s (members-none d))

values_member : (js : List Json) (d : ℕ) → All (λ j. Sound j d) js → SoundMembers (list_member (codes "values") js) (suc d)
values_member [] d all = members-none (suc d)
values_member (j ∷ js) d all =
    members-cons (codes "values") (list_json (j ∷ js)) [] (suc d) (utf8-is (codes "values") refl) (sound-list (j ∷ js) d all) (members-none (suc d))

values-sound : (js : List Json) (d : ℕ) → All (λ j. Sound j d) js → Sound (values_json js) (suc (suc d))
values-sound js d all = sound-object (list_member (codes "values") js) (suc d) (values_member js d all)

pub pair-sound : (p : List ℕ × Value) (d : ℕ) → IsUtf8 p.0 → Sound (value_json p.1) d → Sound (pair_json p) (suc d)
pair-sound p d utf8 s =
    sound-object ((codes "key", text_json p.0) ∷ (codes "value", value_json p.1) ∷ []) d
    (members-cons (codes "key") (text_json p.0) _ d (utf8-is (codes "key") refl) (sound-text p.0 d utf8)
    (members-cons (codes "value") (value_json p.1) [] d (utf8-is (codes "value") refl) s (members-none d)))

leaf : (key : List ℕ) (json : Json) (levels : ℕ) → IsUtf8 key → Sound json 0 → Sound (one_json key json) (4 * suc levels)
leaf key json levels utf8 s = sound-deeper (one_json key json) 1 (4 * suc levels) (omega arith) (one-sound key json 0 utf8 s)

layer-sound : (levels : ℕ) (v : Value) (layer : Value-F Value Pairs Values) → v ≡ roll-Value layer → holds (IsValue levels) layer
    → ((w : Value) → IsValue levels w → Sound (value_json w) (4 * levels)) → Sound (value_json v) (4 * suc levels)
layer-sound levels v Value-F.Empty is good below =
    rw (is ∙ variants.rolls-Empty, value_json-Empty) (sound-deeper (object_json []) 1 (4 * suc levels) (omega arith) (sound-object [] 0 (members-none 0)))
layer-sound levels v (Value-F.Text t) is good below =
    rw (is ∙ variants.rolls-Text t, value_json-Text t) (leaf (codes "stringValue") (text_json t) levels (utf8-is (codes "stringValue") refl) (sound-text t 0 good))
layer-sound levels v (Value-F.Truth b) is good below =
    rw (is ∙ variants.rolls-Truth b, value_json-Truth b) (leaf (codes "boolValue") (truth_json b) levels (utf8-is (codes "boolValue") refl) (sound-truth b 0))
layer-sound levels v (Value-F.Int i) is good below =
    rw (is ∙ variants.rolls-Int i, value_json-Int i)
    (leaf (codes "intValue") (text_json (signed_decimal i)) levels (utf8-is (codes "intValue") refl) (sound-text (signed_decimal i) 0 (utf8-signed i good)))
layer-sound levels v (Value-F.Double s) is good below =
    rw (is ∙ variants.rolls-Double s, value_json-Double s) (leaf (codes "doubleValue") (double_json s) levels (utf8-is (codes "doubleValue") refl) (sound-double s 0 good))
layer-sound levels v (Value-F.Bytes b) is good below =
    rw (is ∙ variants.rolls-Bytes b, value_json-Bytes b)
    (leaf (codes "bytesValue") (text_json (base64.encode_of standard b)) levels (utf8-is (codes "bytesValue") refl) (sound-text (base64.encode_of standard b) 0 (utf8-base64 b)))
layer-sound levels v (Value-F.List vs) is good below =
    let d : ℕ = 4 * levels in
    let all : All (λ j. Sound j d) (map value_json (items vs)) =
    All-map (λ j. Sound j d) value_json (items vs) (All-weaker (IsValue levels) (λ w. Sound (value_json w) d) below (items vs) good) in
    let inner = values-sound (map value_json (items vs)) d all in
    rw (is ∙ variants.rolls-List vs, value_json-List vs)
    (sound-deeper (one_json (codes "arrayValue") (values_json (map value_json (items vs)))) (suc (suc (suc d))) (4 * suc levels) (omega arith)
    (one-sound (codes "arrayValue") (values_json (map value_json (items vs))) (suc (suc d)) (utf8-is (codes "arrayValue") refl) inner))
layer-sound levels v (Value-F.Map ps) is good below =
    let d : ℕ = 4 * levels in
    let all : All (λ j. Sound j (suc d)) (map pair_json (pairs ps)) =
    All-map (λ j. Sound j (suc d)) pair_json (pairs ps)
    (All-weaker (λ (p : List ℕ × Value). IsUtf8 p.0 × IsValue levels p.1) (λ p. Sound (pair_json p) (suc d)) (λ p h. pair-sound p d h.0 (below p.1 h.1)) (pairs ps) good) in
    let inner = values-sound (map pair_json (pairs ps)) (suc d) all in
    rw (is ∙ variants.rolls-Map ps, value_json-Map ps)
    (sound-deeper (one_json (codes "kvlistValue") (values_json (map pair_json (pairs ps)))) (suc (suc (suc (suc d)))) (4 * suc levels) (omega arith)
    (one-sound (codes "kvlistValue") (values_json (map pair_json (pairs ps))) (suc (suc (suc d))) (utf8-is (codes "kvlistValue") refl) inner))

value-sound : (levels : ℕ) (v : Value) → IsValue levels v → Sound (value_json v) (4 * levels)
unfolding IsValue
value-sound zero v good = absurd good
value-sound (suc levels) v good = layer-sound levels v (out-Value v) (sym (roll-out-Value v)) good (λ w h. value-sound levels w h)

-- Trees.

attributes-sound : (map_of : Pairs) → IsAttributes map_of → Sound (list_json (map pair_json (pairs map_of))) 258
attributes-sound map_of good =
    sound-list (map pair_json (pairs map_of)) 257
    (All-map (λ j. Sound j 257) pair_json (pairs map_of)
    (All-weaker (λ (p : List ℕ × Value). IsUtf8 p.0 × IsValue most_levels p.1) (λ p. Sound (pair_json p) 257)
    (λ p h. pair-sound p 256 h.0 (value-sound most_levels p.1 h.1)) (pairs map_of) good))

items-sound : {X : Type 0} (IsX : X → Type 0) (json : X → Json) (d : ℕ) → ((x : X) → IsX x → Sound (json x) d) → (xs : List X) → All IsX xs
    → Sound (list_json (map json xs)) (suc d)
items-sound IsX json d sound xs all = sound-list (map json xs) d (All-map (λ j. Sound j d) json xs (All-weaker IsX (λ x. Sound (json x) d) sound xs all))

u32-small : (n : ℕ) → n < 2 ^ 32 → n < 2 ^ 64
u32-small n small = omega arith

wider : (z : ℤ) → SFits w32 z → SFits w64 z
wider z fits = search (arith, ints)

record_sound : (log : LogRecord) → IsRecord log → SoundMembers (record_members log) 258
unfolding record_pieces
record_sound log good =
    subst (λ ms. SoundMembers ms 258) (sym (record_present log))
    (present-sound (record_pieces log) 258
    (utf8-is (codes "timeUnixNano") refl, sound-optional (log.time == 0) (text_json (decimal log.time)) 258 (sound-text (decimal log.time) 258 (utf8-decimal log.time good.time)), (utf8-is (codes "observedTimeUnixNano") refl, sound-optional (log.observed == 0) (text_json (decimal log.observed)) 258 (sound-text (decimal log.observed) 258 (utf8-decimal log.observed good.observed)), (utf8-is (codes "severityNumber") refl, sound-optional (int_eq log.severity (pos 0)) (number_json (signed_decimal log.severity)) 258 (sound-number (signed_decimal log.severity) 258 (numeral-signed log.severity (wider log.severity good.severity))), (utf8-is (codes "severityText") refl, sound-optional (is_empty log.severity_text) (text_json log.severity_text) 258 (sound-text log.severity_text 258 good.severity_text), (utf8-is (codes "body") refl, sound-optional (is_empty_value log.body) (value_json log.body) 258 (sound-deeper (value_json log.body) 256 258 (omega arith) (value-sound most_levels log.body good.body)), (utf8-is (codes "attributes") refl, sound-optional (is_empty (map pair_json (pairs log.attributes))) (list_json (map pair_json (pairs log.attributes))) 258 (attributes-sound log.attributes good.attributes), (utf8-is (codes "droppedAttributesCount") refl, sound-optional (log.dropped == 0) (number_json (decimal log.dropped)) 258 (sound-number (decimal log.dropped) 258 (numeral-decimal log.dropped (u32-small log.dropped good.dropped))), (utf8-is (codes "flags") refl, sound-optional (log.flags == 0) (number_json (decimal log.flags)) 258 (sound-number (decimal log.flags) 258 (numeral-decimal log.flags (u32-small log.flags good.flags))), (utf8-is (codes "traceId") refl, sound-optional (list_all (λ b. b == 0) log.trace_id) (text_json (encode_lower log.trace_id)) 258 (sound-text (encode_lower log.trace_id) 258 (utf8-hex log.trace_id)), (utf8-is (codes "spanId") refl, sound-optional (list_all (λ b. b == 0) log.span_id) (text_json (encode_lower log.span_id)) 258 (sound-text (encode_lower log.span_id) 258 (utf8-hex log.span_id)), tt)))))))))))

record-sound : (log : LogRecord) → IsRecord log → Sound (record_json log) 259
unfolding record_json
record-sound log good = sound-object (record_members log) 258 (record_sound log good)

scope_sound : (scope : ScopeNode) → IsScope scope → SoundMembers (scope_members scope) 258
unfolding scope_pieces
scope_sound scope good =
    subst (λ ms. SoundMembers ms 258) (sym (scope_present scope))
    (present-sound (scope_pieces scope) 258
    (utf8-is (codes "name") refl, sound-optional (is_empty scope.name) (text_json scope.name) 258 (sound-text scope.name 258 good.name), (utf8-is (codes "version") refl, sound-optional (is_empty scope.version) (text_json scope.version) 258 (sound-text scope.version 258 good.version), (utf8-is (codes "attributes") refl, sound-optional (is_empty (map pair_json (pairs scope.attributes))) (list_json (map pair_json (pairs scope.attributes))) 258 (attributes-sound scope.attributes good.attributes), (utf8-is (codes "droppedAttributesCount") refl, sound-optional (scope.dropped == 0) (number_json (decimal scope.dropped)) 258 (sound-number (decimal scope.dropped) 258 (numeral-decimal scope.dropped (u32-small scope.dropped good.dropped))), tt)))))

resource_sound : (resource : ResourceNode) → IsResource resource → SoundMembers (resource_members resource) 258
unfolding resource_pieces
resource_sound resource good =
    subst (λ ms. SoundMembers ms 258) (sym (resource_present resource))
    (present-sound (resource_pieces resource) 258
    (utf8-is (codes "attributes") refl, sound-optional (is_empty (map pair_json (pairs resource.attributes))) (list_json (map pair_json (pairs resource.attributes))) 258 (attributes-sound resource.attributes good.attributes), (utf8-is (codes "droppedAttributesCount") refl, sound-optional (resource.dropped == 0) (number_json (decimal resource.dropped)) 258 (sound-number (decimal resource.dropped) 258 (numeral-decimal resource.dropped (u32-small resource.dropped good.dropped))), tt)))

scope_logs_sound : (element : ScopeTree) → IsScopeLogs element → SoundMembers (scope_logs_members element) 260
unfolding scope_logs_pieces
scope_logs_sound element good =
    subst (λ ms. SoundMembers ms 260) (sym (scope_logs_present element))
    (present-sound (scope_logs_pieces element) 260
    (utf8-is (codes "scope") refl, sound-optional (false) (object_json (scope_members element.node)) 260 (sound-deeper (object_json (scope_members element.node)) 259 260 (omega arith) (sound-object (scope_members element.node) 258 (scope_sound element.node good.node))), (utf8-is (codes "logRecords") refl, sound-optional (is_empty (map record_json element.logs)) (list_json (map record_json element.logs)) 260 (items-sound IsRecord record_json 259 (λ x h. record-sound x h) element.logs good.logs), (utf8-is (codes "schemaUrl") refl, sound-optional (is_empty element.node.schema_url) (text_json element.node.schema_url) 260 (sound-text element.node.schema_url 260 good.node.schema_url), tt))))

scope_logs-sound : (element : ScopeTree) → IsScopeLogs element → Sound (scope_logs_json element) 261
unfolding scope_logs_json
scope_logs-sound element good = sound-object (scope_logs_members element) 260 (scope_logs_sound element good)

resource_logs_sound : (element : ResourceTree) → IsResourceLogs element → SoundMembers (resource_logs_members element) 262
unfolding resource_logs_pieces
resource_logs_sound element good =
    subst (λ ms. SoundMembers ms 262) (sym (resource_logs_present element))
    (present-sound (resource_logs_pieces element) 262
    (utf8-is (codes "resource") refl, sound-optional (false) (object_json (resource_members element.node)) 262 (sound-deeper (object_json (resource_members element.node)) 259 262 (omega arith) (sound-object (resource_members element.node) 258 (resource_sound element.node good.node))), (utf8-is (codes "scopeLogs") refl, sound-optional (is_empty (map scope_logs_json element.scopes)) (list_json (map scope_logs_json element.scopes)) 262 (items-sound IsScopeLogs scope_logs_json 261 (λ x h. scope_logs-sound x h) element.scopes good.scopes), (utf8-is (codes "schemaUrl") refl, sound-optional (is_empty element.node.schema_url) (text_json element.node.schema_url) 262 (sound-text element.node.schema_url 262 good.node.schema_url), tt))))

resource_logs-sound : (element : ResourceTree) → IsResourceLogs element → Sound (resource_logs_json element) 263
unfolding resource_logs_json
resource_logs-sound element good = sound-object (resource_logs_members element) 262 (resource_logs_sound element good)

-- a payload
pub batch-sound : (batch : Batch) → IsPayload batch → Sound (batch_json batch) 300
unfolding batch_json
batch-sound batch good =
    let js = list_json (map resource_logs_json batch.resources) in
    sound-deeper (one_json (codes "resourceLogs") js) 265 300 (omega arith)
    (one-sound (codes "resourceLogs") js 264 (utf8-is (codes "resourceLogs") refl)
    (items-sound IsResourceLogs resource_logs_json 263 (λ x h. resource_logs-sound x h) batch.resources good.resources))
