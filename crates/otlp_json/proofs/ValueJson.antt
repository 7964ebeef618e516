-- What values are written as, by their kinds.
use Rattle.std.proofs.Common.{◌≡◌, ◌∙◌, ℕ, Bool, ℤ, true, false, List, [], ◌∷◌, map, refl, sym, ap}
use Rattle.std.specs.Prelude.{codes}
use Rattle.std.specs.Fmt.{signed_decimal}
use Rattle.base64.specs.Engines.{standard}
use Rattle.base64.specs.GeneralPurpose as base64
use Rattle.pdata_value.specs.Value.{items, pairs}
use Rattle.pdata_value.specs.declared.value.Value.{Value, roll-Value, out-Value}
use Rattle.pdata_value.specs.declared.values.Values.{Values}
use Rattle.pdata_value.specs.declared.pairs.Pairs.{Pairs}
use Rattle.pdata_value.specs.declared.value.Value.TheOpen.{Value-F}
use Rattle.pdata_value.specs.declared.value.Value.TheVariants as variants
use Rattle.pdata_value.specs.declared.value.Value.TheViews.{roll-out-Value}
use Rattle.pdata_value.specs.declared.value.Value.TheFolds.{fold-roll-Value, fold_out-Values, fold_out-Pairs}
use Rattle.json_text.specs.declared.json.Json.{Json}
use Rattle.otlp_json.specs.Line.{text_json, truth_json, one_json, double_json, object_json, values_json, pair_of, value_step, pairs_step, values_step, value_json, pair_json, empty_layer, is_empty_value}

pub value_json-Empty : value_json variants.Empty ≡ object_json []
unfolding value_json
value_json-Empty = ap value_json (sym variants.rolls-Empty) ∙ fold-roll-Value Json (List Json) (List Json) value_step pairs_step values_step Value-F.Empty

pub value_json-Text : (text : List ℕ) → value_json (variants.Text text) ≡ one_json (codes "stringValue") (text_json text)
unfolding value_json
value_json-Text text =
    ap value_json (sym (variants.rolls-Text text)) ∙ fold-roll-Value Json (List Json) (List Json) value_step pairs_step values_step (Value-F.Text text)

pub value_json-Truth : (truth : Bool) → value_json (variants.Truth truth) ≡ one_json (codes "boolValue") (truth_json truth)
unfolding value_json
value_json-Truth truth =
    ap value_json (sym (variants.rolls-Truth truth)) ∙ fold-roll-Value Json (List Json) (List Json) value_step pairs_step values_step (Value-F.Truth truth)

pub value_json-Int : (int : ℤ) → value_json (variants.Int int) ≡ one_json (codes "intValue") (text_json (signed_decimal int))
unfolding value_json
value_json-Int int =
    ap value_json (sym (variants.rolls-Int int)) ∙ fold-roll-Value Json (List Json) (List Json) value_step pairs_step values_step (Value-F.Int int)

pub value_json-Double : (spelling : List ℕ) → value_json (variants.Double spelling) ≡ one_json (codes "doubleValue") (double_json spelling)
unfolding value_json
value_json-Double spelling =
    ap value_json (sym (variants.rolls-Double spelling)) ∙ fold-roll-Value Json (List Json) (List Json) value_step pairs_step values_step (Value-F.Double spelling)

pub value_json-Bytes : (bytes : List ℕ) → value_json (variants.Bytes bytes) ≡ one_json (codes "bytesValue") (text_json (base64.encode_of standard bytes))
unfolding value_json
value_json-Bytes bytes =
    ap value_json (sym (variants.rolls-Bytes bytes)) ∙ fold-roll-Value Json (List Json) (List Json) value_step pairs_step values_step (Value-F.Bytes bytes)

pub value_json-List : (vs : Values) → value_json (variants.List vs) ≡ one_json (codes "arrayValue") (values_json (map value_json (items vs)))
unfolding value_json
value_json-List vs =
    ap value_json (sym (variants.rolls-List vs)) ∙ fold-roll-Value Json (List Json) (List Json) value_step pairs_step values_step (Value-F.List vs)
    ∙ ap (λ (js : List Json). one_json (codes "arrayValue") (values_json js)) (fold_out-Values Json (List Json) (List Json) value_step pairs_step values_step vs)

pairs_json : (ps : List (List ℕ × Value)) → map (λ (p : List ℕ × Json). pair_of p.0 p.1) (map (λ (p : List ℕ × Value). (p.0, value_json p.1)) ps) ≡ map pair_json ps
pairs_json [] = refl
pairs_json (p ∷ ps) = ap (λ (js : List Json). pair_json p ∷ js) (pairs_json ps)

pub value_json-Map : (ps : Pairs) → value_json (variants.Map ps) ≡ one_json (codes "kvlistValue") (values_json (map pair_json (pairs ps)))
unfolding value_json
value_json-Map ps =
    ap value_json (sym (variants.rolls-Map ps)) ∙ fold-roll-Value Json (List Json) (List Json) value_step pairs_step values_step (Value-F.Map ps)
    ∙ ap (λ (js : List Json). one_json (codes "kvlistValue") (values_json js))
    (fold_out-Pairs Json (List Json) (List Json) value_step pairs_step values_step ps ∙ pairs_json (pairs ps))

pub ruleset value_jsons = (value_json-Empty, value_json-Text, value_json-Truth, value_json-Int, value_json-Double, value_json-Bytes, value_json-List, value_json-Map)

pub is_empty_value-Empty : (value : Value) → value ≡ variants.Empty → is_empty_value value ≡ true
unfolding is_empty_value
is_empty_value-Empty value is = ap empty_layer (ap out-Value is ∙ variants.outs-Empty)

empty_layer-other : (value : Value) (layer : Value-F Value Pairs Values) → value ≡ roll-Value layer → (value ≡ variants.Empty → ⊥) → empty_layer layer ≡ false
empty_layer-other value Value-F.Empty is not = absurd (not (is ∙ variants.rolls-Empty))
empty_layer-other value _ is not = refl

pub is_empty_value-other : (value : Value) → (value ≡ variants.Empty → ⊥) → is_empty_value value ≡ false
unfolding is_empty_value
is_empty_value-other value not = empty_layer-other value (out-Value value) (sym (roll-out-Value value)) not

pub ruleset empty_values = (is_empty_value-Empty, is_empty_value-other)
