-- The equations of `value_of`, one for each kind.
use Rattle.std.proofs.Common.{◌≡◌, ◌∙◌, ℕ, Bool, List, [], map, sym, ap}
use Rattle.json_text.specs.declared.json.Json.{Json}
use Rattle.json_text.specs.declared.json.JsonKind.{JsonKind, roll-JsonKind}
use Rattle.json_text.specs.declared.json.JsonKind.TheOpen.{JsonKind-F}
use Rattle.json_text.specs.declared.json.JsonKind.TheVariants as kinds
use Rattle.json_text.specs.declared.json.JsonKind.TheFolds.{map-JsonKind, fold-JsonKind, fold-Json, fold-roll-JsonKind, fold_out-Json}
use Rattle.pdata_value.specs.Pairs.{put_all}
use Rattle.pdata_value.specs.declared.value.Value.{Value}
use Rattle.pdata_value.specs.declared.value.Value.TheVariants as kind
use Rattle.pdata_value.specs.Wanted.{list_of, map_of}
use Rattle.func_code.specs.Json.{number_of, kind_step, json_step, value_of, member_of}

unfoldable kind_value : JsonKind → Value
kind_value = fold-JsonKind Value Value kind_step json_step

of_kind : (json : Json) → value_of json ≡ kind_value json.kind
unfolding value_of kind_value
of_kind json = fold_out-Json Value Value kind_step json_step json

at_kind : (k : JsonKind-F JsonKind Json) → fold-JsonKind Value Value kind_step json_step (roll-JsonKind k)
    ≡ kind_step (map-JsonKind JsonKind Json Value Value (fold-JsonKind Value Value kind_step json_step) (fold-Json Value Value kind_step json_step) k)
at_kind k = fold-roll-JsonKind Value Value kind_step json_step k

kind_value-Null : kind_value kinds.Null ≡ kind.Empty
unfolding kind_value
kind_value-Null = ap kind_value (sym kinds.rolls-Null) ∙ at_kind JsonKind-F.Null

kind_value-Truth : (b : Bool) → kind_value (kinds.Truth b) ≡ kind.Truth b
unfolding kind_value
kind_value-Truth b = ap kind_value (sym (kinds.rolls-Truth b)) ∙ at_kind (JsonKind-F.Truth b)

kind_value-Number : (s : List ℕ) → kind_value (kinds.Number s) ≡ number_of s
unfolding kind_value
kind_value-Number s = ap kind_value (sym (kinds.rolls-Number s)) ∙ at_kind (JsonKind-F.Number s)

kind_value-Text : (s : List ℕ) → kind_value (kinds.Text s) ≡ kind.Text s
unfolding kind_value
kind_value-Text s = ap kind_value (sym (kinds.rolls-Text s)) ∙ at_kind (JsonKind-F.Text s)

kind_value-List : (js : List Json) → kind_value (kinds.List js) ≡ list_of (map value_of js)
unfolding kind_value value_of
kind_value-List js = ap kind_value (sym (kinds.rolls-List js)) ∙ at_kind (JsonKind-F.List js)

kind_value-Object : (ms : List (List ℕ × Json)) → kind_value (kinds.Object ms) ≡ map_of (put_all [] (map member_of ms))
unfolding kind_value value_of
kind_value-Object ms = ap kind_value (sym (kinds.rolls-Object ms)) ∙ at_kind (JsonKind-F.Object ms)

pub of-Null : (json : Json) → json.kind ≡ kinds.Null → value_of json ≡ kind.Empty
of-Null json e = of_kind json ∙ ap kind_value e ∙ kind_value-Null

pub of-Truth : (json : Json) (b : Bool) → json.kind ≡ kinds.Truth b → value_of json ≡ kind.Truth b
of-Truth json b e = of_kind json ∙ ap kind_value e ∙ kind_value-Truth b

pub of-Number : (json : Json) (s : List ℕ) → json.kind ≡ kinds.Number s → value_of json ≡ number_of s
of-Number json s e = of_kind json ∙ ap kind_value e ∙ kind_value-Number s

pub of-Text : (json : Json) (s : List ℕ) → json.kind ≡ kinds.Text s → value_of json ≡ kind.Text s
of-Text json s e = of_kind json ∙ ap kind_value e ∙ kind_value-Text s

pub of-List : (json : Json) (js : List Json) → json.kind ≡ kinds.List js → value_of json ≡ list_of (map value_of js)
of-List json js e = of_kind json ∙ ap kind_value e ∙ kind_value-List js

pub of-Object : (json : Json) (ms : List (List ℕ × Json)) → json.kind ≡ kinds.Object ms
    → value_of json ≡ map_of (put_all [] (map member_of ms))
of-Object json ms e = of_kind json ∙ ap kind_value e ∙ kind_value-Object ms
