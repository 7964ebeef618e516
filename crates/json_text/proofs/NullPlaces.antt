-- Whether a value is null doesn't depend on where it stands.
use Rattle.std.proofs.Common.{◌≡◌, ◌∙◌, ℕ, refl, sym, ap}
use Rattle.json_text.specs.Placed.{Placing, placed}
use Rattle.json_text.specs.Kinds.{is_null}
use Rattle.json_text.specs.declared.json.Json.{Json}
use Rattle.json_text.specs.declared.json.JsonKind.TheVariants as kinds
use Rattle.json_text.proofs.Layers.{IsKind, kind_of, placing-Null, placing-Truth, placing-Number, placing-Text, placing-List, placing-Object}
use Rattle.json_text.proofs.KindLemmas.{is_null-Null, is_null-Truth, is_null-Number, is_null-Text, is_null-List, is_null-Object}

null_by : (json : Json) (at : ℕ) → IsKind json.kind → is_null (placed at json) ≡ is_null json
null_by json at (IsKind.is_null is) =
    ap (λ (p : Placing Json). is_null (p.1 at)) (placing-Null json is) ∙ is_null-Null (record { at = at; kind = kinds.Null }) refl ∙ sym (is_null-Null json is)
null_by json at (IsKind.is_truth b is) =
    ap (λ (p : Placing Json). is_null (p.1 at)) (placing-Truth json b is) ∙ is_null-Truth (record { at = at; kind = kinds.Truth b }) b refl ∙ sym (is_null-Truth json b is)
null_by json at (IsKind.is_number s is) =
    ap (λ (p : Placing Json). is_null (p.1 at)) (placing-Number json s is) ∙ is_null-Number (record { at = at; kind = kinds.Number s }) s refl ∙ sym (is_null-Number json s is)
null_by json at (IsKind.is_text s is) =
    ap (λ (p : Placing Json). is_null (p.1 at)) (placing-Text json s is) ∙ is_null-Text (record { at = at; kind = kinds.Text s }) s refl ∙ sym (is_null-Text json s is)
null_by json at (IsKind.is_list js is) =
    ap (λ (p : Placing Json). is_null (p.1 at)) (placing-List json js is) ∙ is_null-List (record { at = at; kind = kinds.List _ }) _ refl ∙ sym (is_null-List json js is)
null_by json at (IsKind.is_object ms is) =
    ap (λ (p : Placing Json). is_null (p.1 at)) (placing-Object json ms is) ∙ is_null-Object (record { at = at; kind = kinds.Object _ }) _ refl ∙ sym (is_null-Object json ms is)

pub null-placed : (json : Json) (at : ℕ) → is_null (placed at json) ≡ is_null json
null-placed json at = null_by json at (kind_of json.kind)
