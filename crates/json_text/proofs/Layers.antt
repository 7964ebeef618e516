-- Values by their kinds, and what the folds over them give.
use Rattle.std.proofs.Common.{◌≡◌, ◌∙◌, ℕ, ◌+◌, Bool, max, List, [], ◌∷◌, ◌++◌, map, refl, sym, ap}
use Rattle.std.specs.Prelude.{codes}
use Rattle.json_text.specs.Writing.{quoted_text, truth_text, listed_from, member_text, joined, numbers_step, numbers_step_json, numbers_of, texts_step, texts_step_json, texts_of}
use Rattle.json_text.specs.Placed.{Placing, placed_items, placed_members, placing_step, placing_step_json, placing, largest, containers_step, containers_step_json, containers}
use Rattle.json_text.specs.declared.json.Json.{Json}
use Rattle.json_text.specs.declared.json.JsonKind.{JsonKind, roll-JsonKind, out-JsonKind}
use Rattle.json_text.specs.declared.json.JsonKind.TheVariants as kinds
use Rattle.json_text.specs.declared.json.JsonKind.TheOpen.{JsonKind-F}
use Rattle.json_text.specs.declared.json.JsonKind.TheViews.{roll-out-JsonKind}
use Rattle.json_text.specs.declared.json.JsonKind.TheFolds.{fold-JsonKind, fold-roll-JsonKind, fold_out-Json}

-- which kind it is
pub data IsKind (kind : JsonKind) : Type 0 where
  is_null : kind ≡ kinds.Null → IsKind kind
  is_truth : (b : Bool) → kind ≡ kinds.Truth b → IsKind kind
  is_number : (s : List ℕ) → kind ≡ kinds.Number s → IsKind kind
  is_text : (s : List ℕ) → kind ≡ kinds.Text s → IsKind kind
  is_list : (js : List Json) → kind ≡ kinds.List js → IsKind kind
  is_object : (ms : List (List ℕ × Json)) → kind ≡ kinds.Object ms → IsKind kind

of_layer : (kind : JsonKind) (layer : JsonKind-F JsonKind Json) → kind ≡ roll-JsonKind layer → IsKind kind
of_layer kind JsonKind-F.Null is = is_null (is ∙ kinds.rolls-Null)
of_layer kind (JsonKind-F.Truth b) is = is_truth b (is ∙ kinds.rolls-Truth b)
of_layer kind (JsonKind-F.Number s) is = is_number s (is ∙ kinds.rolls-Number s)
of_layer kind (JsonKind-F.Text s) is = is_text s (is ∙ kinds.rolls-Text s)
of_layer kind (JsonKind-F.List js) is = is_list js (is ∙ kinds.rolls-List js)
of_layer kind (JsonKind-F.Object ms) is = is_object ms (is ∙ kinds.rolls-Object ms)

pub kind_of : (kind : JsonKind) → IsKind kind
kind_of kind = of_layer kind (out-JsonKind kind) (sym (roll-out-JsonKind kind))

-- Nesting.
kind_containers : JsonKind → ℕ
kind_containers = fold-JsonKind ℕ ℕ containers_step containers_step_json

pub deepest_item : List Json → ℕ
deepest_item js = largest (map containers js)

abbrev pub deepest_member : List (List ℕ × Json) → ℕ
deepest_member [] = 0
deepest_member (m ∷ ms) = max (containers m.1) (deepest_member ms)

members_deepest : (ms : List (List ℕ × Json)) → largest (map (λ (m : List ℕ × ℕ). m.1) (map (λ (m : List ℕ × Json). (m.0, containers m.1)) ms)) ≡ deepest_member ms
members_deepest [] = refl
members_deepest (m ∷ ms) = ap (max (containers m.1)) (members_deepest ms)

pub containers-List : (json : Json) (js : List Json) → json.kind ≡ kinds.List js → containers json ≡ 1 + deepest_item js
unfolding containers kind_containers deepest_item
containers-List json js is =
    fold_out-Json ℕ ℕ containers_step containers_step_json json ∙ ap kind_containers (is ∙ sym (kinds.rolls-List js))
    ∙ fold-roll-JsonKind ℕ ℕ containers_step containers_step_json (JsonKind-F.List js)

pub containers-Object : (json : Json) (ms : List (List ℕ × Json)) → json.kind ≡ kinds.Object ms → containers json ≡ 1 + deepest_member ms
unfolding containers kind_containers
containers-Object json ms is =
    fold_out-Json ℕ ℕ containers_step containers_step_json json ∙ ap kind_containers (is ∙ sym (kinds.rolls-Object ms))
    ∙ fold-roll-JsonKind ℕ ℕ containers_step containers_step_json (JsonKind-F.Object ms)
    ∙ ap (λ (n : ℕ). 1 + n) (members_deepest ms)

pub deepest-none : deepest_item [] ≡ 0
unfolding deepest_item
deepest-none = refl

pub deepest-cons : (j : Json) (js : List Json) → deepest_item (j ∷ js) ≡ max (containers j) (deepest_item js)
unfolding deepest_item
deepest-cons j js = refl

-- The numbers in a value.
kind_numbers : JsonKind → List (List ℕ)
kind_numbers = fold-JsonKind (List (List ℕ)) (List (List ℕ)) numbers_step numbers_step_json

numbers_of-kind : (json : Json) → numbers_of json ≡ kind_numbers json.kind
unfolding numbers_of kind_numbers
numbers_of-kind json = fold_out-Json (List (List ℕ)) (List (List ℕ)) numbers_step numbers_step_json json

pub numbers-Truth : (json : Json) (b : Bool) → json.kind ≡ kinds.Truth b → numbers_of json ≡ []
unfolding kind_numbers
numbers-Truth json b is =
    numbers_of-kind json ∙ ap kind_numbers (is ∙ sym (kinds.rolls-Truth b)) ∙ fold-roll-JsonKind (List (List ℕ)) (List (List ℕ)) numbers_step numbers_step_json (JsonKind-F.Truth b)

pub numbers-Number : (json : Json) (s : List ℕ) → json.kind ≡ kinds.Number s → numbers_of json ≡ s ∷ []
unfolding kind_numbers
numbers-Number json s is =
    numbers_of-kind json ∙ ap kind_numbers (is ∙ sym (kinds.rolls-Number s)) ∙ fold-roll-JsonKind (List (List ℕ)) (List (List ℕ)) numbers_step numbers_step_json (JsonKind-F.Number s)

abbrev pub item_numbers : List Json → List (List ℕ)
item_numbers [] = []
item_numbers (j ∷ js) = numbers_of j ++ item_numbers js

abbrev pub member_numbers : List (List ℕ × Json) → List (List ℕ)
member_numbers [] = []
member_numbers (m ∷ ms) = numbers_of m.1 ++ member_numbers ms

joined_items : (js : List Json) → joined (map numbers_of js) ≡ item_numbers js
joined_items [] = refl
joined_items (j ∷ js) = ap (λ (t : List (List ℕ)). numbers_of j ++ t) (joined_items js)

joined_members : (ms : List (List ℕ × Json)) → joined (map (λ (m : List ℕ × List (List ℕ)). m.1) (map (λ (m : List ℕ × Json). (m.0, numbers_of m.1)) ms)) ≡ member_numbers ms
joined_members [] = refl
joined_members (m ∷ ms) = ap (λ (t : List (List ℕ)). numbers_of m.1 ++ t) (joined_members ms)

pub numbers-List : (json : Json) (js : List Json) → json.kind ≡ kinds.List js → numbers_of json ≡ item_numbers js
unfolding numbers_of kind_numbers
numbers-List json js is =
    fold_out-Json (List (List ℕ)) (List (List ℕ)) numbers_step numbers_step_json json ∙ ap kind_numbers (is ∙ sym (kinds.rolls-List js))
    ∙ fold-roll-JsonKind (List (List ℕ)) (List (List ℕ)) numbers_step numbers_step_json (JsonKind-F.List js) ∙ joined_items js

pub numbers-Object : (json : Json) (ms : List (List ℕ × Json)) → json.kind ≡ kinds.Object ms → numbers_of json ≡ member_numbers ms
unfolding numbers_of kind_numbers
numbers-Object json ms is =
    fold_out-Json (List (List ℕ)) (List (List ℕ)) numbers_step numbers_step_json json ∙ ap kind_numbers (is ∙ sym (kinds.rolls-Object ms))
    ∙ fold-roll-JsonKind (List (List ℕ)) (List (List ℕ)) numbers_step numbers_step_json (JsonKind-F.Object ms) ∙ joined_members ms

-- A value in its text.
kind_placing : JsonKind → Placing JsonKind
kind_placing = fold-JsonKind (Placing JsonKind) (Placing Json) placing_step placing_step_json

with_kind : Placing JsonKind → Placing Json
with_kind kind = (kind.0, λ at. record { at = at; kind = kind.1 at })

placing-kind : (json : Json) → placing json ≡ with_kind (kind_placing json.kind)
unfolding placing kind_placing with_kind
placing-kind json = fold_out-Json (Placing JsonKind) (Placing Json) placing_step placing_step_json json

module _ (json : Json) where
  pub placing-Null : json.kind ≡ kinds.Null → placing json ≡ (codes "null", λ at. record { at = at; kind = kinds.Null })
  unfolding kind_placing with_kind
  placing-Null is = placing-kind json ∙ ap with_kind (ap kind_placing (is ∙ sym kinds.rolls-Null) ∙ fold-roll-JsonKind (Placing JsonKind) (Placing Json) placing_step placing_step_json JsonKind-F.Null)

  pub placing-Truth : (b : Bool) → json.kind ≡ kinds.Truth b → placing json ≡ (truth_text b, λ at. record { at = at; kind = kinds.Truth b })
  unfolding kind_placing with_kind
  placing-Truth b is = placing-kind json ∙ ap with_kind (ap kind_placing (is ∙ sym (kinds.rolls-Truth b)) ∙ fold-roll-JsonKind (Placing JsonKind) (Placing Json) placing_step placing_step_json (JsonKind-F.Truth b))

  pub placing-Number : (s : List ℕ) → json.kind ≡ kinds.Number s → placing json ≡ (s, λ at. record { at = at; kind = kinds.Number s })
  unfolding kind_placing with_kind
  placing-Number s is = placing-kind json ∙ ap with_kind (ap kind_placing (is ∙ sym (kinds.rolls-Number s)) ∙ fold-roll-JsonKind (Placing JsonKind) (Placing Json) placing_step placing_step_json (JsonKind-F.Number s))

  pub placing-Text : (s : List ℕ) → json.kind ≡ kinds.Text s → placing json ≡ (quoted_text s, λ at. record { at = at; kind = kinds.Text s })
  unfolding kind_placing with_kind
  placing-Text s is = placing-kind json ∙ ap with_kind (ap kind_placing (is ∙ sym (kinds.rolls-Text s)) ∙ fold-roll-JsonKind (Placing JsonKind) (Placing Json) placing_step placing_step_json (JsonKind-F.Text s))

  pub placing-List : (js : List Json) → json.kind ≡ kinds.List js
      → placing json ≡ (codes "[" ++ listed_from 0 (map (λ (p : Placing Json). p.0) (map placing js)) ++ codes "]", λ at. record { at = at; kind = kinds.List (placed_items (at + 1) (map placing js)) })
  unfolding placing kind_placing with_kind
  placing-List js is = placing-kind json ∙ ap with_kind (ap kind_placing (is ∙ sym (kinds.rolls-List js)) ∙ fold-roll-JsonKind (Placing JsonKind) (Placing Json) placing_step placing_step_json (JsonKind-F.List js))

  pub placing-Object : (ms : List (List ℕ × Json)) → json.kind ≡ kinds.Object ms
      → let ps : List (List ℕ × Placing Json) = map (λ (m : List ℕ × Json). (m.0, placing m.1)) ms in
      placing json ≡ (codes "{" ++ listed_from 0 (map member_text (map (λ (m : List ℕ × Placing Json). (m.0, m.1.0)) ps)) ++ codes "}", λ at. record { at = at; kind = kinds.Object (placed_members (at + 1) ps) })
  unfolding placing kind_placing with_kind
  placing-Object ms is = placing-kind json ∙ ap with_kind (ap kind_placing (is ∙ sym (kinds.rolls-Object ms)) ∙ fold-roll-JsonKind (Placing JsonKind) (Placing Json) placing_step placing_step_json (JsonKind-F.Object ms))

-- The texts and keys in a value.
kind_texts : JsonKind → List (List ℕ)
kind_texts = fold-JsonKind (List (List ℕ)) (List (List ℕ)) texts_step texts_step_json

texts_of-kind : (json : Json) → texts_of json ≡ kind_texts json.kind
unfolding texts_of kind_texts
texts_of-kind json = fold_out-Json (List (List ℕ)) (List (List ℕ)) texts_step texts_step_json json

pub texts-Text : (json : Json) (s : List ℕ) → json.kind ≡ kinds.Text s → texts_of json ≡ s ∷ []
unfolding kind_texts
texts-Text json s is =
    texts_of-kind json ∙ ap kind_texts (is ∙ sym (kinds.rolls-Text s)) ∙ fold-roll-JsonKind (List (List ℕ)) (List (List ℕ)) texts_step texts_step_json (JsonKind-F.Text s)

abbrev pub item_texts : List Json → List (List ℕ)
item_texts [] = []
item_texts (j ∷ js) = texts_of j ++ item_texts js

abbrev pub member_texts : List (List ℕ × Json) → List (List ℕ)
member_texts [] = []
member_texts (m ∷ ms) = m.0 ∷ (texts_of m.1 ++ member_texts ms)

joined_texts : (js : List Json) → joined (map texts_of js) ≡ item_texts js
joined_texts [] = refl
joined_texts (j ∷ js) = ap (λ (t : List (List ℕ)). texts_of j ++ t) (joined_texts js)

joined_keys : (ms : List (List ℕ × Json)) → joined (map (λ (m : List ℕ × List (List ℕ)). m.0 ∷ m.1) (map (λ (m : List ℕ × Json). (m.0, texts_of m.1)) ms)) ≡ member_texts ms
joined_keys [] = refl
joined_keys (m ∷ ms) = ap (λ (t : List (List ℕ)). m.0 ∷ (texts_of m.1 ++ t)) (joined_keys ms)

pub texts-List : (json : Json) (js : List Json) → json.kind ≡ kinds.List js → texts_of json ≡ item_texts js
unfolding texts_of kind_texts
texts-List json js is =
    fold_out-Json (List (List ℕ)) (List (List ℕ)) texts_step texts_step_json json ∙ ap kind_texts (is ∙ sym (kinds.rolls-List js))
    ∙ fold-roll-JsonKind (List (List ℕ)) (List (List ℕ)) texts_step texts_step_json (JsonKind-F.List js) ∙ joined_texts js

pub texts-Object : (json : Json) (ms : List (List ℕ × Json)) → json.kind ≡ kinds.Object ms → texts_of json ≡ member_texts ms
unfolding texts_of kind_texts
texts-Object json ms is =
    fold_out-Json (List (List ℕ)) (List (List ℕ)) texts_step texts_step_json json ∙ ap kind_texts (is ∙ sym (kinds.rolls-Object ms))
    ∙ fold-roll-JsonKind (List (List ℕ)) (List (List ℕ)) texts_step texts_step_json (JsonKind-F.Object ms) ∙ joined_keys ms
