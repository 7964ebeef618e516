-- What values hold by their kinds.
use Rattle.std.proofs.Common.{◌≡◌, ◌∙◌, ℕ, Bool, true, false, List, Some, None, refl, sym, ap}
use Rattle.json_text.specs.declared.json.Json.{Json}
use Rattle.json_text.specs.declared.json.JsonKind.{JsonKind, roll-JsonKind, out-JsonKind}
use Rattle.json_text.specs.declared.json.JsonKind.TheVariants as kinds
use Rattle.json_text.specs.declared.json.JsonKind.TheOpen.{JsonKind-F}
use Rattle.json_text.specs.declared.json.JsonKind.TheViews.{roll-out-JsonKind}
use Rattle.json_text.specs.Kinds.{Layer, Member, text_layer, truth_layer, number_layer, items_layer, members_layer, null_layer, as_text, as_truth, as_number, as_items, as_members, is_null}

some-same : {X : Type 0} (x y : X) → Some x ≡ Some y → x ≡ y
some-same x y is = cc

pub as_text-Text : (json : Json) (x : List ℕ) → json.kind ≡ kinds.Text x → as_text json ≡ Some x
unfolding as_text
as_text-Text json x is = ap text_layer (ap out-JsonKind is ∙ kinds.outs-Text x)

text_layer-other : (kind : JsonKind) (layer : Layer) → kind ≡ roll-JsonKind layer → ((x : List ℕ) → kind ≡ kinds.Text x → ⊥)
    → text_layer layer ≡ None
text_layer-other kind (JsonKind-F.Text x) is not = absurd (not x (is ∙ kinds.rolls-Text x))
text_layer-other kind _ is not = refl

pub as_text-other : (json : Json) → ((x : List ℕ) → json.kind ≡ kinds.Text x → ⊥) → as_text json ≡ None
unfolding as_text
as_text-other json not = text_layer-other json.kind (out-JsonKind json.kind) (sym (roll-out-JsonKind json.kind)) not

text_layer-back : (kind : JsonKind) (layer : Layer) (x : List ℕ) → kind ≡ roll-JsonKind layer → text_layer layer ≡ Some x → kind ≡ kinds.Text x
text_layer-back kind (JsonKind-F.Text y) x is ok = is ∙ kinds.rolls-Text y ∙ ap kinds.Text (some-same y x ok)
text_layer-back kind _ x is ok = absurd cc

-- only that kind holds it
pub as_text-back : (json : Json) (x : List ℕ) → as_text json ≡ Some x → json.kind ≡ kinds.Text x
unfolding as_text
as_text-back json x ok = text_layer-back json.kind (out-JsonKind json.kind) x (sym (roll-out-JsonKind json.kind)) ok

pub ruleset text_kinds = (as_text-Text, as_text-other)

pub as_number-Number : (json : Json) (x : List ℕ) → json.kind ≡ kinds.Number x → as_number json ≡ Some x
unfolding as_number
as_number-Number json x is = ap number_layer (ap out-JsonKind is ∙ kinds.outs-Number x)

number_layer-other : (kind : JsonKind) (layer : Layer) → kind ≡ roll-JsonKind layer → ((x : List ℕ) → kind ≡ kinds.Number x → ⊥)
    → number_layer layer ≡ None
number_layer-other kind (JsonKind-F.Number x) is not = absurd (not x (is ∙ kinds.rolls-Number x))
number_layer-other kind _ is not = refl

pub as_number-other : (json : Json) → ((x : List ℕ) → json.kind ≡ kinds.Number x → ⊥) → as_number json ≡ None
unfolding as_number
as_number-other json not = number_layer-other json.kind (out-JsonKind json.kind) (sym (roll-out-JsonKind json.kind)) not

number_layer-back : (kind : JsonKind) (layer : Layer) (x : List ℕ) → kind ≡ roll-JsonKind layer → number_layer layer ≡ Some x → kind ≡ kinds.Number x
number_layer-back kind (JsonKind-F.Number y) x is ok = is ∙ kinds.rolls-Number y ∙ ap kinds.Number (some-same y x ok)
number_layer-back kind _ x is ok = absurd cc

-- only that kind holds it
pub as_number-back : (json : Json) (x : List ℕ) → as_number json ≡ Some x → json.kind ≡ kinds.Number x
unfolding as_number
as_number-back json x ok = number_layer-back json.kind (out-JsonKind json.kind) x (sym (roll-out-JsonKind json.kind)) ok

pub ruleset number_kinds = (as_number-Number, as_number-other)

pub as_truth-Truth : (json : Json) (x : Bool) → json.kind ≡ kinds.Truth x → as_truth json ≡ Some x
unfolding as_truth
as_truth-Truth json x is = ap truth_layer (ap out-JsonKind is ∙ kinds.outs-Truth x)

truth_layer-other : (kind : JsonKind) (layer : Layer) → kind ≡ roll-JsonKind layer → ((x : Bool) → kind ≡ kinds.Truth x → ⊥)
    → truth_layer layer ≡ None
truth_layer-other kind (JsonKind-F.Truth x) is not = absurd (not x (is ∙ kinds.rolls-Truth x))
truth_layer-other kind _ is not = refl

pub as_truth-other : (json : Json) → ((x : Bool) → json.kind ≡ kinds.Truth x → ⊥) → as_truth json ≡ None
unfolding as_truth
as_truth-other json not = truth_layer-other json.kind (out-JsonKind json.kind) (sym (roll-out-JsonKind json.kind)) not

truth_layer-back : (kind : JsonKind) (layer : Layer) (x : Bool) → kind ≡ roll-JsonKind layer → truth_layer layer ≡ Some x → kind ≡ kinds.Truth x
truth_layer-back kind (JsonKind-F.Truth y) x is ok = is ∙ kinds.rolls-Truth y ∙ ap kinds.Truth (some-same y x ok)
truth_layer-back kind _ x is ok = absurd cc

-- only that kind holds it
pub as_truth-back : (json : Json) (x : Bool) → as_truth json ≡ Some x → json.kind ≡ kinds.Truth x
unfolding as_truth
as_truth-back json x ok = truth_layer-back json.kind (out-JsonKind json.kind) x (sym (roll-out-JsonKind json.kind)) ok

pub ruleset truth_kinds = (as_truth-Truth, as_truth-other)

pub as_items-List : (json : Json) (x : List Json) → json.kind ≡ kinds.List x → as_items json ≡ Some x
unfolding as_items
as_items-List json x is = ap items_layer (ap out-JsonKind is ∙ kinds.outs-List x)

items_layer-other : (kind : JsonKind) (layer : Layer) → kind ≡ roll-JsonKind layer → ((x : List Json) → kind ≡ kinds.List x → ⊥)
    → items_layer layer ≡ None
items_layer-other kind (JsonKind-F.List x) is not = absurd (not x (is ∙ kinds.rolls-List x))
items_layer-other kind _ is not = refl

pub as_items-other : (json : Json) → ((x : List Json) → json.kind ≡ kinds.List x → ⊥) → as_items json ≡ None
unfolding as_items
as_items-other json not = items_layer-other json.kind (out-JsonKind json.kind) (sym (roll-out-JsonKind json.kind)) not

items_layer-back : (kind : JsonKind) (layer : Layer) (x : List Json) → kind ≡ roll-JsonKind layer → items_layer layer ≡ Some x → kind ≡ kinds.List x
items_layer-back kind (JsonKind-F.List y) x is ok = is ∙ kinds.rolls-List y ∙ ap kinds.List (some-same y x ok)
items_layer-back kind _ x is ok = absurd cc

-- only that kind holds it
pub as_items-back : (json : Json) (x : List Json) → as_items json ≡ Some x → json.kind ≡ kinds.List x
unfolding as_items
as_items-back json x ok = items_layer-back json.kind (out-JsonKind json.kind) x (sym (roll-out-JsonKind json.kind)) ok

pub ruleset items_kinds = (as_items-List, as_items-other)

pub as_members-Object : (json : Json) (x : List Member) → json.kind ≡ kinds.Object x → as_members json ≡ Some x
unfolding as_members
as_members-Object json x is = ap members_layer (ap out-JsonKind is ∙ kinds.outs-Object x)

members_layer-other : (kind : JsonKind) (layer : Layer) → kind ≡ roll-JsonKind layer → ((x : List Member) → kind ≡ kinds.Object x → ⊥)
    → members_layer layer ≡ None
members_layer-other kind (JsonKind-F.Object x) is not = absurd (not x (is ∙ kinds.rolls-Object x))
members_layer-other kind _ is not = refl

pub as_members-other : (json : Json) → ((x : List Member) → json.kind ≡ kinds.Object x → ⊥) → as_members json ≡ None
unfolding as_members
as_members-other json not = members_layer-other json.kind (out-JsonKind json.kind) (sym (roll-out-JsonKind json.kind)) not

members_layer-back : (kind : JsonKind) (layer : Layer) (x : List Member) → kind ≡ roll-JsonKind layer → members_layer layer ≡ Some x → kind ≡ kinds.Object x
members_layer-back kind (JsonKind-F.Object y) x is ok = is ∙ kinds.rolls-Object y ∙ ap kinds.Object (some-same y x ok)
members_layer-back kind _ x is ok = absurd cc

-- only that kind holds it
pub as_members-back : (json : Json) (x : List Member) → as_members json ≡ Some x → json.kind ≡ kinds.Object x
unfolding as_members
as_members-back json x ok = members_layer-back json.kind (out-JsonKind json.kind) x (sym (roll-out-JsonKind json.kind)) ok

pub ruleset members_kinds = (as_members-Object, as_members-other)

pub is_null-Null : (json : Json) → json.kind ≡ kinds.Null → is_null json ≡ true
unfolding is_null
is_null-Null json is = ap null_layer (ap out-JsonKind is ∙ kinds.outs-Null)

null_layer-other : (kind : JsonKind) (layer : Layer) → kind ≡ roll-JsonKind layer → (kind ≡ kinds.Null → ⊥) → null_layer layer ≡ false
null_layer-other kind JsonKind-F.Null is not = absurd (not (is ∙ kinds.rolls-Null))
null_layer-other kind _ is not = refl

pub is_null-other : (json : Json) → (json.kind ≡ kinds.Null → ⊥) → is_null json ≡ false
unfolding is_null
is_null-other json not = null_layer-other json.kind (out-JsonKind json.kind) (sym (roll-out-JsonKind json.kind)) not

pub ruleset null_kinds = (is_null-Null, is_null-other)

-- a text is no number
pub as_number-Text : (json : Json) (t : List ℕ) → json.kind ≡ kinds.Text t → as_number json ≡ None
unfolding as_number
as_number-Text json t is = ap number_layer (ap out-JsonKind is ∙ kinds.outs-Text t)

-- Which values are null, by their kinds.

pub is_null-Text : (json : Json) (t : List ℕ) → json.kind ≡ kinds.Text t → is_null json ≡ false
unfolding is_null
is_null-Text json t is = ap null_layer (ap out-JsonKind is ∙ kinds.outs-Text t)

pub is_null-Number : (json : Json) (t : List ℕ) → json.kind ≡ kinds.Number t → is_null json ≡ false
unfolding is_null
is_null-Number json t is = ap null_layer (ap out-JsonKind is ∙ kinds.outs-Number t)

pub is_null-Truth : (json : Json) (t : Bool) → json.kind ≡ kinds.Truth t → is_null json ≡ false
unfolding is_null
is_null-Truth json t is = ap null_layer (ap out-JsonKind is ∙ kinds.outs-Truth t)

pub is_null-List : (json : Json) (js : List Json) → json.kind ≡ kinds.List js → is_null json ≡ false
unfolding is_null
is_null-List json js is = ap null_layer (ap out-JsonKind is ∙ kinds.outs-List js)

pub is_null-Object : (json : Json) (ms : List Member) → json.kind ≡ kinds.Object ms → is_null json ≡ false
unfolding is_null
is_null-Object json ms is = ap null_layer (ap out-JsonKind is ∙ kinds.outs-Object ms)
