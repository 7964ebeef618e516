-- The equations of `same`: for each kind, against a value of that kind and against another.
use Rattle.std.proofs.Common.{◌≡◌, ◌∙◌, ℕ, ℤ, Bool, true, false, List, [], ◌∷◌, refl, sym, ap}
use Rattle.std.specs.Prelude.{◌&&◌, Option, Some, None, map, option_map, cond}
use Rattle.std.specs.Bool.{beq}
use Rattle.std.specs.Ordering.{int_eq}
use Rattle.std.specs.Str.{bytes_eq}
use Rattle.pdata_value.specs.Value.{items, pairs}
use Rattle.pdata_value.specs.Pairs.{get}
use Rattle.pdata_value.specs.Same.{same, layer_same, same_step, same_step_pairs, same_step_values, all_same, same_items, answer_same, same_answer, same_at, same_keys, map_same, same_pairs}
use Rattle.pdata_value.specs.declared.value.Value.{Value, out-Value, roll-Value, roll-out-Value}
use Rattle.pdata_value.specs.declared.values.Values.{Values}
use Rattle.pdata_value.specs.declared.pairs.Pairs.{Pairs}
use Rattle.pdata_value.specs.declared.value.Value.TheOpen.{Value-F}
use Rattle.pdata_value.specs.declared.value.Value.TheVariants as variants
use Rattle.pdata_value.specs.declared.value.Value.TheFolds.{fold-Values, fold-Pairs, fold-roll-Value, fold_out-Values, fold_out-Pairs}

-- the definition on lists and on maps, as its one level gives it
all-items : (vs ws : List Value) → all_same (map same vs) ws ≡ same_items vs ws
all-items [] [] = refl
all-items [] (w ∷ ws) = refl
all-items (v ∷ vs) [] = refl
all-items (v ∷ vs) (w ∷ ws) = ap (λ b. same v w && b) (all-items vs ws)

abbrev tests : List (List ℕ × Value) → List (List ℕ × (Value → Bool))
tests ps = map (λ (p : List ℕ × Value). (p.0, same p.1)) ps

get_on : (b : Bool) (v : Value) (f : Option (Value → Bool)) (g : Option Value) → f ≡ option_map same g → cond b (Some (same v)) f ≡ option_map same (cond b (Some v) g)
get_on true v f g e = refl
get_on false v f g e = e

get-tests : (ps : List (List ℕ × Value)) (key : List ℕ) → get (tests ps) key ≡ option_map same (get ps key)
get-tests [] key = refl
get-tests (p ∷ ps) key = get_on (bytes_eq p.0 key) p.1 (get (tests ps) key) (get ps key) (get-tests ps key)

answer-map : (v w : Option Value) → answer_same (option_map same v) w ≡ same_answer v w
answer-map None None = refl
answer-map None (Some w) = refl
answer-map (Some v) None = refl
answer-map (Some v) (Some w) = refl

at_key : (ps qs : List (List ℕ × Value)) (key : List ℕ) → answer_same (get (tests ps) key) (get qs key) ≡ same_answer (get ps key) (get qs key)
at_key ps qs key = ap (λ (f : Option (Value → Bool)). answer_same f (get qs key)) (get-tests ps key) ∙ answer-map (get ps key) (get qs key)

at-tests : (ks ps qs : List (List ℕ × Value)) → same_at (tests ks) (tests ps) qs ≡ same_keys ks ps qs
at-tests [] ps qs = refl
at-tests (k ∷ ks) ps qs = ap (λ b. b && same_at (tests ks) (tests ps) qs) (at_key ps qs k.0) ∙ ap (λ b. same_answer (get ps k.0) (get qs k.0) && b) (at-tests ks ps qs)

at-keys : (ks ps qs : List (List ℕ × Value)) → same_at ks (tests ps) qs ≡ same_keys ks ps qs
at-keys [] ps qs = refl
at-keys (k ∷ ks) ps qs = ap (λ b. b && same_at ks (tests ps) qs) (at_key ps qs k.0) ∙ ap (λ b. same_answer (get ps k.0) (get qs k.0) && b) (at-keys ks ps qs)

map-pairs : (ps qs : List (List ℕ × Value)) → map_same (tests ps) qs ≡ same_pairs ps qs
map-pairs ps qs = ap (λ b. b && same_at qs (tests ps) qs) (at-tests ps ps qs) ∙ ap (λ b. same_keys ps ps qs && b) (at-keys qs ps qs)

-- one level of the definition
abbrev tested : Value-F Value Pairs Values → Value-F (Value → Bool) (Pairs → Bool) (Values → Bool)
tested Value-F.Empty = Value-F.Empty
tested (Value-F.Text x) = Value-F.Text x
tested (Value-F.Truth x) = Value-F.Truth x
tested (Value-F.Int x) = Value-F.Int x
tested (Value-F.Double x) = Value-F.Double x
tested (Value-F.Bytes x) = Value-F.Bytes x
tested (Value-F.List x) = Value-F.List (fold-Values (Value → Bool) (Pairs → Bool) (Values → Bool) same_step same_step_pairs same_step_values x)
tested (Value-F.Map x) = Value-F.Map (fold-Pairs (Value → Bool) (Pairs → Bool) (Values → Bool) same_step same_step_pairs same_step_values x)

rolled : (x : Value-F Value Pairs Values) (w : Value) → same (roll-Value x) w ≡ layer_same (tested x) (out-Value w)
unfolding same
rolled Value-F.Empty w = ap (λ (f : Value → Bool). f w) (fold-roll-Value (Value → Bool) (Pairs → Bool) (Values → Bool) same_step same_step_pairs same_step_values Value-F.Empty)
rolled (Value-F.Text x) w = ap (λ (f : Value → Bool). f w) (fold-roll-Value (Value → Bool) (Pairs → Bool) (Values → Bool) same_step same_step_pairs same_step_values (Value-F.Text x))
rolled (Value-F.Truth x) w = ap (λ (f : Value → Bool). f w) (fold-roll-Value (Value → Bool) (Pairs → Bool) (Values → Bool) same_step same_step_pairs same_step_values (Value-F.Truth x))
rolled (Value-F.Int x) w = ap (λ (f : Value → Bool). f w) (fold-roll-Value (Value → Bool) (Pairs → Bool) (Values → Bool) same_step same_step_pairs same_step_values (Value-F.Int x))
rolled (Value-F.Double x) w = ap (λ (f : Value → Bool). f w) (fold-roll-Value (Value → Bool) (Pairs → Bool) (Values → Bool) same_step same_step_pairs same_step_values (Value-F.Double x))
rolled (Value-F.Bytes x) w = ap (λ (f : Value → Bool). f w) (fold-roll-Value (Value → Bool) (Pairs → Bool) (Values → Bool) same_step same_step_pairs same_step_values (Value-F.Bytes x))
rolled (Value-F.List x) w = ap (λ (f : Value → Bool). f w) (fold-roll-Value (Value → Bool) (Pairs → Bool) (Values → Bool) same_step same_step_pairs same_step_values (Value-F.List x))
rolled (Value-F.Map x) w = ap (λ (f : Value → Bool). f w) (fold-roll-Value (Value → Bool) (Pairs → Bool) (Values → Bool) same_step same_step_pairs same_step_values (Value-F.Map x))

back : (w : Value) (x : Value-F Value Pairs Values) (v : Value) → roll-Value x ≡ v → out-Value w ≡ x → w ≡ v
back w x v r e = sym (roll-out-Value w) ∙ ap roll-Value e ∙ r

level-Empty : (w : Value) → same variants.Empty w ≡ layer_same Value-F.Empty (out-Value w)
level-Empty w = ap (λ (v : Value). same v w) (sym variants.rolls-Empty) ∙ rolled Value-F.Empty w

pub same-Empty-Empty : same variants.Empty variants.Empty ≡ true
same-Empty-Empty = level-Empty variants.Empty ∙ ap (layer_same Value-F.Empty) variants.outs-Empty

no-Empty : (x : Value-F Value Pairs Values) → (x ≡ Value-F.Empty → ⊥) → layer_same Value-F.Empty x ≡ false
no-Empty Value-F.Empty h = absurd (h refl)
no-Empty _ h = refl

pub same-Empty-other : (w : Value) → (w ≡ variants.Empty → ⊥) → same variants.Empty w ≡ false
same-Empty-other w h = level-Empty w ∙ no-Empty (out-Value w) (λ e. h (back w Value-F.Empty variants.Empty variants.rolls-Empty e))

level-Text : (a : List ℕ) (w : Value) → same (variants.Text a) w ≡ layer_same (tested (Value-F.Text a)) (out-Value w)
level-Text a w = ap (λ (v : Value). same v w) (sym (variants.rolls-Text a)) ∙ rolled (Value-F.Text a) w

pub same-Text-Text : (a b : List ℕ) → same (variants.Text a) (variants.Text b) ≡ bytes_eq a b
same-Text-Text a b = level-Text a (variants.Text b) ∙ ap (layer_same (tested (Value-F.Text a))) (variants.outs-Text b)

no-Text : (a : List ℕ) (x : Value-F Value Pairs Values) → ((b : List ℕ) → x ≡ Value-F.Text b → ⊥) → layer_same (tested (Value-F.Text a)) x ≡ false
no-Text a (Value-F.Text b) h = absurd (h b refl)
no-Text a _ h = refl

pub same-Text-other : (a : List ℕ) (w : Value) → ((b : List ℕ) → w ≡ variants.Text b → ⊥) → same (variants.Text a) w ≡ false
same-Text-other a w h = level-Text a w ∙ no-Text a (out-Value w) (λ b e. h b (back w (Value-F.Text b) (variants.Text b) (variants.rolls-Text b) e))

level-Truth : (a : Bool) (w : Value) → same (variants.Truth a) w ≡ layer_same (tested (Value-F.Truth a)) (out-Value w)
level-Truth a w = ap (λ (v : Value). same v w) (sym (variants.rolls-Truth a)) ∙ rolled (Value-F.Truth a) w

pub same-Truth-Truth : (a b : Bool) → same (variants.Truth a) (variants.Truth b) ≡ beq a b
same-Truth-Truth a b = level-Truth a (variants.Truth b) ∙ ap (layer_same (tested (Value-F.Truth a))) (variants.outs-Truth b)

no-Truth : (a : Bool) (x : Value-F Value Pairs Values) → ((b : Bool) → x ≡ Value-F.Truth b → ⊥) → layer_same (tested (Value-F.Truth a)) x ≡ false
no-Truth a (Value-F.Truth b) h = absurd (h b refl)
no-Truth a _ h = refl

pub same-Truth-other : (a : Bool) (w : Value) → ((b : Bool) → w ≡ variants.Truth b → ⊥) → same (variants.Truth a) w ≡ false
same-Truth-other a w h = level-Truth a w ∙ no-Truth a (out-Value w) (λ b e. h b (back w (Value-F.Truth b) (variants.Truth b) (variants.rolls-Truth b) e))

level-Int : (a : ℤ) (w : Value) → same (variants.Int a) w ≡ layer_same (tested (Value-F.Int a)) (out-Value w)
level-Int a w = ap (λ (v : Value). same v w) (sym (variants.rolls-Int a)) ∙ rolled (Value-F.Int a) w

pub same-Int-Int : (a b : ℤ) → same (variants.Int a) (variants.Int b) ≡ int_eq a b
same-Int-Int a b = level-Int a (variants.Int b) ∙ ap (layer_same (tested (Value-F.Int a))) (variants.outs-Int b)

no-Int : (a : ℤ) (x : Value-F Value Pairs Values) → ((b : ℤ) → x ≡ Value-F.Int b → ⊥) → layer_same (tested (Value-F.Int a)) x ≡ false
no-Int a (Value-F.Int b) h = absurd (h b refl)
no-Int a _ h = refl

pub same-Int-other : (a : ℤ) (w : Value) → ((b : ℤ) → w ≡ variants.Int b → ⊥) → same (variants.Int a) w ≡ false
same-Int-other a w h = level-Int a w ∙ no-Int a (out-Value w) (λ b e. h b (back w (Value-F.Int b) (variants.Int b) (variants.rolls-Int b) e))

level-Double : (a : List ℕ) (w : Value) → same (variants.Double a) w ≡ layer_same (tested (Value-F.Double a)) (out-Value w)
level-Double a w = ap (λ (v : Value). same v w) (sym (variants.rolls-Double a)) ∙ rolled (Value-F.Double a) w

pub same-Double-Double : (a b : List ℕ) → same (variants.Double a) (variants.Double b) ≡ bytes_eq a b
same-Double-Double a b = level-Double a (variants.Double b) ∙ ap (layer_same (tested (Value-F.Double a))) (variants.outs-Double b)

no-Double : (a : List ℕ) (x : Value-F Value Pairs Values) → ((b : List ℕ) → x ≡ Value-F.Double b → ⊥) → layer_same (tested (Value-F.Double a)) x ≡ false
no-Double a (Value-F.Double b) h = absurd (h b refl)
no-Double a _ h = refl

pub same-Double-other : (a : List ℕ) (w : Value) → ((b : List ℕ) → w ≡ variants.Double b → ⊥) → same (variants.Double a) w ≡ false
same-Double-other a w h = level-Double a w ∙ no-Double a (out-Value w) (λ b e. h b (back w (Value-F.Double b) (variants.Double b) (variants.rolls-Double b) e))

level-Bytes : (a : List ℕ) (w : Value) → same (variants.Bytes a) w ≡ layer_same (tested (Value-F.Bytes a)) (out-Value w)
level-Bytes a w = ap (λ (v : Value). same v w) (sym (variants.rolls-Bytes a)) ∙ rolled (Value-F.Bytes a) w

pub same-Bytes-Bytes : (a b : List ℕ) → same (variants.Bytes a) (variants.Bytes b) ≡ bytes_eq a b
same-Bytes-Bytes a b = level-Bytes a (variants.Bytes b) ∙ ap (layer_same (tested (Value-F.Bytes a))) (variants.outs-Bytes b)

no-Bytes : (a : List ℕ) (x : Value-F Value Pairs Values) → ((b : List ℕ) → x ≡ Value-F.Bytes b → ⊥) → layer_same (tested (Value-F.Bytes a)) x ≡ false
no-Bytes a (Value-F.Bytes b) h = absurd (h b refl)
no-Bytes a _ h = refl

pub same-Bytes-other : (a : List ℕ) (w : Value) → ((b : List ℕ) → w ≡ variants.Bytes b → ⊥) → same (variants.Bytes a) w ≡ false
same-Bytes-other a w h = level-Bytes a w ∙ no-Bytes a (out-Value w) (λ b e. h b (back w (Value-F.Bytes b) (variants.Bytes b) (variants.rolls-Bytes b) e))

level-List : (a : Values) (w : Value) → same (variants.List a) w ≡ layer_same (tested (Value-F.List a)) (out-Value w)
level-List a w = ap (λ (v : Value). same v w) (sym (variants.rolls-List a)) ∙ rolled (Value-F.List a) w

pub same-List-List : (a b : Values) → same (variants.List a) (variants.List b) ≡ same_items (items a) (items b)
unfolding same
same-List-List a b = level-List a (variants.List b) ∙ ap (layer_same (tested (Value-F.List a))) (variants.outs-List b)
    ∙ ap (λ (f : Values → Bool). f b) (fold_out-Values (Value → Bool) (Pairs → Bool) (Values → Bool) same_step same_step_pairs same_step_values a) ∙ all-items (items a) (items b)

no-List : (a : Values) (x : Value-F Value Pairs Values) → ((b : Values) → x ≡ Value-F.List b → ⊥) → layer_same (tested (Value-F.List a)) x ≡ false
no-List a (Value-F.List b) h = absurd (h b refl)
no-List a _ h = refl

pub same-List-other : (a : Values) (w : Value) → ((b : Values) → w ≡ variants.List b → ⊥) → same (variants.List a) w ≡ false
same-List-other a w h = level-List a w ∙ no-List a (out-Value w) (λ b e. h b (back w (Value-F.List b) (variants.List b) (variants.rolls-List b) e))

level-Map : (a : Pairs) (w : Value) → same (variants.Map a) w ≡ layer_same (tested (Value-F.Map a)) (out-Value w)
level-Map a w = ap (λ (v : Value). same v w) (sym (variants.rolls-Map a)) ∙ rolled (Value-F.Map a) w

pub same-Map-Map : (a b : Pairs) → same (variants.Map a) (variants.Map b) ≡ same_pairs (pairs a) (pairs b)
unfolding same
same-Map-Map a b = level-Map a (variants.Map b) ∙ ap (layer_same (tested (Value-F.Map a))) (variants.outs-Map b)
    ∙ ap (λ (f : Pairs → Bool). f b) (fold_out-Pairs (Value → Bool) (Pairs → Bool) (Values → Bool) same_step same_step_pairs same_step_values a) ∙ map-pairs (pairs a) (pairs b)

no-Map : (a : Pairs) (x : Value-F Value Pairs Values) → ((b : Pairs) → x ≡ Value-F.Map b → ⊥) → layer_same (tested (Value-F.Map a)) x ≡ false
no-Map a (Value-F.Map b) h = absurd (h b refl)
no-Map a _ h = refl

pub same-Map-other : (a : Pairs) (w : Value) → ((b : Pairs) → w ≡ variants.Map b → ⊥) → same (variants.Map a) w ≡ false
same-Map-other a w h = level-Map a w ∙ no-Map a (out-Value w) (λ b e. h b (back w (Value-F.Map b) (variants.Map b) (variants.rolls-Map b) e))

-- What is the same as a value of a kind is of that kind.

is-Empty : (x : Value-F Value Pairs Values) → layer_same Value-F.Empty x ≡ true → x ≡ Value-F.Empty
is-Empty Value-F.Empty h = refl
is-Empty _ h = absurd cc

pub like-Empty : (w : Value) → same variants.Empty w ≡ true → w ≡ variants.Empty
like-Empty w h = back w Value-F.Empty variants.Empty variants.rolls-Empty (is-Empty (out-Value w) (sym (level-Empty w) ∙ h))

is-Text : (a : List ℕ) (x : Value-F Value Pairs Values) → layer_same (tested (Value-F.Text a)) x ≡ true → (b : List ℕ) × (x ≡ Value-F.Text b)
is-Text a (Value-F.Text b) h = (b, refl)
is-Text a _ h = absurd cc

pub like-Text : (a : List ℕ) (w : Value) → same (variants.Text a) w ≡ true → (b : List ℕ) × (w ≡ variants.Text b) × (bytes_eq a b ≡ true)
like-Text a w h =
    let found = is-Text a (out-Value w) (sym (level-Text a w) ∙ h) in
    let is : w ≡ variants.Text found.0 = back w (Value-F.Text found.0) (variants.Text found.0) (variants.rolls-Text found.0) found.1 in
    (found.0, is, sym (same-Text-Text a found.0) ∙ ap (same (variants.Text a)) (sym is) ∙ h)

is-Truth : (a : Bool) (x : Value-F Value Pairs Values) → layer_same (tested (Value-F.Truth a)) x ≡ true → (b : Bool) × (x ≡ Value-F.Truth b)
is-Truth a (Value-F.Truth b) h = (b, refl)
is-Truth a _ h = absurd cc

pub like-Truth : (a : Bool) (w : Value) → same (variants.Truth a) w ≡ true → (b : Bool) × (w ≡ variants.Truth b) × (beq a b ≡ true)
like-Truth a w h =
    let found = is-Truth a (out-Value w) (sym (level-Truth a w) ∙ h) in
    let is : w ≡ variants.Truth found.0 = back w (Value-F.Truth found.0) (variants.Truth found.0) (variants.rolls-Truth found.0) found.1 in
    (found.0, is, sym (same-Truth-Truth a found.0) ∙ ap (same (variants.Truth a)) (sym is) ∙ h)

is-Int : (a : ℤ) (x : Value-F Value Pairs Values) → layer_same (tested (Value-F.Int a)) x ≡ true → (b : ℤ) × (x ≡ Value-F.Int b)
is-Int a (Value-F.Int b) h = (b, refl)
is-Int a _ h = absurd cc

pub like-Int : (a : ℤ) (w : Value) → same (variants.Int a) w ≡ true → (b : ℤ) × (w ≡ variants.Int b) × (int_eq a b ≡ true)
like-Int a w h =
    let found = is-Int a (out-Value w) (sym (level-Int a w) ∙ h) in
    let is : w ≡ variants.Int found.0 = back w (Value-F.Int found.0) (variants.Int found.0) (variants.rolls-Int found.0) found.1 in
    (found.0, is, sym (same-Int-Int a found.0) ∙ ap (same (variants.Int a)) (sym is) ∙ h)

is-Double : (a : List ℕ) (x : Value-F Value Pairs Values) → layer_same (tested (Value-F.Double a)) x ≡ true → (b : List ℕ) × (x ≡ Value-F.Double b)
is-Double a (Value-F.Double b) h = (b, refl)
is-Double a _ h = absurd cc

pub like-Double : (a : List ℕ) (w : Value) → same (variants.Double a) w ≡ true → (b : List ℕ) × (w ≡ variants.Double b) × (bytes_eq a b ≡ true)
like-Double a w h =
    let found = is-Double a (out-Value w) (sym (level-Double a w) ∙ h) in
    let is : w ≡ variants.Double found.0 = back w (Value-F.Double found.0) (variants.Double found.0) (variants.rolls-Double found.0) found.1 in
    (found.0, is, sym (same-Double-Double a found.0) ∙ ap (same (variants.Double a)) (sym is) ∙ h)

is-Bytes : (a : List ℕ) (x : Value-F Value Pairs Values) → layer_same (tested (Value-F.Bytes a)) x ≡ true → (b : List ℕ) × (x ≡ Value-F.Bytes b)
is-Bytes a (Value-F.Bytes b) h = (b, refl)
is-Bytes a _ h = absurd cc

pub like-Bytes : (a : List ℕ) (w : Value) → same (variants.Bytes a) w ≡ true → (b : List ℕ) × (w ≡ variants.Bytes b) × (bytes_eq a b ≡ true)
like-Bytes a w h =
    let found = is-Bytes a (out-Value w) (sym (level-Bytes a w) ∙ h) in
    let is : w ≡ variants.Bytes found.0 = back w (Value-F.Bytes found.0) (variants.Bytes found.0) (variants.rolls-Bytes found.0) found.1 in
    (found.0, is, sym (same-Bytes-Bytes a found.0) ∙ ap (same (variants.Bytes a)) (sym is) ∙ h)

is-List : (a : Values) (x : Value-F Value Pairs Values) → layer_same (tested (Value-F.List a)) x ≡ true → (b : Values) × (x ≡ Value-F.List b)
is-List a (Value-F.List b) h = (b, refl)
is-List a _ h = absurd cc

pub like-List : (a : Values) (w : Value) → same (variants.List a) w ≡ true → (b : Values) × (w ≡ variants.List b) × (same_items (items a) (items b) ≡ true)
like-List a w h =
    let found = is-List a (out-Value w) (sym (level-List a w) ∙ h) in
    let is : w ≡ variants.List found.0 = back w (Value-F.List found.0) (variants.List found.0) (variants.rolls-List found.0) found.1 in
    (found.0, is, sym (same-List-List a found.0) ∙ ap (same (variants.List a)) (sym is) ∙ h)

is-Map : (a : Pairs) (x : Value-F Value Pairs Values) → layer_same (tested (Value-F.Map a)) x ≡ true → (b : Pairs) × (x ≡ Value-F.Map b)
is-Map a (Value-F.Map b) h = (b, refl)
is-Map a _ h = absurd cc

pub like-Map : (a : Pairs) (w : Value) → same (variants.Map a) w ≡ true → (b : Pairs) × (w ≡ variants.Map b) × (same_pairs (pairs a) (pairs b) ≡ true)
like-Map a w h =
    let found = is-Map a (out-Value w) (sym (level-Map a w) ∙ h) in
    let is : w ≡ variants.Map found.0 = back w (Value-F.Map found.0) (variants.Map found.0) (variants.rolls-Map found.0) found.1 in
    (found.0, is, sym (same-Map-Map a found.0) ∙ ap (same (variants.Map a)) (sym is) ∙ h)

pub ruleset sames = (same-Empty-Empty, same-Text-Text, same-Truth-Truth, same-Int-Int, same-Double-Double, same-Bytes-Bytes, same-List-List, same-Map-Map)
