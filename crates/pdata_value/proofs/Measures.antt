-- The equations of `depth` and `weight`, one for each variant.
use Rattle.std.proofs.Common.{◌≡◌, ◌∙◌, ℕ, ◌+◌, ◌≤◌, Bool, ℤ, max, List, [], ◌∷◌, length, map, refl, sym, ap, arith}
use Rattle.pdata_value.specs.Value.{items, pairs}
use Rattle.pdata_value.specs.Measure.{largest, total, depth, depth_step, depth_step_pairs, depth_step_values, depth_of_items, depth_of_pairs, weight, weight_step, weight_step_pairs, weight_step_values, weight_of_items, weight_of_pairs}
use Rattle.pdata_value.specs.declared.value.Value.{Value}
use Rattle.pdata_value.specs.declared.values.Values.{Values}
use Rattle.pdata_value.specs.declared.pairs.Pairs.{Pairs}
use Rattle.pdata_value.specs.declared.value.Value.TheOpen.{Value-F}
use Rattle.pdata_value.specs.declared.value.Value.TheVariants as variants
use Rattle.pdata_value.specs.declared.value.Value.TheFolds.{fold-roll-Value, fold_out-Value, fold_out-Values, fold_out-Pairs}

largest-depths : (vs : List Value) → largest (map depth vs) ≡ depth_of_items vs
largest-depths [] = refl
largest-depths (v ∷ vs) = ap (max (depth v)) (largest-depths vs)

largest-pair_depths : (ps : List (List ℕ × Value)) → largest (map (λ (p : List ℕ × ℕ). p.1) (map (λ (p : List ℕ × Value). (p.0, depth p.1)) ps)) ≡ depth_of_pairs ps
largest-pair_depths [] = refl
largest-pair_depths (p ∷ ps) = ap (max (depth p.1)) (largest-pair_depths ps)

total-weights : (vs : List Value) → total (map weight vs) ≡ weight_of_items vs
total-weights [] = refl
total-weights (v ∷ vs) = ap (λ n. weight v + n) (total-weights vs)

total-pair_weights : (ps : List (List ℕ × Value)) → total (map (λ (p : List ℕ × ℕ). length p.0 + p.1) (map (λ (p : List ℕ × Value). (p.0, weight p.1)) ps)) ≡ weight_of_pairs ps
total-pair_weights [] = refl
total-pair_weights (p ∷ ps) = ap (λ n. length p.0 + weight p.1 + n) (total-pair_weights ps)

pub depth-Empty : depth variants.Empty ≡ 1
unfolding depth
depth-Empty = ap depth (sym variants.rolls-Empty) ∙ fold-roll-Value ℕ ℕ ℕ depth_step depth_step_pairs depth_step_values Value-F.Empty

pub depth-Text : (text : List ℕ) → depth (variants.Text text) ≡ 1
unfolding depth
depth-Text text = ap depth (sym (variants.rolls-Text text)) ∙ fold-roll-Value ℕ ℕ ℕ depth_step depth_step_pairs depth_step_values (Value-F.Text text)

pub depth-Truth : (b : Bool) → depth (variants.Truth b) ≡ 1
unfolding depth
depth-Truth b = ap depth (sym (variants.rolls-Truth b)) ∙ fold-roll-Value ℕ ℕ ℕ depth_step depth_step_pairs depth_step_values (Value-F.Truth b)

pub depth-Int : (n : ℤ) → depth (variants.Int n) ≡ 1
unfolding depth
depth-Int n = ap depth (sym (variants.rolls-Int n)) ∙ fold-roll-Value ℕ ℕ ℕ depth_step depth_step_pairs depth_step_values (Value-F.Int n)

pub depth-Double : (text : List ℕ) → depth (variants.Double text) ≡ 1
unfolding depth
depth-Double text = ap depth (sym (variants.rolls-Double text)) ∙ fold-roll-Value ℕ ℕ ℕ depth_step depth_step_pairs depth_step_values (Value-F.Double text)

pub depth-Bytes : (text : List ℕ) → depth (variants.Bytes text) ≡ 1
unfolding depth
depth-Bytes text = ap depth (sym (variants.rolls-Bytes text)) ∙ fold-roll-Value ℕ ℕ ℕ depth_step depth_step_pairs depth_step_values (Value-F.Bytes text)

pub depth-List : (vs : Values) → depth (variants.List vs) ≡ 1 + depth_of_items (items vs)
unfolding depth
depth-List vs = ap depth (sym (variants.rolls-List vs)) ∙ fold-roll-Value ℕ ℕ ℕ depth_step depth_step_pairs depth_step_values (Value-F.List vs)
    ∙ ap (λ n. 1 + n) (fold_out-Values ℕ ℕ ℕ depth_step depth_step_pairs depth_step_values vs ∙ largest-depths (items vs))

pub depth-Map : (ps : Pairs) → depth (variants.Map ps) ≡ 1 + depth_of_pairs (pairs ps)
unfolding depth
depth-Map ps = ap depth (sym (variants.rolls-Map ps)) ∙ fold-roll-Value ℕ ℕ ℕ depth_step depth_step_pairs depth_step_values (Value-F.Map ps)
    ∙ ap (λ n. 1 + n) (fold_out-Pairs ℕ ℕ ℕ depth_step depth_step_pairs depth_step_values ps ∙ largest-pair_depths (pairs ps))

pub ruleset depths = (depth-Empty, depth-Text, depth-Truth, depth-Int, depth-Double, depth-Bytes, depth-List, depth-Map)

pub weight-Empty : weight variants.Empty ≡ 1
unfolding weight
weight-Empty = ap weight (sym variants.rolls-Empty) ∙ fold-roll-Value ℕ ℕ ℕ weight_step weight_step_pairs weight_step_values Value-F.Empty

pub weight-Text : (text : List ℕ) → weight (variants.Text text) ≡ 1 + length text
unfolding weight
weight-Text text = ap weight (sym (variants.rolls-Text text)) ∙ fold-roll-Value ℕ ℕ ℕ weight_step weight_step_pairs weight_step_values (Value-F.Text text)

pub weight-Truth : (b : Bool) → weight (variants.Truth b) ≡ 1
unfolding weight
weight-Truth b = ap weight (sym (variants.rolls-Truth b)) ∙ fold-roll-Value ℕ ℕ ℕ weight_step weight_step_pairs weight_step_values (Value-F.Truth b)

pub weight-Int : (n : ℤ) → weight (variants.Int n) ≡ 1
unfolding weight
weight-Int n = ap weight (sym (variants.rolls-Int n)) ∙ fold-roll-Value ℕ ℕ ℕ weight_step weight_step_pairs weight_step_values (Value-F.Int n)

pub weight-Double : (text : List ℕ) → weight (variants.Double text) ≡ 1 + length text
unfolding weight
weight-Double text = ap weight (sym (variants.rolls-Double text)) ∙ fold-roll-Value ℕ ℕ ℕ weight_step weight_step_pairs weight_step_values (Value-F.Double text)

pub weight-Bytes : (text : List ℕ) → weight (variants.Bytes text) ≡ 1 + length text
unfolding weight
weight-Bytes text = ap weight (sym (variants.rolls-Bytes text)) ∙ fold-roll-Value ℕ ℕ ℕ weight_step weight_step_pairs weight_step_values (Value-F.Bytes text)

pub weight-List : (vs : Values) → weight (variants.List vs) ≡ 1 + weight_of_items (items vs)
unfolding weight
weight-List vs = ap weight (sym (variants.rolls-List vs)) ∙ fold-roll-Value ℕ ℕ ℕ weight_step weight_step_pairs weight_step_values (Value-F.List vs)
    ∙ ap (λ n. 1 + n) (fold_out-Values ℕ ℕ ℕ weight_step weight_step_pairs weight_step_values vs ∙ total-weights (items vs))

pub weight-Map : (ps : Pairs) → weight (variants.Map ps) ≡ 1 + weight_of_pairs (pairs ps)
unfolding weight
weight-Map ps = ap weight (sym (variants.rolls-Map ps)) ∙ fold-roll-Value ℕ ℕ ℕ weight_step weight_step_pairs weight_step_values (Value-F.Map ps)
    ∙ ap (λ n. 1 + n) (fold_out-Pairs ℕ ℕ ℕ weight_step weight_step_pairs weight_step_values ps ∙ total-pair_weights (pairs ps))

pub ruleset weights = (weight-Empty, weight-Text, weight-Truth, weight-Int, weight-Double, weight-Bytes, weight-List, weight-Map)

one_le-depth-step : (x : Value-F ℕ ℕ ℕ) → 1 ≤ depth_step x
one_le-depth-step Value-F.Empty = omega arith
one_le-depth-step (Value-F.Text x) = omega arith
one_le-depth-step (Value-F.Truth x) = omega arith
one_le-depth-step (Value-F.Int x) = omega arith
one_le-depth-step (Value-F.Double x) = omega arith
one_le-depth-step (Value-F.Bytes x) = omega arith
one_le-depth-step (Value-F.List n) = omega arith
one_le-depth-step (Value-F.Map n) = omega arith

pub one_le-depth : (v : Value) → 1 ≤ depth v
unfolding depth
one_le-depth v = rw (fold_out-Value ℕ ℕ ℕ depth_step depth_step_pairs depth_step_values v) (one_le-depth-step _)

one_le-weight-step : (x : Value-F ℕ ℕ ℕ) → 1 ≤ weight_step x
one_le-weight-step Value-F.Empty = omega arith
one_le-weight-step (Value-F.Text x) = omega arith
one_le-weight-step (Value-F.Truth x) = omega arith
one_le-weight-step (Value-F.Int x) = omega arith
one_le-weight-step (Value-F.Double x) = omega arith
one_le-weight-step (Value-F.Bytes x) = omega arith
one_le-weight-step (Value-F.List n) = omega arith
one_le-weight-step (Value-F.Map n) = omega arith

pub one_le-weight : (v : Value) → 1 ≤ weight v
unfolding weight
one_le-weight v = rw (fold_out-Value ℕ ℕ ℕ weight_step weight_step_pairs weight_step_values v) (one_le-weight-step _)

pub ruleset floors = (one_le-depth, one_le-weight)
