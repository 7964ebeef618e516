-- The equations of `has_double`, one for each variant.
use Rattle.std.proofs.Common.{◌≡◌, ◌∙◌, ℕ, Bool, true, false, ℤ, List, [], ◌∷◌, map, refl, sym, ap}
use Rattle.std.specs.Prelude.{◌||◌}
use Rattle.pdata_value.specs.Value.{items, pairs}
use Rattle.pdata_value.specs.Doubles.{some_of, has_double, double_step, double_step_pairs, double_step_values, some_has_double, some_pair_has_double}
use Rattle.pdata_value.specs.declared.value.Value.{Value}
use Rattle.pdata_value.specs.declared.values.Values.{Values}
use Rattle.pdata_value.specs.declared.pairs.Pairs.{Pairs}
use Rattle.pdata_value.specs.declared.value.Value.TheOpen.{Value-F}
use Rattle.pdata_value.specs.declared.value.Value.TheVariants as variants
use Rattle.pdata_value.specs.declared.value.Value.TheFolds.{fold-roll-Value, fold_out-Values, fold_out-Pairs}

some_of-values : (vs : List Value) → some_of (map has_double vs) ≡ some_has_double vs
some_of-values [] = refl
some_of-values (v ∷ vs) = ap (λ b. has_double v || b) (some_of-values vs)

some_of-pairs : (ps : List (List ℕ × Value)) → some_of (map (λ (p : List ℕ × Bool). p.1) (map (λ (p : List ℕ × Value). (p.0, has_double p.1)) ps)) ≡ some_pair_has_double ps
some_of-pairs [] = refl
some_of-pairs (p ∷ ps) = ap (λ b. has_double p.1 || b) (some_of-pairs ps)

pub double-Empty : has_double variants.Empty ≡ false
unfolding has_double
double-Empty = ap has_double (sym variants.rolls-Empty) ∙ fold-roll-Value Bool Bool Bool double_step double_step_pairs double_step_values Value-F.Empty

pub double-Text : (text : List ℕ) → has_double (variants.Text text) ≡ false
unfolding has_double
double-Text text = ap has_double (sym (variants.rolls-Text text)) ∙ fold-roll-Value Bool Bool Bool double_step double_step_pairs double_step_values (Value-F.Text text)

pub double-Truth : (b : Bool) → has_double (variants.Truth b) ≡ false
unfolding has_double
double-Truth b = ap has_double (sym (variants.rolls-Truth b)) ∙ fold-roll-Value Bool Bool Bool double_step double_step_pairs double_step_values (Value-F.Truth b)

pub double-Int : (n : ℤ) → has_double (variants.Int n) ≡ false
unfolding has_double
double-Int n = ap has_double (sym (variants.rolls-Int n)) ∙ fold-roll-Value Bool Bool Bool double_step double_step_pairs double_step_values (Value-F.Int n)

pub double-Double : (text : List ℕ) → has_double (variants.Double text) ≡ true
unfolding has_double
double-Double text = ap has_double (sym (variants.rolls-Double text)) ∙ fold-roll-Value Bool Bool Bool double_step double_step_pairs double_step_values (Value-F.Double text)

pub double-Bytes : (text : List ℕ) → has_double (variants.Bytes text) ≡ false
unfolding has_double
double-Bytes text = ap has_double (sym (variants.rolls-Bytes text)) ∙ fold-roll-Value Bool Bool Bool double_step double_step_pairs double_step_values (Value-F.Bytes text)

pub double-List : (vs : Values) → has_double (variants.List vs) ≡ some_has_double (items vs)
unfolding has_double
double-List vs = ap has_double (sym (variants.rolls-List vs)) ∙ fold-roll-Value Bool Bool Bool double_step double_step_pairs double_step_values (Value-F.List vs)
    ∙ fold_out-Values Bool Bool Bool double_step double_step_pairs double_step_values vs ∙ some_of-values (items vs)

pub double-Map : (ps : Pairs) → has_double (variants.Map ps) ≡ some_pair_has_double (pairs ps)
unfolding has_double
double-Map ps = ap has_double (sym (variants.rolls-Map ps)) ∙ fold-roll-Value Bool Bool Bool double_step double_step_pairs double_step_values (Value-F.Map ps)
    ∙ fold_out-Pairs Bool Bool Bool double_step double_step_pairs double_step_values ps ∙ some_of-pairs (pairs ps)

pub ruleset doubles = (double-Empty, double-Text, double-Truth, double-Int, double-Double, double-Bytes, double-List, double-Map)
