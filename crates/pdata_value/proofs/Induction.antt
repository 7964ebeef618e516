-- A fact of all values, by cases and by induction.
use Rattle.std.proofs.Common.{ℕ, ℤ, zero, suc, ◌≤◌, Bool, List, [], ◌∷◌, sym, subst, arith}
use Rattle.pdata_value.specs.Value.{items, pairs}
use Rattle.pdata_value.specs.Measure.{depth, depth_of_items, depth_of_pairs}
use Rattle.pdata_value.specs.declared.value.Value.{Value, out-Value, roll-Value, roll-out-Value}
use Rattle.pdata_value.specs.declared.values.Values.{Values}
use Rattle.pdata_value.specs.declared.pairs.Pairs.{Pairs}
use Rattle.pdata_value.specs.declared.value.Value.TheOpen.{Value-F}
use Rattle.pdata_value.specs.declared.value.Value.TheVariants as variants
use Rattle.pdata_value.proofs.Measures.{depth-List, depth-Map, one_le-depth}

-- the fact at each item of a list
abbrev pub Each : {X : Type 0} → (X → Type 0) → List X → Type 0
Each P [] = Unit {0}
Each P (x ∷ xs) = P x × Each P xs

-- the fact at each kind of value
pub record Cases (P : Value → Type 0) : Type 0 where
  pub at_empty : P variants.Empty
  pub at_text : (a : List ℕ) → P (variants.Text a)
  pub at_truth : (a : Bool) → P (variants.Truth a)
  pub at_int : (a : ℤ) → P (variants.Int a)
  pub at_double : (a : List ℕ) → P (variants.Double a)
  pub at_bytes : (a : List ℕ) → P (variants.Bytes a)
  pub at_list : (a : Values) → P (variants.List a)
  pub at_map : (a : Pairs) → P (variants.Map a)

at_layer : (P : Value → Type 0) → Cases P → (x : Value-F Value Pairs Values) → P (roll-Value x)
at_layer P cases Value-F.Empty = subst P (sym variants.rolls-Empty) cases.at_empty
at_layer P cases (Value-F.Text a) = subst P (sym (variants.rolls-Text a)) (cases.at_text a)
at_layer P cases (Value-F.Truth a) = subst P (sym (variants.rolls-Truth a)) (cases.at_truth a)
at_layer P cases (Value-F.Int a) = subst P (sym (variants.rolls-Int a)) (cases.at_int a)
at_layer P cases (Value-F.Double a) = subst P (sym (variants.rolls-Double a)) (cases.at_double a)
at_layer P cases (Value-F.Bytes a) = subst P (sym (variants.rolls-Bytes a)) (cases.at_bytes a)
at_layer P cases (Value-F.List a) = subst P (sym (variants.rolls-List a)) (cases.at_list a)
at_layer P cases (Value-F.Map a) = subst P (sym (variants.rolls-Map a)) (cases.at_map a)

pub by_cases : (P : Value → Type 0) → Cases P → (v : Value) → P v
by_cases P cases v = subst P (roll-out-Value v) (at_layer P cases (out-Value v))

-- the fact at each kind of value, where it holds of the elements
pub record Steps (P : Value → Type 0) : Type 0 where
  pub at_empty : P variants.Empty
  pub at_text : (a : List ℕ) → P (variants.Text a)
  pub at_truth : (a : Bool) → P (variants.Truth a)
  pub at_int : (a : ℤ) → P (variants.Int a)
  pub at_double : (a : List ℕ) → P (variants.Double a)
  pub at_bytes : (a : List ℕ) → P (variants.Bytes a)
  pub at_list : (a : Values) → Each P (items a) → P (variants.List a)
  pub at_map : (a : Pairs) → Each (λ (p : List ℕ × Value). P p.1) (pairs a) → P (variants.Map a)

items_by : (P : Value → Type 0) (n : ℕ) → ((v : Value) → depth v ≤ n → P v) → (vs : List Value) → depth_of_items vs ≤ n → Each P vs
items_by P n f [] h = tt
items_by P n f (v ∷ vs) h = (f v (omega arith), items_by P n f vs (omega arith))

pairs_by : (P : Value → Type 0) (n : ℕ) → ((v : Value) → depth v ≤ n → P v) → (ps : List (List ℕ × Value)) → depth_of_pairs ps ≤ n
    → Each (λ (p : List ℕ × Value). P p.1) ps
pairs_by P n f [] h = tt
pairs_by P n f (p ∷ ps) h = (f p.1 (omega arith), pairs_by P n f ps (omega arith))

-- for all values up to a depth
up_to : (P : Value → Type 0) → Steps P → (n : ℕ) (v : Value) → depth v ≤ n → P v
up_to P steps zero v h = absurd (omega (arith, one_le-depth v))
up_to P steps (suc n) v h =
    by_cases (λ (w : Value). depth w ≤ suc n → P w) (record {
      at_empty = λ d. steps.at_empty;
      at_text = λ a d. steps.at_text a;
      at_truth = λ a d. steps.at_truth a;
      at_int = λ a d. steps.at_int a;
      at_double = λ a d. steps.at_double a;
      at_bytes = λ a d. steps.at_bytes a;
      at_list = λ a d. steps.at_list a (items_by P n (up_to P steps n) (items a) (omega (arith, depth-List a)));
      at_map = λ a d. steps.at_map a (pairs_by P n (up_to P steps n) (pairs a) (omega (arith, depth-Map a)));
    }) v h

pub by_induction : (P : Value → Type 0) → Steps P → (v : Value) → P v
by_induction P steps v = up_to P steps (depth v) v (omega arith)
