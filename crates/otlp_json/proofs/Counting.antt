-- Counts that are added up.
use Rattle.std.proofs.Common.{◌≡◌, ◌∙◌, ℕ, suc, ◌+◌, ◌<◌, Bool, ℤ, List, [], ◌∷◌, map, Ok, refl, sym, ap, arith}
use Rattle.pdata_value.specs.Measure.{total}
use Rattle.pdata_value.specs.Value.{items, pairs}
use Rattle.pdata_value.specs.declared.value.Value.{Value}
use Rattle.pdata_value.specs.declared.values.Values.{Values}
use Rattle.pdata_value.specs.declared.pairs.Pairs.{Pairs}
use Rattle.pdata_value.specs.declared.value.Value.TheOpen.{Value-F}
use Rattle.pdata_value.specs.declared.value.Value.TheVariants as variants
use Rattle.pdata_value.specs.declared.value.Value.TheFolds.{fold-roll-Value, fold_out-Values, fold_out-Pairs}
use Rattle.otlp_json.specs.declared.counts.Counts.{Counts}
use Rattle.otlp_json.specs.Limits.{most_records, most_holders, most_values, none_counted, one_record, one_holder, one_value}
use Rattle.otlp_json.specs.WellFormed.{plus, Within, only_values, sizes, count_step, count_step_pairs, count_step_values, values_in_value, values_in_pairs, values_in_items}
use Rattle.otlp_json.proofs.FieldsBack.{less-is}

-- counts that agree
pub same_counts : (a b : Counts) → a.records ≡ b.records → a.holders ≡ b.holders → a.values ≡ b.values → a ≡ b
same_counts a b records holders values =
    ap (λ (n : ℕ). record a { records = n }) records ∙ ap (λ (n : ℕ). record a { records = b.records; holders = n }) holders
    ∙ ap (λ (n : ℕ). record b { values = n }) values

pub plus-none : (n : Counts) → plus n none_counted ≡ n
plus-none n = same_counts (plus n none_counted) n (omega arith) (omega arith) (omega arith)

pub plus-assoc : (n a b : Counts) → plus (plus n a) b ≡ plus n (plus a b)
plus-assoc n a b = same_counts (plus (plus n a) b) (plus n (plus a b)) (omega arith) (omega arith) (omega arith)

pub within-first : (n a b : Counts) → Within (plus n (plus a b)) → Within (plus n a)
within-first n a b fits = (omega (arith, fits.0), omega (arith, fits.1), omega (arith, fits.2))

pub within-rest : (n a b : Counts) → Within (plus n (plus a b)) → Within (plus (plus n a) b)
within-rest n a b fits = (omega (arith, fits.0), omega (arith, fits.1), omega (arith, fits.2))

-- one more, where there is room

pub one_value-is : (levels at : ℕ) (n : Counts) → n.values < most_values → one_value (suc levels) at n ≡ Ok (plus n (only_values 1))
one_value-is levels at n room =
    rw (less-is n.values most_values room) (ap (λ (m : Counts). Ok m) (same_counts (record n { values = n.values + 1 }) (plus n (only_values 1)) (omega arith) (omega arith) refl))

pub one_record-is : (at : ℕ) (n : Counts) → n.records < most_records → one_record at n ≡ Ok (plus n (record { records = 1; holders = 0; values = 0 }))
one_record-is at n room =
    rw (less-is n.records most_records room)
    (ap (λ (m : Counts). Ok m) (same_counts (record n { records = n.records + 1 }) (plus n (record { records = 1; holders = 0; values = 0 })) refl (omega arith) (omega arith)))

pub one_holder-is : (at : ℕ) (n : Counts) → n.holders < most_holders → one_holder at n ≡ Ok (plus n (record { records = 0; holders = 1; values = 0 }))
one_holder-is at n room =
    rw (less-is n.holders most_holders room)
    (ap (λ (m : Counts). Ok m) (same_counts (record n { holders = n.holders + 1 }) (plus n (record { records = 0; holders = 1; values = 0 })) (omega arith) refl (omega arith)))

-- The values of a value, by its kind.

pub count-Empty : values_in_value variants.Empty ≡ 1
unfolding values_in_value
count-Empty = ap values_in_value (sym variants.rolls-Empty) ∙ fold-roll-Value ℕ ℕ ℕ count_step count_step_pairs count_step_values Value-F.Empty

pub count-Text : (text : List ℕ) → values_in_value (variants.Text text) ≡ 1
unfolding values_in_value
count-Text text = ap values_in_value (sym (variants.rolls-Text text)) ∙ fold-roll-Value ℕ ℕ ℕ count_step count_step_pairs count_step_values (Value-F.Text text)

pub count-Truth : (b : Bool) → values_in_value (variants.Truth b) ≡ 1
unfolding values_in_value
count-Truth b = ap values_in_value (sym (variants.rolls-Truth b)) ∙ fold-roll-Value ℕ ℕ ℕ count_step count_step_pairs count_step_values (Value-F.Truth b)

pub count-Int : (n : ℤ) → values_in_value (variants.Int n) ≡ 1
unfolding values_in_value
count-Int n = ap values_in_value (sym (variants.rolls-Int n)) ∙ fold-roll-Value ℕ ℕ ℕ count_step count_step_pairs count_step_values (Value-F.Int n)

pub count-Double : (text : List ℕ) → values_in_value (variants.Double text) ≡ 1
unfolding values_in_value
count-Double text = ap values_in_value (sym (variants.rolls-Double text)) ∙ fold-roll-Value ℕ ℕ ℕ count_step count_step_pairs count_step_values (Value-F.Double text)

pub count-Bytes : (text : List ℕ) → values_in_value (variants.Bytes text) ≡ 1
unfolding values_in_value
count-Bytes text = ap values_in_value (sym (variants.rolls-Bytes text)) ∙ fold-roll-Value ℕ ℕ ℕ count_step count_step_pairs count_step_values (Value-F.Bytes text)

total-items : (vs : List Value) → total (map values_in_value vs) ≡ values_in_items vs
total-items [] = refl
total-items (v ∷ vs) = ap (λ n. values_in_value v + n) (total-items vs)

total-pairs : (ps : List (List ℕ × Value)) → total (map (λ (p : List ℕ × ℕ). p.1) (map (λ (p : List ℕ × Value). (p.0, values_in_value p.1)) ps)) ≡ values_in_pairs ps
total-pairs [] = refl
total-pairs (p ∷ ps) = ap (λ n. values_in_value p.1 + n) (total-pairs ps)

pub count-List : (vs : Values) → values_in_value (variants.List vs) ≡ 1 + values_in_items (items vs)
unfolding values_in_value
count-List vs = ap values_in_value (sym (variants.rolls-List vs)) ∙ fold-roll-Value ℕ ℕ ℕ count_step count_step_pairs count_step_values (Value-F.List vs)
    ∙ ap (λ n. 1 + n) (fold_out-Values ℕ ℕ ℕ count_step count_step_pairs count_step_values vs ∙ total-items (items vs))

pub count-Map : (ps : Pairs) → values_in_value (variants.Map ps) ≡ 1 + values_in_pairs (pairs ps)
unfolding values_in_value
count-Map ps = ap values_in_value (sym (variants.rolls-Map ps)) ∙ fold-roll-Value ℕ ℕ ℕ count_step count_step_pairs count_step_values (Value-F.Map ps)
    ∙ ap (λ n. 1 + n) (fold_out-Pairs ℕ ℕ ℕ count_step count_step_pairs count_step_values ps ∙ total-pairs (pairs ps))

-- values, counted as such

pub sizes-values : (vs : List Value) → sizes (λ v. only_values (values_in_value v)) vs ≡ only_values (values_in_items vs)
sizes-values [] = refl
sizes-values (v ∷ vs) = ap (plus (only_values (values_in_value v))) (sizes-values vs)

pub sizes-pairs : (ps : List (List ℕ × Value)) → sizes (λ (p : List ℕ × Value). only_values (values_in_value p.1)) ps ≡ only_values (values_in_pairs ps)
sizes-pairs [] = refl
sizes-pairs (p ∷ ps) = ap (plus (only_values (values_in_value p.1))) (sizes-pairs ps)
