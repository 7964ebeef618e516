-- A written value is read again as the same value.
use Rattle.std.proofs.Common.{◌≡◌, ◌∙◌, ℕ, zero, suc, ◌+◌, ◌<◌, ◌≤◌, Bool, true, false, List, [], ◌∷◌, ◌++◌, map, Ok, refl, sym, ap, arith, append-nil, append_assoc}
use Rattle.std.specs.Prelude.{codes, cond}
use Rattle.std.specs.List.{All}
use Rattle.std.specs.Str.{IsUtf8}
use Rattle.std.proofs.lemmas.List.Elements.{All-head, All-tail, All-weaker}
use Rattle.std.specs.Fmt.{signed_decimal}
use Rattle.base64.specs.Engines.{standard}
use Rattle.base64.specs.GeneralPurpose as base64
use Rattle.pdata_value.specs.Value.{items, pairs}
use Rattle.pdata_value.specs.declared.value.Value.{Value, roll-Value, out-Value}
use Rattle.pdata_value.specs.declared.value.Value.TheOpen.{Value-F}
use Rattle.pdata_value.specs.declared.value.Value.TheVariants as values
use Rattle.pdata_value.specs.declared.value.Value.TheViews.{roll-out-Value}
use Rattle.pdata_value.specs.declared.value.Value.TheFolds.{fold_out-Value}
use Rattle.pdata_value.specs.declared.values.Values.{Values}
use Rattle.pdata_value.specs.declared.pairs.Pairs.{Pairs}
use Rattle.json_text.specs.Kinds.{is_null}
use Rattle.json_text.specs.declared.json.Json.{Json}
use Rattle.json_text.proofs.KindLemmas.{is_null-Text, is_null-Number, is_null-Truth, is_null-List, is_null-Object}
use Rattle.otlp_json.specs.declared.counts.Counts.{Counts}
use Rattle.otlp_json.specs.Reads.{Read, Reader, ◌>>=◌, each}
use Rattle.otlp_json.specs.Limits.{most_values}
use Rattle.otlp_json.specs.Objects.{by_key, object}
use Rattle.otlp_json.specs.Values.{is_value_key, pair_by, array_table, map_table, value_table, value_in, pairs_by, values_by, pairs_in}
use Rattle.otlp_json.specs.Line.{text_json, number_json, truth_json, list_json, object_json, one_json, values_json, is_word, double_json, value_step, pairs_step, values_step, value_json, pair_json}
use Rattle.otlp_json.specs.WellFormed.{holds, IsValue, plus, Within, only_values, sizes, values_in_value, values_in_pairs, values_in_items}
use Rattle.otlp_json.proofs.PlaceFree.{members_in-Object, items_in-List}
use Rattle.otlp_json.proofs.FieldsBack.{text_back, truth_back, i64_back, double_back, bytes_back}
use Rattle.otlp_json.proofs.ValueJson.{value_json-Empty, value_json-Text, value_json-Truth, value_json-Int, value_json-Double, value_json-Bytes, value_json-List, value_json-Map}
use Rattle.otlp_json.proofs.Counting.{plus-none, plus-assoc, within-first, within-rest, one_value-is, count-Empty, count-Text, count-Truth, count-Int, count-Double, count-Bytes, count-List, count-Map, sizes-values, sizes-pairs}

-- Lists.

module _ {X : Type 0} (one : Reader X) (json : X → Json) (size : X → Counts) where
  -- what is written is read again, and counted
  abbrev pub Back : X → Type 0
  Back x = (n : Counts) → Within (plus n (size x)) → one (json x) n ≡ Ok (x, plus n (size x))

  pub each-back : (xs : List X) → All Back xs → (done : List X) (n : Counts) → Within (plus n (sizes size xs))
      → each one done (map json xs) n ≡ Ok (done ++ xs, plus n (sizes size xs))
  each-back [] all done n fits =
      ap (λ (l : List X). Ok (l, n)) (sym (append-nil done)) ∙ ap (λ (m : Counts). Ok (done ++ [], m)) (sym (plus-none n))
  each-back (x ∷ xs) all done n fits =
      let rest = sizes size xs in
      ap (λ (r : Read (X × Counts)). r >>= λ p. each one (done ++ p.0 ∷ []) (map json xs) p.1) (All-head Back x xs all n (within-first n (size x) rest fits))
      ∙ each-back xs (All-tail Back x xs all) (done ++ x ∷ []) (plus n (size x)) (within-rest n (size x) rest fits)
      ∙ ap (λ (l : List X). Ok (l, plus (plus n (size x)) rest)) (append_assoc done (x ∷ []) xs)
      ∙ ap (λ (m : Counts). Ok (done ++ x ∷ xs, m)) (plus-assoc n (size x) rest)

-- Values.

step-some : (layer : Value-F Json (List Json) (List Json)) → is_null (value_step layer) ≡ false
step-some Value-F.Empty = is_null-Object (object_json []) [] refl
step-some (Value-F.Text text) = is_null-Object (value_step (Value-F.Text text)) _ refl
step-some (Value-F.Truth truth) = is_null-Object (value_step (Value-F.Truth truth)) _ refl
step-some (Value-F.Int int) = is_null-Object (value_step (Value-F.Int int)) _ refl
step-some (Value-F.Double spelling) = is_null-Object (value_step (Value-F.Double spelling)) _ refl
step-some (Value-F.Bytes bytes) = is_null-Object (value_step (Value-F.Bytes bytes)) _ refl
step-some (Value-F.List js) = is_null-Object (value_step (Value-F.List js)) _ refl
step-some (Value-F.Map js) = is_null-Object (value_step (Value-F.Map js)) _ refl

-- a value is written as an object
pub value_json-some : (v : Value) → is_null (value_json v) ≡ false
unfolding value_json
value_json-some v = rw (fold_out-Value Json (List Json) (List Json) value_step pairs_step values_step v) (step-some _)

abbrev pub size_of_value : Value → Counts
size_of_value v = only_values (values_in_value v)

abbrev pub size_of_pair : List ℕ × Value → Counts
size_of_pair p = only_values (values_in_value p.1)

-- an object with one of the seven members
one-back : (levels : ℕ) (key : List ℕ) (j : Json) (n m : Counts) (x : Value) → is_value_key key ≡ true → is_null j ≡ false → n.values < most_values
    → by_key (value_table levels (value_in levels)) key j values.Empty (plus n (only_values 1)) ≡ Ok (x, m) → value_in (suc levels) (one_json key j) n ≡ Ok (x, m)
unfolding value_in
one-back levels key j n m x known some room read =
    rw (one_value-is levels 0 n room, members_in-Object (one_json key j) ((key, j) ∷ []) refl, known, some) read

double-some : (s : List ℕ) (t : Bool) → is_null (cond t (text_json s) (number_json s)) ≡ false
double-some s true = is_null-Text (text_json s) s refl
double-some s false = is_null-Number (number_json s) s refl

-- Pairs, where values are read back.

module _ (levels : ℕ) (value : Reader Value) where
  pub pair-back : (p : List ℕ × Value) → Back value value_json size_of_value p.1 → Back (pair_by levels value) pair_json size_of_pair p
  pair-back p back n fits =
      rw (
        members_in-Object (pair_json p) ((codes "key", text_json p.0) ∷ (codes "value", value_json p.1) ∷ []) refl,
        value_json-some p.1,
        is_null-Text (text_json p.0) p.0 refl,
        text_back p.0,
        value_json-some p.1,
        back n fits,
      ) refl

  -- what `kvlistValue` and `attributes` hold
  pub pairs-back : (ps : List (List ℕ × Value)) → All (Back (pair_by levels value) pair_json size_of_pair) ps → (n : Counts)
      → Within (plus n (only_values (values_in_pairs ps)))
      → pairs_by levels value (list_json (map pair_json ps)) n ≡ Ok (record { items = ps }, plus n (only_values (values_in_pairs ps)))
  pairs-back ps all n fits =
      rw (
        items_in-List (list_json (map pair_json ps)) (map pair_json ps) refl,
        each-back (pair_by levels value) pair_json size_of_pair ps all [] n (rw (sizes-pairs ps) fits),
        sizes-pairs ps,
      ) refl

  values-back : (vs : List Value) → All (Back value value_json size_of_value) vs → (n : Counts) → Within (plus n (only_values (values_in_items vs)))
      → values_by value (list_json (map value_json vs)) n ≡ Ok (record { items = vs }, plus n (only_values (values_in_items vs)))
  values-back vs all n fits =
      rw (
        items_in-List (list_json (map value_json vs)) (map value_json vs) refl,
        each-back value value_json size_of_value vs all [] n (rw (sizes-values vs) fits),
        sizes-values vs,
      ) refl

  array-back : (vs : List Value) → All (Back value value_json size_of_value) vs → (n : Counts) → Within (plus n (only_values (values_in_items vs)))
      → object (array_table value) (record { items = [] }) (values_json (map value_json vs)) n ≡ Ok (record { items = vs }, plus n (only_values (values_in_items vs)))
  array-back [] all n fits = rw (members_in-Object (values_json []) [] refl) (ap (λ (m : Counts). Ok (record { items = [] }, m)) (sym (plus-none n)))
  array-back (v ∷ vs) all n fits =
      let js = map value_json (v ∷ vs) in
      rw (members_in-Object (values_json js) ((codes "values", list_json js) ∷ []) refl, is_null-List (list_json js) js refl, values-back (v ∷ vs) all n fits) refl

  map-back : (ps : List (List ℕ × Value)) → All (Back (pair_by levels value) pair_json size_of_pair) ps → (n : Counts) → Within (plus n (only_values (values_in_pairs ps)))
      → object (map_table levels value) (record { items = [] }) (values_json (map pair_json ps)) n ≡ Ok (record { items = ps }, plus n (only_values (values_in_pairs ps)))
  map-back [] all n fits = rw (members_in-Object (values_json []) [] refl) (ap (λ (m : Counts). Ok (record { items = [] }, m)) (sym (plus-none n)))
  map-back (p ∷ ps) all n fits =
      let js = map pair_json (p ∷ ps) in
      rw (members_in-Object (values_json js) ((codes "values", list_json js) ∷ []) refl, is_null-List (list_json js) js refl, pairs-back (p ∷ ps) all n fits) refl

-- By kinds.

room_for : (n : Counts) (k : ℕ) → Within (plus n (only_values k)) → 1 ≤ k → n.values < most_values
room_for n k fits some = omega (arith, fits.2)

abbrev BackValue : ℕ → Value → Type 0
BackValue levels = Back (value_in levels) value_json size_of_value

one_by : (levels : ℕ) (v : Value) (key : List ℕ) (j : Json) → is_value_key key ≡ true → is_null j ≡ false → value_json v ≡ one_json key j → values_in_value v ≡ 1
    → ((m : Counts) → by_key (value_table levels (value_in levels)) key j values.Empty m ≡ Ok (v, m)) → BackValue (suc levels) v
one_by levels v key j known some written counted read n fits =
    let room : n.values < most_values = room_for n (values_in_value v) fits (omega (arith, counted)) in
    rw (written, counted) (one-back levels key j n (plus n (only_values 1)) v known some room (read (plus n (only_values 1))))

layer-back : (levels : ℕ) (v : Value) (layer : Value-F Value Pairs Values) → v ≡ roll-Value layer → holds (IsValue levels) layer
    → ((w : Value) → IsValue levels w → BackValue levels w) → BackValue (suc levels) v
unfolding value_in is_value_key
layer-back levels v Value-F.Empty is good below n fits =
    let e : v ≡ values.Empty = is ∙ values.rolls-Empty in
    let counted : values_in_value v ≡ 1 = ap values_in_value e ∙ count-Empty in
    let room : n.values < most_values = room_for n (values_in_value v) fits (omega (arith, counted)) in
    rw (counted, e, value_json-Empty, one_value-is levels 0 n room, members_in-Object (object_json []) [] refl) refl
layer-back levels v (Value-F.Text t) is good below n fits =
    let e : v ≡ values.Text t = is ∙ values.rolls-Text t in
    one_by levels v (codes "stringValue") (text_json t) refl (is_null-Text (text_json t) t refl) (ap value_json e ∙ value_json-Text t) (ap values_in_value e ∙ count-Text t)
    (λ m. rw (text_back t, e) refl) n fits
layer-back levels v (Value-F.Truth b) is good below n fits =
    let e : v ≡ values.Truth b = is ∙ values.rolls-Truth b in
    one_by levels v (codes "boolValue") (truth_json b) refl (is_null-Truth (truth_json b) b refl) (ap value_json e ∙ value_json-Truth b) (ap values_in_value e ∙ count-Truth b)
    (λ m. rw (truth_back b, e) refl) n fits
layer-back levels v (Value-F.Int i) is good below n fits =
    let e : v ≡ values.Int i = is ∙ values.rolls-Int i in
    let t = signed_decimal i in
    one_by levels v (codes "intValue") (text_json t) refl (is_null-Text (text_json t) t refl) (ap value_json e ∙ value_json-Int i) (ap values_in_value e ∙ count-Int i)
    (λ m. rw (i64_back i good, e) refl) n fits
layer-back levels v (Value-F.Double s) is good below n fits =
    let e : v ≡ values.Double s = is ∙ values.rolls-Double s in
    one_by levels v (codes "doubleValue") (double_json s) refl (double-some s (is_word s)) (ap value_json e ∙ value_json-Double s) (ap values_in_value e ∙ count-Double s)
    (λ m. rw (double_back s good, e) refl) n fits
layer-back levels v (Value-F.Bytes b) is good below n fits =
    let e : v ≡ values.Bytes b = is ∙ values.rolls-Bytes b in
    let t = base64.encode_of standard b in
    one_by levels v (codes "bytesValue") (text_json t) refl (is_null-Text (text_json t) t refl) (ap value_json e ∙ value_json-Bytes b) (ap values_in_value e ∙ count-Bytes b)
    (λ m. rw (bytes_back b good, e) refl) n fits
layer-back levels v (Value-F.List vs) is good below n fits =
    let e : v ≡ values.List vs = is ∙ values.rolls-List vs in
    let xs = items vs in
    let below_it = only_values (values_in_items xs) in
    let counted : values_in_value v ≡ 1 + values_in_items xs = ap values_in_value e ∙ count-List vs in
    let room : n.values < most_values = room_for n (values_in_value v) fits (omega (arith, counted)) in
    let all : All (BackValue levels) xs = All-weaker (IsValue levels) (BackValue levels) below xs good in
    let inside : Within (plus (plus n (only_values 1)) below_it) = within-rest n (only_values 1) below_it (rw counted at fits) in
    let json = values_json (map value_json xs) in
    rw (counted, e, value_json-List vs)
    (one-back levels (codes "arrayValue") json n (plus n (plus (only_values 1) below_it)) (values.List vs) refl (is_null-Object json _ refl) room
    (ap (λ (r : Read (Values × Counts)). r >>= λ p. Ok (values.List p.0, p.1)) (array-back levels (value_in levels) xs all (plus n (only_values 1)) inside)
    ∙ ap (λ (m : Counts). Ok (values.List vs, m)) (plus-assoc n (only_values 1) below_it)))
layer-back levels v (Value-F.Map ps) is good below n fits =
    let e : v ≡ values.Map ps = is ∙ values.rolls-Map ps in
    let xs = pairs ps in
    let below_it = only_values (values_in_pairs xs) in
    let counted : values_in_value v ≡ 1 + values_in_pairs xs = ap values_in_value e ∙ count-Map ps in
    let room : n.values < most_values = room_for n (values_in_value v) fits (omega (arith, counted)) in
    let all : All (Back (pair_by levels (value_in levels)) pair_json size_of_pair) xs =
    All-weaker (λ (p : List ℕ × Value). IsUtf8 p.0 × IsValue levels p.1) (Back (pair_by levels (value_in levels)) pair_json size_of_pair)
    (λ p h. pair-back levels (value_in levels) p (below p.1 h.1)) xs good in
    let inside : Within (plus (plus n (only_values 1)) below_it) = within-rest n (only_values 1) below_it (rw counted at fits) in
    let json = values_json (map pair_json xs) in
    rw (counted, e, value_json-Map ps)
    (one-back levels (codes "kvlistValue") json n (plus n (plus (only_values 1) below_it)) (values.Map ps) refl (is_null-Object json _ refl) room
    (ap (λ (r : Read (Pairs × Counts)). r >>= λ p. Ok (values.Map p.0, p.1)) (map-back levels (value_in levels) xs all (plus n (only_values 1)) inside)
    ∙ ap (λ (m : Counts). Ok (values.Map ps, m)) (plus-assoc n (only_values 1) below_it)))

-- a value of so many levels is read again as the same value
pub value-back : (levels : ℕ) (v : Value) → IsValue levels v → BackValue levels v
unfolding IsValue
value-back zero v good = absurd good
value-back (suc levels) v good = layer-back levels v (out-Value v) (sym (roll-out-Value v)) good (λ w h. value-back levels w h)

-- attributes are read again as the same attributes
pub attributes-back : (levels : ℕ) (map_of : Pairs) → All (λ (p : List ℕ × Value). IsUtf8 p.0 × IsValue levels p.1) (pairs map_of) → (n : Counts)
    → Within (plus n (only_values (values_in_pairs (pairs map_of))))
    → pairs_in levels (list_json (map pair_json (pairs map_of))) n ≡ Ok (map_of, plus n (only_values (values_in_pairs (pairs map_of))))
unfolding pairs_in
attributes-back levels map_of good n fits =
    let all = All-weaker (λ (p : List ℕ × Value). IsUtf8 p.0 × IsValue levels p.1) (Back (pair_by levels (value_in levels)) pair_json size_of_pair)
    (λ p h. pair-back levels (value_in levels) p (value-back levels p.1 h.1)) (pairs map_of) good in
    pairs-back levels (value_in levels) (pairs map_of) all n fits
