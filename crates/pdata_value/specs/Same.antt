-- When two values are the same: doubles by spelling, maps by the first value of each key, all else
-- by content.
use Rattle.std.specs.Prelude.{ℕ, Bool, true, false, ◌&&◌, List, [], ◌∷◌, Option, Some, None}
use Rattle.std.specs.Str.{bytes_eq}
use Rattle.std.specs.Bool.{beq}
use Rattle.std.specs.Ordering.{int_eq}
use Rattle.pdata_value.specs.Value.{items, pairs}
use Rattle.pdata_value.specs.Pairs.{get}
use Rattle.pdata_value.specs.declared.value.Value.{Value, out-Value}
use Rattle.pdata_value.specs.declared.values.Values.{Values}
use Rattle.pdata_value.specs.declared.pairs.Pairs.{Pairs}
use Rattle.pdata_value.specs.declared.value.Value.TheOpen.{Value-F, Values-F, Pairs-F}
use Rattle.pdata_value.specs.declared.value.Value.TheFolds.{fold-Value}

-- Below, a test for an element stands in its place: it tells whether another value is the same.

-- element by element
abbrev pub all_same : List (Value → Bool) → List Value → Bool
all_same [] [] = true
all_same [] (w ∷ ws) = false
all_same (is ∷ tests) [] = false
all_same (is ∷ tests) (w ∷ ws) = is w && all_same tests ws

-- two answers for one key
abbrev pub answer_same : Option (Value → Bool) → Option Value → Bool
answer_same None None = true
answer_same None (Some w) = false
answer_same (Some is) None = false
answer_same (Some is) (Some w) = is w

-- at each key of a list of pairs both maps have the same first value
abbrev pub same_at : {V : Type 0} → List (List ℕ × V) → List (List ℕ × (Value → Bool))
    → List (List ℕ × Value) → Bool
same_at [] tests others = true
same_at (p ∷ ps) tests others =
    answer_same (get tests p.0) (get others p.0) && same_at ps tests others

-- the same keys, with the same first values
abbrev pub map_same : List (List ℕ × (Value → Bool)) → List (List ℕ × Value) → Bool
map_same tests others = same_at tests tests others && same_at others tests others

-- the same kind and content
abbrev pub layer_same : Value-F (Value → Bool) (Pairs → Bool) (Values → Bool)
    → Value-F Value Pairs Values → Bool
layer_same Value-F.Empty Value-F.Empty = true
layer_same (Value-F.Text a) (Value-F.Text b) = bytes_eq a b
layer_same (Value-F.Truth a) (Value-F.Truth b) = beq a b
layer_same (Value-F.Int a) (Value-F.Int b) = int_eq a b
layer_same (Value-F.Double a) (Value-F.Double b) = bytes_eq a b
layer_same (Value-F.Bytes a) (Value-F.Bytes b) = bytes_eq a b
layer_same (Value-F.List is) (Value-F.List list) = is list
layer_same (Value-F.Map is) (Value-F.Map map) = is map
layer_same _ _ = false

abbrev pub same_step : Value-F (Value → Bool) (Pairs → Bool) (Values → Bool) → Value → Bool
same_step layer other = layer_same layer (out-Value other)

abbrev pub same_step_pairs : Pairs-F (Value → Bool) (Pairs → Bool) (Values → Bool) → Pairs → Bool
same_step_pairs map other = map_same map.items (pairs other)

abbrev pub same_step_values : Values-F (Value → Bool) (Pairs → Bool) (Values → Bool) → Values → Bool
same_step_values list other = all_same list.items (items other)

unfoldable pub same : Value → Value → Bool
same = fold-Value (Value → Bool) (Pairs → Bool)
    (Values → Bool) same_step same_step_pairs same_step_values

-- What the definition comes to on lists and on maps.

-- element by element
abbrev pub same_items : List Value → List Value → Bool
same_items [] [] = true
same_items [] (w ∷ ws) = false
same_items (v ∷ vs) [] = false
same_items (v ∷ vs) (w ∷ ws) = same v w && same_items vs ws

-- both are there and the same, or neither is there
abbrev pub same_answer : Option Value → Option Value → Bool
same_answer None None = true
same_answer None (Some w) = false
same_answer (Some v) None = false
same_answer (Some v) (Some w) = same v w

-- at each of these keys both maps have the same first value
abbrev pub same_keys : List (List ℕ × Value) → List (List ℕ × Value) → List (List ℕ × Value) → Bool
same_keys [] ps qs = true
same_keys (k ∷ ks) ps qs = same_answer (get ps k.0) (get qs k.0) && same_keys ks ps qs

-- the same keys, with the same first values
abbrev pub same_pairs : List (List ℕ × Value) → List (List ℕ × Value) → Bool
same_pairs ps qs = same_keys ps ps qs && same_keys qs ps qs
