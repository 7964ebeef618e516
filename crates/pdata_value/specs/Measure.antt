-- How deep a value is, and how much it weighs.
use Rattle.std.specs.Prelude.{ℕ, ◌+◌, ◌≤◌, max, List, [], ◌∷◌, length, map}
use Rattle.pdata_value.specs.declared.value.Value.{Value}
use Rattle.pdata_value.specs.declared.value.Value.TheOpen.{Value-F, Pairs-F, Values-F}
use Rattle.pdata_value.specs.declared.value.Value.TheFolds.{fold-Value}

-- the largest number of a list
abbrev pub largest : List ℕ → ℕ
largest [] = 0
largest (n ∷ ns) = max n (largest ns)

-- the sum of a list
abbrev pub total : List ℕ → ℕ
total [] = 0
total (n ∷ ns) = n + total ns

-- the depth of a value whose elements have these depths: 1, and below it the deepest element
abbrev pub depth_step : Value-F ℕ ℕ ℕ → ℕ
depth_step (Value-F.List below) = 1 + below
depth_step (Value-F.Map below) = 1 + below
depth_step _ = 1

abbrev pub depth_step_pairs : Pairs-F ℕ ℕ ℕ → ℕ
depth_step_pairs map_of = largest (map (λ p. p.1) map_of.items)

abbrev pub depth_step_values : Values-F ℕ ℕ ℕ → ℕ
depth_step_values list = largest list.items

-- 1 for a value without elements, else 1 plus the greatest depth of an element
unfoldable pub depth : Value → ℕ
depth = fold-Value ℕ ℕ ℕ depth_step depth_step_pairs depth_step_values

-- the greatest depth of the values of a list
abbrev pub depth_of_items : List Value → ℕ
depth_of_items [] = 0
depth_of_items (v ∷ vs) = max (depth v) (depth_of_items vs)

-- the greatest depth of the values of a map
abbrev pub depth_of_pairs : List (List ℕ × Value) → ℕ
depth_of_pairs [] = 0
depth_of_pairs (p ∷ ps) = max (depth p.1) (depth_of_pairs ps)

-- the weight of a value whose elements have these weights: 1, and the bytes that it holds itself
abbrev pub weight_step : Value-F ℕ ℕ ℕ → ℕ
weight_step Value-F.Empty = 1
weight_step (Value-F.Text bytes) = 1 + length bytes
weight_step (Value-F.Truth truth) = 1
weight_step (Value-F.Int int) = 1
weight_step (Value-F.Double bytes) = 1 + length bytes
weight_step (Value-F.Bytes bytes) = 1 + length bytes
weight_step (Value-F.List below) = 1 + below
weight_step (Value-F.Map below) = 1 + below

abbrev pub weight_step_pairs : Pairs-F ℕ ℕ ℕ → ℕ
weight_step_pairs map_of = total (map (λ p. length p.0 + p.1) map_of.items)

abbrev pub weight_step_values : Values-F ℕ ℕ ℕ → ℕ
weight_step_values list = total list.items

-- 1 for each value, and the bytes of each text, byte value, spelling and key
unfoldable pub weight : Value → ℕ
weight = fold-Value ℕ ℕ ℕ weight_step weight_step_pairs weight_step_values

-- the weight of the values of a list
abbrev pub weight_of_items : List Value → ℕ
weight_of_items [] = 0
weight_of_items (v ∷ vs) = weight v + weight_of_items vs

-- the weight of the keys and values of a map
abbrev pub weight_of_pairs : List (List ℕ × Value) → ℕ
weight_of_pairs [] = 0
weight_of_pairs (p ∷ ps) = length p.0 + weight p.1 + weight_of_pairs ps

-- no deeper and no heavier than is allowed
abbrev pub Fits : Value → Type 0
Fits v = (depth v ≤ 64) × (weight v ≤ 16777216)
