-- Whether a double stands anywhere in a value.
use Rattle.std.specs.Prelude.{ℕ, Bool, true, false, ◌||◌, List, [], ◌∷◌, map}
use Rattle.pdata_value.specs.declared.value.Value.{Value}
use Rattle.pdata_value.specs.declared.value.Value.TheOpen.{Value-F, Pairs-F, Values-F}
use Rattle.pdata_value.specs.declared.value.Value.TheFolds.{fold-Value}

-- whether some truth of a list holds
abbrev pub some_of : List Bool → Bool
some_of [] = false
some_of (b ∷ bs) = b || some_of bs

-- a value whose elements have a double or not: a double itself, a list or a map of which an element
-- has one
abbrev pub double_step : Value-F Bool Bool Bool → Bool
double_step (Value-F.Double spelling) = true
double_step (Value-F.List within) = within
double_step (Value-F.Map within) = within
double_step _ = false

-- of a map, whatever the keys
abbrev pub double_step_pairs : Pairs-F Bool Bool Bool → Bool
double_step_pairs map_of = some_of (map (λ p. p.1) map_of.items)

-- of a list
abbrev pub double_step_values : Values-F Bool Bool Bool → Bool
double_step_values list = some_of list.items

-- whether the value is a double, or has one in it
unfoldable pub has_double : Value → Bool
has_double = fold-Value Bool Bool Bool double_step double_step_pairs double_step_values

-- whether one of the values has a double
abbrev pub some_has_double : List Value → Bool
some_has_double [] = false
some_has_double (v ∷ vs) = has_double v || some_has_double vs

-- whether the value of one of the pairs has a double
abbrev pub some_pair_has_double : List (List ℕ × Value) → Bool
some_pair_has_double [] = false
some_pair_has_double (p ∷ ps) = has_double p.1 || some_pair_has_double ps
