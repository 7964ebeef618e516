-- Arguments of a kind, and values that are made.
use Rattle.std.specs.Prelude.{ℕ, ℤ, Bool, ◌&&◌, nat_le, cond, List, map, Result, Ok, Err}
use Rattle.pdata_value.specs.Value.{items}
use Rattle.pdata_value.specs.Measure.{depth, weight}
use Rattle.pdata_value.specs.declared.error.EvalErr.{EvalErr}
use Rattle.pdata_value.specs.declared.error.EvalErr.TheVariants.{NilArgument, KindOf, Double, Large}
use Rattle.pdata_value.specs.declared.pairs.Pairs.{Pairs}
use Rattle.pdata_value.specs.declared.value.Value.{Value, out-Value}
use Rattle.pdata_value.specs.declared.value.Value.TheOpen.{Value-F}
use Rattle.pdata_value.specs.declared.value.Value.TheVariants as kind
use Rattle.pdata_value.specs.declared.values.Values.{Values}

-- a value with one layer taken apart
abbrev pub Layer : Type 0
Layer = Value-F Value Pairs Values

-- a value that isn't of the wanted kind: nil is NilArgument, a double is Double, another kind is
-- KindOf
abbrev pub not_wanted : {X : Type 0} → Layer → Result X EvalErr
not_wanted Value-F.Empty = Err NilArgument
not_wanted (Value-F.Double spelling) = Err Double
not_wanted _ = Err KindOf

-- the text that is wanted, by kind
abbrev pub text_layer : Layer → Result (List ℕ) EvalErr
text_layer (Value-F.Text text) = Ok text
text_layer other = not_wanted other

-- the text that is wanted
abbrev pub text_in : Value → Result (List ℕ) EvalErr
text_in v = text_layer (out-Value v)

-- the integer that is wanted, by kind
abbrev pub int_layer : Layer → Result ℤ EvalErr
int_layer (Value-F.Int int) = Ok int
int_layer other = not_wanted other

-- the integer that is wanted
abbrev pub int_in : Value → Result ℤ EvalErr
int_in v = int_layer (out-Value v)

-- the list that is wanted, by kind
abbrev pub list_layer : Layer → Result (List Value) EvalErr
list_layer (Value-F.List list) = Ok (items list)
list_layer other = not_wanted other

-- the elements of the list that is wanted
abbrev pub list_in : Value → Result (List Value) EvalErr
list_in v = list_layer (out-Value v)

-- no deeper and no heavier than is allowed
abbrev pub fits : Value → Bool
fits v = nat_le (depth v) 64 && nat_le (weight v) 16777216

-- a value that is made: one that doesn't fit is Large
abbrev pub made : Value → Result Value EvalErr
made v = cond (fits v) (Ok v) (Err Large)

-- the list of these values
abbrev pub list_of : List Value → Value
list_of vs = kind.List (record { items = vs })

-- the map of these pairs
abbrev pub map_of : List (List ℕ × Value) → Value
map_of ps = kind.Map (record { items = ps })

-- the list of these texts
abbrev pub texts_of : List (List ℕ) → Value
texts_of ts = list_of (map (λ t. kind.Text t) ts)
