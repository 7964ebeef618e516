-- Values as contracts see them: the generated types, in which a list of values or pairs is a record
-- of one list.
use Rattle.std.specs.Prelude.{ℕ, List}
use Rattle.pdata_value.specs.declared.value.Value.{Value}
use Rattle.pdata_value.specs.declared.values.Values.{Values, out-Values}
use Rattle.pdata_value.specs.declared.pairs.Pairs.{Pairs, out-Pairs}

-- the values of a list
abbrev pub items : Values → List Value
items list = (out-Values list).items

-- the pairs of a map
abbrev pub pairs : Pairs → List (List ℕ × Value)
pairs map = (out-Pairs map).items
