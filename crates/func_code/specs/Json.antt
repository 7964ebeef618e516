-- Values of JSON as values of attributes.
use Rattle.std.specs.Prelude.{ℕ, ℤ, List, [], Option, Some, None}
use Rattle.json_text.specs.declared.json.Json.{Json}
use Rattle.json_text.specs.declared.json.JsonKind.TheOpen.{JsonKind-F, Json-F}
use Rattle.json_text.specs.declared.json.JsonKind.TheFolds.{fold-Json}
use Rattle.pdata_value.specs.Pairs.{put_all}
use Rattle.pdata_value.specs.declared.value.Value.{Value}
use Rattle.pdata_value.specs.declared.value.Value.TheVariants as kind
use Rattle.func_text.specs.Texts.{spelled_int}
use Rattle.pdata_value.specs.Wanted.{list_of, map_of}

-- a numeral as the integer that it spells, or as a double by its spelling
abbrev pub int_or_double : List ℕ → Option ℤ → Value
int_or_double numeral None = kind.Double numeral
int_or_double numeral (Some int) = kind.Int int

-- a numeral without fraction and exponent within 64 bits signed is an integer, another a double
abbrev pub number_of : List ℕ → Value
number_of numeral = int_or_double numeral (spelled_int numeral)

-- the value of one whose elements are these values: null is nil, and an object puts its members in
-- order
abbrev pub kind_step : JsonKind-F Value Value → Value
kind_step JsonKind-F.Null = kind.Empty
kind_step (JsonKind-F.Truth truth) = kind.Truth truth
kind_step (JsonKind-F.Number numeral) = number_of numeral
kind_step (JsonKind-F.Text text) = kind.Text text
kind_step (JsonKind-F.List values) = list_of values
kind_step (JsonKind-F.Object members) = map_of (put_all [] members)

-- a value of JSON is what its kind stands for
abbrev pub json_step : Json-F Value Value → Value
json_step json = json.kind

-- the value of a value of JSON
unfoldable pub value_of : Json → Value
value_of = fold-Json Value Value kind_step json_step

-- a member with its value
abbrev pub member_of : List ℕ × Json → List ℕ × Value
member_of m = (m.0, value_of m.1)
