-- IsString, IsInt, IsBool, IsDouble, IsMap and IsList: whether a value has a kind. Nil has none of
-- them.
use Rattle.std.specs.Prelude.{Bool, true, false, Result, Ok}
use Rattle.pdata_value.specs.declared.error.EvalErr.{EvalErr}
use Rattle.pdata_value.specs.declared.value.Value.{Value, out-Value}
use Rattle.pdata_value.specs.declared.value.Value.TheOpen.{Value-F}
use Rattle.pdata_value.specs.declared.value.Value.TheVariants as kind
use Rattle.pdata_value.specs.Wanted.{Layer}

-- whether a value is a text
abbrev pub text_kind : Layer → Bool
text_kind (Value-F.Text text) = true
text_kind _ = false

-- whether a value is an integer
abbrev pub int_kind : Layer → Bool
int_kind (Value-F.Int int) = true
int_kind _ = false

-- whether a value is a truth
abbrev pub truth_kind : Layer → Bool
truth_kind (Value-F.Truth truth) = true
truth_kind _ = false

-- whether a value is a double
abbrev pub double_kind : Layer → Bool
double_kind (Value-F.Double spelling) = true
double_kind _ = false

-- whether a value is a map
abbrev pub map_kind : Layer → Bool
map_kind (Value-F.Map map) = true
map_kind _ = false

-- whether a value is a list
abbrev pub list_kind : Layer → Bool
list_kind (Value-F.List list) = true
list_kind _ = false

-- IsString
abbrev pub is_string_of : Value → Result Value EvalErr
is_string_of value = Ok (kind.Truth (text_kind (out-Value value)))

-- IsInt
abbrev pub is_int_of : Value → Result Value EvalErr
is_int_of value = Ok (kind.Truth (int_kind (out-Value value)))

-- IsBool
abbrev pub is_bool_of : Value → Result Value EvalErr
is_bool_of value = Ok (kind.Truth (truth_kind (out-Value value)))

-- IsDouble
abbrev pub is_double_of : Value → Result Value EvalErr
is_double_of value = Ok (kind.Truth (double_kind (out-Value value)))

-- IsMap
abbrev pub is_map_of : Value → Result Value EvalErr
is_map_of value = Ok (kind.Truth (map_kind (out-Value value)))

-- IsList
abbrev pub is_list_of : Value → Result Value EvalErr
is_list_of value = Ok (kind.Truth (list_kind (out-Value value)))
