-- The text of a value, as OTTL's String gives it.
use Rattle.std.specs.Prelude.{ℕ, Bool, true, false, codes, List, Option, Some, None, Result, Ok, Err}
use Rattle.std.specs.Fmt.{signed_decimal}
use Rattle.hex.specs.Hex.{encode_lower}
use Rattle.pdata_value.specs.declared.error.EvalErr.{EvalErr}
use Rattle.pdata_value.specs.declared.error.EvalErr.TheVariants.{KindOf, Double}
use Rattle.pdata_value.specs.declared.value.Value.{Value, out-Value}
use Rattle.pdata_value.specs.declared.value.Value.TheOpen.{Value-F}
use Rattle.pdata_value.specs.declared.value.Value.TheVariants as kind
use Rattle.pdata_value.specs.Answers.{◌>>=◌}
use Rattle.pdata_value.specs.Wanted.{Layer, made}

-- a truth in words
abbrev pub truth_text : Bool → List ℕ
truth_text true = codes "true"
truth_text false = codes "false"

-- the text of a value by its kind
abbrev pub shown_layer : Layer → Result (Option (List ℕ)) EvalErr
shown_layer Value-F.Empty = Ok None
shown_layer (Value-F.Text text) = Ok (Some text)
shown_layer (Value-F.Truth truth) = Ok (Some (truth_text truth))
shown_layer (Value-F.Int int) = Ok (Some (signed_decimal int))
shown_layer (Value-F.Bytes bytes) = Ok (Some (encode_lower bytes))
shown_layer (Value-F.Double spelling) = Err Double
shown_layer _ = Err KindOf

-- the text of a value: a text itself, an integer in decimal, a truth as `true` or `false`, bytes as
-- lower-case hexadecimal; nil has none, a double is Double, a list or a map is KindOf
abbrev pub shown : Value → Result (Option (List ℕ)) EvalErr
shown v = shown_layer (out-Value v)

-- a text as a value, where it fits; no text is nil
abbrev pub text_or_nil : Option (List ℕ) → Result Value EvalErr
text_or_nil None = Ok kind.Empty
text_or_nil (Some text) = made (kind.Text text)

-- String: the text of a value, as a value
abbrev pub string_of : Value → Result Value EvalErr
string_of value = shown value >>= text_or_nil
