-- How two values are compared, row by row of the table of comparisons in docs/OTTL.md.
use Rattle.std.specs.Prelude.{Bool, true, false, ◌||◌, not, cond, Result, Ok, Err}
use Rattle.std.specs.Ordering.{is_eq, is_ne, is_lt, is_le, is_gt, is_ge, bool_cmp, int_cmp, nat_cmp}
use Rattle.std.specs.Cmp.Lexicographic.{slice_cmp}
use Rattle.std.specs.declared.cmp.Ordering.{Ordering}
use Rattle.std.specs.declared.cmp.Ordering.TheVariants as order
use Rattle.ottl_parse.specs.declared.sign.Sign.{Sign}
use Rattle.ottl_parse.specs.declared.sign.Sign.TheVariants.{Equal, Unequal, Less, AtMost, Greater, AtLeast}
use Rattle.pdata_value.specs.Doubles.{has_double}
use Rattle.pdata_value.specs.Same.{same}
use Rattle.pdata_value.specs.Wanted.{Layer}
use Rattle.pdata_value.specs.declared.error.EvalErr.{EvalErr}
use Rattle.pdata_value.specs.declared.error.EvalErr.TheVariants as error
use Rattle.pdata_value.specs.declared.value.Value.{Value, out-Value}
use Rattle.pdata_value.specs.declared.value.Value.TheOpen.{Value-F}

-- what a sign says of an order; a sign of arithmetic says nothing
abbrev pub decides : Sign → Ordering → Bool
decides Equal o = is_eq o
decides Unequal o = is_ne o
decides Less o = is_lt o
decides AtMost o = is_le o
decides Greater o = is_gt o
decides AtLeast o = is_ge o
decides _ o = false

-- what a sign says of two things that are the same or not, and have no order
abbrev pub by_same : Sign → Bool → Bool
by_same Equal alike = alike
by_same Unequal alike = not alike
by_same _ alike = false

-- two lists or two maps: a double anywhere in either is Double
abbrev pub compared_whole : Sign → Value → Value → Result Bool EvalErr
compared_whole sign left right =
    cond (has_double left || has_double right) (Err error.Double)
    (Ok (by_same sign (same left right)))

-- two values by their kinds
abbrev pub compared_layers : Sign → Value → Value → Layer → Layer → Result Bool EvalErr
compared_layers sign left right (Value-F.Double a) (Value-F.Double b) = Err error.Double
compared_layers sign left right (Value-F.Double a) (Value-F.Int b) = Err error.Double
compared_layers sign left right (Value-F.Int a) (Value-F.Double b) = Err error.Double
compared_layers sign left right (Value-F.List a) (Value-F.List b) = compared_whole sign left right
compared_layers sign left right (Value-F.Map a) (Value-F.Map b) = compared_whole sign left right
compared_layers sign left right Value-F.Empty Value-F.Empty = Ok (decides sign order.Equal)
compared_layers sign left right (Value-F.Int a) (Value-F.Int b) = Ok (decides sign (int_cmp a b))
compared_layers sign left right (Value-F.Text a) (Value-F.Text b) =
    Ok (decides sign (slice_cmp nat_cmp a b))
compared_layers sign left right (Value-F.Bytes a) (Value-F.Bytes b) =
    Ok (decides sign (slice_cmp nat_cmp a b))
compared_layers sign left right (Value-F.Truth a) (Value-F.Truth b) =
    Ok (decides sign (bool_cmp a b))
compared_layers sign left right _ _ = Ok (by_same sign false)

-- whether two values compare as a sign says
abbrev pub compared : Sign → Value → Value → Result Bool EvalErr
compared sign left right = compared_layers sign left right (out-Value left) (out-Value right)
