-- Arithmetic on integers of 64 bits signed.
use Rattle.std.specs.Prelude.{◌+ℤ◌, ◌-ℤ◌, ◌*ℤ◌, ℤ, pos, int_div, cond, Option, Some, None, Result, Ok, Err}
use Rattle.std.specs.Ordering.{int_eq}
use Rattle.func_text.specs.Texts.{in_64_bits}
use Rattle.ottl_parse.specs.declared.sign.Sign.{Sign}
use Rattle.ottl_parse.specs.declared.sign.Sign.TheVariants.{Plus, Minus, Times, Over}
use Rattle.pdata_value.specs.Answers.{◌>>=◌}
use Rattle.pdata_value.specs.Wanted.{int_in}
use Rattle.pdata_value.specs.declared.error.EvalErr.{EvalErr}
use Rattle.pdata_value.specs.declared.error.EvalErr.TheVariants.{KindOf, DivideByZero, Overflow}
use Rattle.pdata_value.specs.declared.value.Value.{Value}
use Rattle.pdata_value.specs.declared.value.Value.TheVariants as kind

-- a result, where it is within 64 bits signed
abbrev pub ranged : ℤ → Result ℤ EvalErr
ranged n = cond (in_64_bits n) (Ok n) (Err Overflow)

-- the result of a calculation, if it has one within 64 bits signed
abbrev pub or_overflow : Option ℤ → Result ℤ EvalErr
or_overflow (Some n) = Ok n
or_overflow None = Err Overflow

-- what a sign makes of two integers: division truncates toward zero; a sign of comparison makes
-- nothing
abbrev pub calculated : Sign → ℤ → ℤ → Result ℤ EvalErr
calculated Plus a b = ranged (a +ℤ b)
calculated Minus a b = ranged (a -ℤ b)
calculated Times a b = ranged (a *ℤ b)
calculated Over a b = cond (int_eq b (pos 0)) (Err DivideByZero) (ranged (int_div a b))
calculated _ a b = Err KindOf

-- what a sign makes of two values: both must be integers, first the left one, then the right one
abbrev pub arithmetic : Sign → Value → Value → Result Value EvalErr
arithmetic sign left right =
    int_in left >>= λ a. int_in right >>= λ b. calculated sign a b >>= λ n. Ok (kind.Int n)
