use Rattle.std.proofs.Common.{◌≡◌, ◌<◌, ◌^◌, drop}
use Rattle.ottl_lex.specs.Numbers.{value_after, digits_value}
use Rattle.ottl_lex.proofs.numbers.read_digits.Given as goal

-- the digits left go on from the value so far
abbrev pub invariant-loop-digit : goal.invariant-loop-digit
invariant-loop-digit l = record {
  value : value_after 10 l.value (drop l.digit-index l.digits) ≡ digits_value l.digits;
  fits : l.value < 2 ^ 64;
}
