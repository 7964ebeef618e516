use Rattle.std.proofs.Common.{◌≡◌, ◌<◌, ◌^◌, drop}
use Rattle.ottl_lex.specs.Numbers.{are_digits, value_after, value_in}
use Rattle.ottl_lex.proofs.numbers.numeral.Given as goal

-- the digits left are judged as all of them are, and go on from the value so far
abbrev pub invariant-loop-digit : goal.invariant-loop-digit
invariant-loop-digit l = record {
  judged : are_digits l.base (drop l.digit-index l.digits) ≡ are_digits l.base l.digits;
  value : value_after l.base l.value (drop l.digit-index l.digits) ≡ value_in l.base l.digits;
  small : l.value < 16 ^ l.digit-index;
}
