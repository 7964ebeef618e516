use Rattle.std.proofs.Common.{◌≡◌, ◌^◌, ◌<◌, length}
use Rattle.otlp_json.specs.Fields.{decimal}
use Rattle.otlp_json.specs.Digits.{under}
use Rattle.otlp_json.proofs.number.decimal_of.Given as goal

-- the digits left, behind the number so far, give what all of them give
abbrev pub invariant-loop-rest : goal.invariant-loop-rest
invariant-loop-rest l = record {
  gives : under (2 ^ 64) (decimal l.n l.rest) ≡ under (2 ^ 64) (decimal 0 l.bytes);
  fits : l.n < 2 ^ 64;
}

abbrev pub decreases-loop-rest : goal.decreases-loop-rest
decreases-loop-rest l = length l.rest
