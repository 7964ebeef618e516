use Rattle.std.proofs.Common.{arith}
use Rattle.ottl_lex.proofs.Digits.{digit_counts}
use Rattle.ottl_lex.proofs.numbers.read_digits.Goals as goal

-- a number that takes more than 64 bits keeps to it with every further digit
pub returns-in_err-checked_mul : goal.returns-in_err-checked_mul
returns-in_err-checked_mul c =
    let least = digit_counts c.loop-digit.value c.loop-digit.digit-index c.args.digits.now c.loop-digit-test.true in
    rw c.from_residual.ensures (λ fits. c.in_err-checked_mul.ensures (omega (arith, least, c.loop-digit.invariant.value)))

pub returns-in_err-value : goal.returns-in_err-value
returns-in_err-value c =
    let least = digit_counts c.loop-digit.value c.loop-digit.digit-index c.args.digits.now c.loop-digit-test.true in
    rw c.from_residual-in_err-value.ensures (λ fits. c.in_err-value.ensures (omega (arith, least, c.loop-digit.invariant.value, c.digit_value.ensures.value, c.in_ok-checked_mul.ensures)))
