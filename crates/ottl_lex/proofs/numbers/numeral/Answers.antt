use Rattle.std.proofs.Common.{◌<◌, arith}
use Rattle.ottl_lex.proofs.Digits.{digit_room}
use Rattle.ottl_lex.proofs.numbers.numeral.Goals as goal

-- at most eight digits of at most four bits
pub overflow_mul-value : goal.overflow_mul-value
overflow_mul-value c =
    let few : c.loop-digit.digit-index < 8 = omega (arith, c.in_ok-digits.ensures.lookup.0.3) in
    let room = digit_room c.args.base c.loop-digit.value 0 c.loop-digit.digit-index c.requires.base.1 c.loop-digit.invariant.small (omega arith) few in
    omega (arith, room.0, room.1)

pub overflow_add-value : goal.overflow_add-value
overflow_add-value c =
    let few : c.loop-digit.digit-index < 8 = omega (arith, c.in_ok-digits.ensures.lookup.0.3) in
    let digit : c.in_ok-value.field-0 < c.args.base = omega (arith, c.in_ok-value.ensures.value.0, c.in_ok-value.ensures.value.1) in
    let room = digit_room c.args.base c.loop-digit.value c.in_ok-value.field-0 c.loop-digit.digit-index c.requires.base.1 c.loop-digit.invariant.small digit few in
    omega (arith, room.0, room.1)
