use Rattle.std.proofs.Common.{◌^◌}
use Rattle.otlp_json.specs.declared.error.PayloadKind.TheVariants.{BadNumber}
use Rattle.otlp_json.specs.Fields.{numeral_in, i32_in, around, whole}
use Rattle.otlp_json.proofs.Standing.{given-stands}
use Rattle.otlp_json.proofs.direct.fields.i32_next.Goals as goal

pub returns-clause-stands : goal.returns-clause-stands
unfolding i32_in
returns-clause-stands c =
    given-stands BadNumber numeral_in (λ t. around (2 ^ 31) (whole t)) c.args.depth c.args.direct.now c.numeral.new.direct c.in_ok-spelled.spelled.now c.given.result
    (rw c.small_signed_of.ensures at c.given.ensures) c.in_ok-spelled.ensures.stands
