use Rattle.std.proofs.Common.{◌^◌}
use Rattle.otlp_json.specs.declared.error.PayloadKind.TheVariants.{BadNumber}
use Rattle.otlp_json.specs.Fields.{spelled_in, u32_in, below, whole}
use Rattle.otlp_json.proofs.Standing.{given-stands}
use Rattle.otlp_json.proofs.direct.fields.u32_next.Goals as goal

pub returns-clause-stands : goal.returns-clause-stands
unfolding u32_in
returns-clause-stands c =
    given-stands BadNumber spelled_in (λ t. below (2 ^ 32) (whole t)) c.args.depth c.args.direct.now c.spelled.new.direct c.in_ok-spelled.spelled.now c.given.result
    (rw c.small_unsigned_of.ensures at c.given.ensures) c.in_ok-spelled.ensures.stands
