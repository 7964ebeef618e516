use Rattle.pdata_value.proofs.Numerals.{spelled_is}
use Rattle.otlp_json.proofs.Standing.{double-by-text}
use Rattle.otlp_json.proofs.direct.fields.double_in_text.Goals as goal

pub returns-in-Ok-clause-stands : goal.returns-in-Ok-clause-stands
returns-in-Ok-clause-stands c =
    rw c.in-Ok.ensures.value (double-by-text c.args.depth c.args.direct.now c.plain.new.direct c.in_ok-spelled.spelled.now (spelled_is _ c.in-Ok.ensures.spelling) c.in_ok-spelled.ensures.stands)
