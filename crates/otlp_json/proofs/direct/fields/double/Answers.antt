use Rattle.otlp_json.proofs.Standing.{double-by-numeral}
use Rattle.otlp_json.proofs.direct.fields.double.Goals as goal

pub returns-clause-stands : goal.returns-clause-stands
returns-clause-stands c =
    rw (c.from_text.ensures, c.in_ok-from_str.ensures) (double-by-numeral c.args.depth c.args.direct.now c.numeral.new.direct c.in_ok-spelled.spelled.now c.in_ok-spelled.ensures.stands)
