use Rattle.std.proofs.Common.{refl}
use Rattle.otlp_json.proofs.Standing.{numeral-stands}
use Rattle.otlp_json.proofs.direct.fields.numeral.Goals as goal

pub returns-clause-stands : goal.returns-clause-stands
returns-clause-stands c = numeral-stands c.args.depth c.args.direct.now _ refl _ c.in_ok-number.ensures.gives
