use Rattle.std.proofs.Common.{refl}
use Rattle.otlp_json.proofs.Standing.{text-stands}
use Rattle.otlp_json.proofs.direct.fields.text.Goals as goal

pub returns-clause-stands : goal.returns-clause-stands
returns-clause-stands c = text-stands c.args.depth c.args.direct.now _ refl _ c.in_ok-text.ensures.gives
