use Rattle.std.proofs.lemmas.Result.{IfOk-weaker}
use Rattle.otlp_json.proofs.Standing.{spelled-by-text, spelled-by-numeral}
use Rattle.otlp_json.proofs.direct.fields.spelled.Goals as goal

pub returns-then-peek-eq34-clause-stands : goal.returns-then-peek-eq34-clause-stands
returns-then-peek-eq34-clause-stands c =
    IfOk-weaker c.plain.result _ _ (λ text s. spelled-by-text c.args.depth c.args.direct.now c.plain.new.direct text.now s) c.plain.ensures.stands

pub returns-clause-stands : goal.returns-clause-stands
returns-clause-stands c =
    IfOk-weaker c.numeral.result _ _ (λ text s. spelled-by-numeral c.args.depth c.args.direct.now c.numeral.new.direct text.now s) c.numeral.ensures.stands
