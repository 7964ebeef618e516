use Rattle.std.proofs.lemmas.Result.{IfOk-weaker}
use Rattle.otlp_json.specs.Fields.{text_in, truth_in, numeral_in}
use Rattle.otlp_json.proofs.Standing.{true-stands, false-stands, null-passes, stands-passes}
use Rattle.otlp_json.proofs.direct.skip.pass_scalar.Goals as goal

pub returns-then-next-eq34-clause-passes : goal.returns-then-next-eq34-clause-passes
returns-then-next-eq34-clause-passes c = stands-passes text_in c.args.depth c.args.direct.now c.text.new.direct _ c.in_ok-text.ensures.stands

pub returns-then-next-eq116-clause-passes : goal.returns-then-next-eq116-clause-passes
returns-then-next-eq116-clause-passes c =
    let new = c.word.new.direct in
    IfOk-weaker c.word.result _ _ (λ _ read. stands-passes truth_in c.args.depth c.args.direct.now new _ (true-stands c.args.depth c.args.direct.now new c.word.ensures.counts read)) c.word.ensures.passed

pub returns-then-next-eq102-clause-passes : goal.returns-then-next-eq102-clause-passes
returns-then-next-eq102-clause-passes c =
    let new = c.word-then-next-eq102.new.direct in
    IfOk-weaker c.word-then-next-eq102.result _ _
    (λ _ read. stands-passes truth_in c.args.depth c.args.direct.now new _ (false-stands c.args.depth c.args.direct.now new c.word-then-next-eq102.ensures.counts read)) c.word-then-next-eq102.ensures.passed

pub returns-then-next-eq110-clause-passes : goal.returns-then-next-eq110-clause-passes
returns-then-next-eq110-clause-passes c =
    let new = c.word-then-next-eq110.new.direct in
    IfOk-weaker c.word-then-next-eq110.result _ _ (λ _ read. null-passes c.args.depth c.args.direct.now new c.word-then-next-eq110.ensures.counts read) c.word-then-next-eq110.ensures.passed

pub returns-clause-passes : goal.returns-clause-passes
returns-clause-passes c = stands-passes numeral_in c.args.depth c.args.direct.now c.numeral.new.direct _ c.in_ok-numeral.ensures.stands
