use Rattle.std.proofs.Common.{◌∙◌, Ok, ap, sym}
use Rattle.json_text.specs.Place.{Rest}
use Rattle.json_text.proofs.Values.{quoted-closed}
use Rattle.otlp_json.proofs.Passing.{this-passed, key-passed}
use Rattle.otlp_json.proofs.direct.key.Goals as goal

pub returns-clause-key : goal.returns-clause-key
returns-clause-key c =
    let mid = c.plain_run-key.new.self in
    let run = c.plain_run-key.result.now in
    let closing = this-passed 34 mid c.expect-2.new.self c.in_ok-expect-2.ensures.gives in
    let text = quoted-closed c.args.direct.now.cursor c.expect.new.self c.in_ok-expect.ensures.gives mid run c.plain_run-key.ensures.run c.plain_run-key.ensures.moved closing.0 in
    key-passed c.args.direct.now.cursor c.expect-2.new.self c.skip_blanks.new.self c.expect-3.new.self c.skip_blanks-2.new.self run
    (text ∙ ap (λ (r : Rest). Ok (run, r)) (sym closing.1)) c.skip_blanks.ensures.moved c.in_ok-expect-3.ensures.gives c.skip_blanks-2.ensures.moved
