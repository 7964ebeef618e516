use Rattle.std.proofs.Common.{◌∙◌, Ok, ap, refl, sym}
use Rattle.json_text.specs.Place.{Rest}
use Rattle.json_text.proofs.Values.{quoted-closed}
use Rattle.otlp_json.proofs.Passing.{this-passed}
use Rattle.otlp_json.proofs.Standing.{text-stands}
use Rattle.otlp_json.proofs.direct.fields.plain.Goals as goal

pub returns-clause-stands : goal.returns-clause-stands
returns-clause-stands c =
    let mid = c.plain_run-text.new.self in
    let run = c.plain_run-text.result.now in
    let closing = this-passed 34 mid c.expect-2.new.self c.in_ok-expect-2.ensures.gives in
    let text = quoted-closed c.args.direct.now.cursor c.expect.new.self c.in_ok-expect.ensures.gives mid run c.plain_run-text.ensures.run c.plain_run-text.ensures.moved closing.0 in
    text-stands c.args.depth c.args.direct.now _ refl run (text ∙ ap (λ (r : Rest). Ok (run, r)) (sym closing.1))
