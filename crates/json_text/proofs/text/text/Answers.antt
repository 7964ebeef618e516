use Rattle.std.proofs.Common.{◌≡◌, ◌∙◌, ℕ, List, Ok, ap, sym, refl}
use Rattle.std.specs.Prelude.{string_bytes}
use Rattle.std.proofs.lemmas.Result.{err_from_is_err_and}
use Rattle.json_text.specs.Reading.{with_front, text}
use Rattle.json_text.proofs.Values.{quoted-closed, quoted-opened}
use Rattle.json_text.proofs.text.text.Goals as goal

pub returns-then-peek-eq34-clause-gives : goal.returns-then-peek-eq34-clause-gives
returns-then-peek-eq34-clause-gives c =
    quoted-closed c.args.cursor.now c.expect.new.self c.in_ok-expect.ensures.gives c.plain_run-run.new.self c.plain_run-run.result.now
    c.plain_run-run.ensures.run c.plain_run-run.ensures.moved (sym c.peek.ensures ∙ c.if-peek-eq34.true)
    ∙ rw (c.in_ok-from_str.ensures, c.step.ensures.moved) refl

pub returns-in_err-unescape-clause-gives : goal.returns-in_err-unescape-clause-gives
returns-in_err-unescape-clause-gives c =
    let mid = c.plain_run-run.new.self in
    let run = c.plain_run-run.result.now in
    let opened = quoted-opened c.args.cursor.now c.expect.new.self c.in_ok-expect.ensures.gives mid run c.plain_run-run.ensures.run c.plain_run-run.ensures.moved in
    let same : string_bytes c.in_ok-spelled.spelled ≡ run = c.in_ok-spelled.ensures.ok in
    let p = err_from_is_err_and c.from_residual-in_err-unescape.result c.from_residual-in_err-unescape.ensures.1 in
    let inner = c.in_err-unescape.ensures.gives opened.turns opened.enough in
    rw (p.1, p.2, opened.reads) (rw same at inner)

pub returns-clause-gives : goal.returns-clause-gives
returns-clause-gives c =
    let mid = c.plain_run-run.new.self in
    let run = c.plain_run-run.result.now in
    let opened = quoted-opened c.args.cursor.now c.expect.new.self c.in_ok-expect.ensures.gives mid run c.plain_run-run.ensures.run c.plain_run-run.ensures.moved in
    let inner = c.in_ok-unescape.ensures.gives opened.turns opened.enough in
    let same : string_bytes c.in_ok-spelled.spelled ≡ run = c.in_ok-spelled.ensures.ok in
    opened.reads ∙ ap (λ (front : List ℕ). with_front front (text opened.turns mid)) (sym same) ∙ inner ∙ ap (λ (t : List ℕ). Ok (t, c.unescape.new.cursor)) (sym c.from_string.ensures)
