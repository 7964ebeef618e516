use Rattle.std.proofs.Common.{◌∙◌, ℕ, Ok, Err, arith, ap, sym}
use Rattle.std.specs.Prelude.{string_bytes}
use Rattle.std.proofs.lemmas.Result.{err_from_is_err_and}
use Rattle.json_text.specs.Place.{Rest}
use Rattle.json_text.specs.declared.error.JsonFault.TheVariants.{BadJson}
use Rattle.json_text.proofs.Turns.{TextSoFar, TextSoFar-ran, TextSoFar-quote, TextSoFar-bad, TextSoFar-fail, TextSoFar-escape, none_plain}
use Rattle.json_text.proofs.text.unescape.Goals as goal

pub returns-then-next-eq34-clause-gives : goal.returns-then-next-eq34-clause-gives
returns-then-next-eq34-clause-gives c = λ n enough.
    let before = string_bytes c.args.spelled.now in
    let start = c.args.cursor.now in
    let mid = c.plain_run-run.new.self in
    let ran : TextSoFar before n start (string_bytes c.push_str.new.self) mid =
    TextSoFar-ran before n start (string_bytes c.pieces.spelled) _ _ c.pieces.cursor mid (c.pieces.invariant.so_far n enough) c.plain_run-run.ensures.run c.plain_run-run.ensures.moved c.in_ok-push_str.ensures.bytes in
    TextSoFar-quote before n start _ mid ran (sym c.peek-next.ensures ∙ c.if-next-eq34.true) ∙ ap (λ (r : Rest). Ok (string_bytes c.push_str.new.self, r)) (sym c.step.ensures.moved)

pub returns-then-next-ne92-clause-gives : goal.returns-then-next-ne92-clause-gives
returns-then-next-ne92-clause-gives c = λ n enough.
    let before = string_bytes c.args.spelled.now in
    let start = c.args.cursor.now in
    let mid = c.plain_run-run.new.self in
    let ran : TextSoFar before n start (string_bytes c.push_str.new.self) mid =
    TextSoFar-ran before n start (string_bytes c.pieces.spelled) _ _ c.pieces.cursor mid (c.pieces.invariant.so_far n enough) c.plain_run-run.ensures.run c.plain_run-run.ensures.moved c.in_ok-push_str.ensures.bytes in
    TextSoFar-bad before n start _ mid ran (λ h. c.if-next-eq34.false (c.peek-next.ensures ∙ h)) (λ h. c.if-next-ne92.true (c.peek-next.ensures ∙ h))
    (none_plain c.pieces.cursor mid c.plain_run-run.ensures.moved) ∙ ap (λ (at : ℕ). Err (BadJson at)) (sym c.at.ensures)

pub returns-in_err-character-clause-gives : goal.returns-in_err-character-clause-gives
returns-in_err-character-clause-gives c = λ n enough.
    let before = string_bytes c.args.spelled.now in
    let start = c.args.cursor.now in
    let mid = c.plain_run-run.new.self in
    let ran : TextSoFar before n start (string_bytes c.push_str.new.self) mid =
    TextSoFar-ran before n start (string_bytes c.pieces.spelled) _ _ c.pieces.cursor mid (c.pieces.invariant.so_far n enough) c.plain_run-run.ensures.run c.plain_run-run.ensures.moved c.in_ok-push_str.ensures.bytes in
    let p = err_from_is_err_and c.from_residual-in_err-character.result c.from_residual-in_err-character.ensures.1 in
    rw (p.1, p.2) (TextSoFar-fail before n start _ _ mid ran (sym c.peek-next.ensures ∙ c.if-next-ne92.false) (rw c.step-in-pieces.ensures.moved at c.in_err-character.ensures.gives))

pub pieces-preserved : goal.pieces-preserved
pieces-preserved c =
    let mid = c.plain_run-run.new.self in
    record {
      no_longer = omega (arith, c.in_ok-character.ensures.shorter);
      so_far = λ n enough.
          let before = string_bytes c.args.spelled.now in
          let start = c.args.cursor.now in
          let ran : TextSoFar before n start (string_bytes c.push_str.new.self) mid =
          TextSoFar-ran before n start (string_bytes c.pieces.spelled) _ _ c.pieces.cursor mid (c.pieces.invariant.so_far n enough) c.plain_run-run.ensures.run c.plain_run-run.ensures.moved c.in_ok-push_str.ensures.bytes in
          rw c.in_ok-push.ensures.bytes (TextSoFar-escape before n start _ mid c.escape.new.cursor c.in_ok-character.character ran (sym c.peek-next.ensures ∙ c.if-next-ne92.false) (rw c.step-in-pieces.ensures.moved at c.in_ok-character.ensures.gives) (omega (arith, c.in_ok-character.ensures.shorter)));
    }
