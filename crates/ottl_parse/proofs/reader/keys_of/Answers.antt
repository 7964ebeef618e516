use Rattle.std.proofs.Common.{◌≡◌, ◌∙◌, ◌==◌, [], length, arith, sym}
use Rattle.std.proofs.lemmas.Result.{err_from_is_err_and}
use Rattle.ottl_parse.specs.Place.{head}
use Rattle.ottl_parse.specs.Reading.{inside_of, pieces, key}
use Rattle.ottl_parse.proofs.Turns.{PiecesSoFar-goes, PiecesSoFar-end, PiecesSoFar-fail, with_front-nil, is_code, other_code}
use Rattle.ottl_parse.proofs.reader.keys_of.Goals as goal

pub returns-in_err-key_of-clause-gives : goal.returns-in_err-key_of-clause-gives
returns-in_err-key_of-clause-gives c =
    let here = c.keys.cursor in
    let one = key (inside_of c.args.room) in
    let start = c.args.cursor.now in
    let p = err_from_is_err_and c.from_residual.result c.from_residual.ensures.1 in
    let bracket : head here ≡ 91 = sym c.peek.ensures ∙ c.keys-test.true in
    let fails = PiecesSoFar-fail (λ b. b == 91) one [] start here c.keys.keys c.keys.invariant.1 _ (omega (arith, bracket)) (is_code (head here) 91 bracket) c.in_err-key_of.ensures.gives in
    rw (p.1, p.2) (rw (with_front-nil (pieces (λ b. b == 91) one (length start.left) start)) at fails)

pub keys-preserved : goal.keys-preserved
keys-preserved c =
    let here = c.keys.cursor in
    let bracket : head here ≡ 91 = sym c.peek.ensures ∙ c.keys-test.true in (
      omega (arith, c.in_ok-key_of.ensures.shorter, c.keys.invariant.0),
      rw c.in_ok-push.ensures.ok (PiecesSoFar-goes (λ b. b == 91) (key (inside_of c.args.room)) [] c.args.cursor.now here c.keys.keys c.keys.invariant.1 c.key_of.new.cursor c.in_ok-key_of.field-0 (is_code (head here) 91 bracket) c.in_ok-key_of.ensures.gives c.in_ok-key_of.ensures.shorter),
    )

pub returns-clause-gives : goal.returns-clause-gives
returns-clause-gives c =
    let here = c.keys.cursor in
    let one = key (inside_of c.args.room) in
    let start = c.args.cursor.now in
    sym (with_front-nil (pieces (λ b. b == 91) one (length start.left) start))
    ∙ PiecesSoFar-end (λ b. b == 91) one [] start here c.keys.keys c.keys.invariant.1 (other_code (head here) 91 (λ h. c.keys-test.false (c.peek.ensures ∙ h)))
