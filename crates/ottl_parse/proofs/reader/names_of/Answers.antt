use Rattle.std.proofs.Common.{◌≡◌, ◌∙◌, ◌==◌, [], ◌∷◌, arith, sym}
use Rattle.std.proofs.lemmas.Result.{err_from_is_err_and}
use Rattle.ottl_parse.specs.Place.{head}
use Rattle.ottl_parse.specs.Reading.{further_name}
use Rattle.ottl_parse.proofs.Turns.{PiecesSoFar-goes, PiecesSoFar-end, PiecesSoFar-fail, is_code, other_code}
use Rattle.ottl_parse.proofs.reader.names_of.Goals as goal

pub returns-in_err-name-clause-gives : goal.returns-in_err-name-clause-gives
returns-in_err-name-clause-gives c =
    let here = c.names.cursor in
    let p = err_from_is_err_and c.from_residual-in_err-name.result c.from_residual-in_err-name.ensures.1 in
    let point : head here ≡ 46 = sym c.peek.ensures ∙ c.names-test.true in
    rw (p.1, p.2) (PiecesSoFar-fail (λ b. b == 46) further_name (c.args.first ∷ []) c.args.cursor.now here c.names.names c.names.invariant.1 _ (omega (arith, point)) (is_code (head here) 46 point) (rw c.step.ensures.moved at c.in_err-name.ensures.gives))

pub names-preserved : goal.names-preserved
names-preserved c =
    let here = c.names.cursor in
    let point : head here ≡ 46 = sym c.peek.ensures ∙ c.names-test.true in (
      omega (arith, c.step.ensures.shorter, c.in_ok-name.ensures.shorter, c.names.invariant.0),
      rw c.in_ok-push-2.ensures.ok (PiecesSoFar-goes (λ b. b == 46) further_name (c.args.first ∷ []) c.args.cursor.now here c.names.names c.names.invariant.1 c.name.new.cursor c.in_ok-name.field-0 (is_code (head here) 46 point) (rw c.step.ensures.moved at c.in_ok-name.ensures.gives) (omega (arith, c.step.ensures.shorter, c.in_ok-name.ensures.shorter))),
    )

pub returns-clause-gives : goal.returns-clause-gives
returns-clause-gives c =
    let here = c.names.cursor in
    PiecesSoFar-end (λ b. b == 46) further_name (c.args.first ∷ []) c.args.cursor.now here c.names.names c.names.invariant.1 (other_code (head here) 46 (λ h. c.names-test.false (c.peek.ensures ∙ h)))
