use Rattle.std.proofs.Common.{rules, ◌≡◌, ◌∙◌, ◌<◌, ◌==◌, ℕ, [], ◌∷◌, ◌++◌, true, false, List, Ok, sym, ap, arith}
use Rattle.std.proofs.lemmas.Bool.Decides.{nat_tests}
use Rattle.std.proofs.lemmas.Result.{err_from_is_err_and}
use Rattle.ottl_lex.specs.Codes.{and_word, or_word, not_word}
use Rattle.ottl_lex.specs.Quoted.{◌>>=◌}
use Rattle.ottl_lex.specs.declared.fault.SyntaxStop.TheVariants.{Fault}
use Rattle.ottl_parse.specs.Place.{Rest, head, past}
use Rattle.ottl_parse.specs.Reading.{inside_of, part, signed_term, is_product_sign, product_sign, is_sum_sign, sum_sign, primary, product, sum, negation, conjunction, disjunction}
use Rattle.ottl_parse.specs.declared.expr.Expr.{Expr}
use Rattle.ottl_parse.specs.declared.expr.Term.{Term}
use Rattle.ottl_parse.specs.declared.expr.ExprKind.TheVariants as kinds
use Rattle.ottl_parse.specs.declared.sign.Sign.TheVariants.{Plus, Times}
use Rattle.ottl_parse.proofs.Turns.{Fails-bind, PiecesSoFar-goes, PiecesSoFar-end, PiecesSoFar-fail, level-joined, level-more-fails, within-more-fails, within-close-fails, within-done, inside_with, inside-more, negation-of, group-done, group-fails, is_code, other_code}
use Rattle.ottl_parse.proofs.reader.+read.Goals as goal

pub and_of-returns-in_err-not_of-clause-gives : goal.and_of-returns-in_err-not_of-clause-gives
unfolding conjunction
and_of-returns-in_err-not_of-clause-gives t c =
    let start = c.args.cursor.now in
    let mid = c.not_of.new.cursor in
    let here = c.operands.cursor in
    let x = c.in_ok-first.first in
    let one : Rest → _ = negation (inside_of c.args.room) in
    let p = err_from_is_err_and c.from_residual-in_err-not_of.result c.from_residual-in_err-not_of.ensures.1 in
    let begun : c.push.new.self ≡ x ∷ [] = c.in_ok-push.ensures.ok ∙ ap (λ xs. xs ++ x ∷ []) c.new-operands.ensures in
    let began : head mid ≡ and_word = sym c.peek.ensures ∙ c.if-peek-ne-AND.false in
    let goes : head here ≡ and_word = sym c.peek-in-operands.ensures ∙ c.operands-test.true in
    rw (p.1, p.2) (level-more-fails (λ e. e) kinds.And (λ b. b == and_word) one (λ q. one (past q)) start x mid c.in_ok-first.ensures.gives (is_code (head mid) and_word began) c.push.new.self begun _
    (PiecesSoFar-fail (λ b. b == and_word) (λ q. one (past q)) c.push.new.self mid here c.operands.operands c.operands.invariant.1 _ (omega (arith, goes)) (is_code (head here) and_word goes) (rw c.step.ensures.moved at c.in_err-not_of.ensures.gives)))

pub and_of-operands-preserved : goal.and_of-operands-preserved
and_of-operands-preserved t c =
    let mid = c.not_of.new.cursor in
    let here = c.operands.cursor in
    let one : Rest → _ = negation (inside_of c.args.room) in
    let goes : head here ≡ and_word = sym c.peek-in-operands.ensures ∙ c.operands-test.true in (
      omega (arith, c.step.ensures.shorter, c.in_ok-not_of.ensures.shorter, c.operands.invariant.0),
      rw c.in_ok-push-2.ensures.ok (PiecesSoFar-goes (λ b. b == and_word) (λ q. one (past q)) c.push.new.self mid here c.operands.operands c.operands.invariant.1 c.not_of-in-operands.new.cursor c.in_ok-not_of.field-0 (is_code (head here) and_word goes) (rw c.step.ensures.moved at c.in_ok-not_of.ensures.gives) (omega (arith, c.step.ensures.shorter, c.in_ok-not_of.ensures.shorter))),
    )

pub and_of-returns-clause-gives : goal.and_of-returns-clause-gives
unfolding conjunction
and_of-returns-clause-gives t c =
    let start = c.args.cursor.now in
    let mid = c.not_of.new.cursor in
    let here = c.operands.cursor in
    let x = c.in_ok-first.first in
    let one : Rest → _ = negation (inside_of c.args.room) in
    let begun : c.push.new.self ≡ x ∷ [] = c.in_ok-push.ensures.ok ∙ ap (λ xs. xs ++ x ∷ []) c.new-operands.ensures in
    let began : head mid ≡ and_word = sym c.peek.ensures ∙ c.if-peek-ne-AND.false in
    rw c.at-at.ensures.value (level-joined (λ e. e) kinds.And (λ b. b == and_word) one (λ q. one (past q)) start x mid c.in_ok-first.ensures.gives (is_code (head mid) and_word began) c.push.new.self begun c.operands.operands here
    (PiecesSoFar-end (λ b. b == and_word) (λ q. one (past q)) c.push.new.self mid here c.operands.operands c.operands.invariant.1 (other_code (head here) and_word (λ h. c.operands-test.false (c.peek-in-operands.ensures ∙ h)))))

pub or_of-returns-in_err-and_of-clause-gives : goal.or_of-returns-in_err-and_of-clause-gives
unfolding disjunction
or_of-returns-in_err-and_of-clause-gives t c =
    let start = c.args.cursor.now in
    let mid = c.and_of.new.cursor in
    let here = c.operands.cursor in
    let x = c.in_ok-first.first in
    let one : Rest → _ = conjunction (inside_of c.args.room) in
    let p = err_from_is_err_and c.from_residual-in_err-and_of.result c.from_residual-in_err-and_of.ensures.1 in
    let begun : c.push.new.self ≡ x ∷ [] = c.in_ok-push.ensures.ok ∙ ap (λ xs. xs ++ x ∷ []) c.new-operands.ensures in
    let began : head mid ≡ or_word = sym c.peek.ensures ∙ c.if-peek-ne-OR.false in
    let goes : head here ≡ or_word = sym c.peek-in-operands.ensures ∙ c.operands-test.true in
    rw (p.1, p.2) (level-more-fails (λ e. e) kinds.Or (λ b. b == or_word) one (λ q. one (past q)) start x mid c.in_ok-first.ensures.gives (is_code (head mid) or_word began) c.push.new.self begun _
    (PiecesSoFar-fail (λ b. b == or_word) (λ q. one (past q)) c.push.new.self mid here c.operands.operands c.operands.invariant.1 _ (omega (arith, goes)) (is_code (head here) or_word goes) (rw c.step.ensures.moved at c.in_err-and_of.ensures.gives)))

pub or_of-operands-preserved : goal.or_of-operands-preserved
or_of-operands-preserved t c =
    let mid = c.and_of.new.cursor in
    let here = c.operands.cursor in
    let one : Rest → _ = conjunction (inside_of c.args.room) in
    let goes : head here ≡ or_word = sym c.peek-in-operands.ensures ∙ c.operands-test.true in (
      omega (arith, c.step.ensures.shorter, c.in_ok-and_of.ensures.shorter, c.operands.invariant.0),
      rw c.in_ok-push-2.ensures.ok (PiecesSoFar-goes (λ b. b == or_word) (λ q. one (past q)) c.push.new.self mid here c.operands.operands c.operands.invariant.1 c.and_of-in-operands.new.cursor c.in_ok-and_of.field-0 (is_code (head here) or_word goes) (rw c.step.ensures.moved at c.in_ok-and_of.ensures.gives) (omega (arith, c.step.ensures.shorter, c.in_ok-and_of.ensures.shorter))),
    )

pub or_of-returns-clause-gives : goal.or_of-returns-clause-gives
unfolding disjunction
or_of-returns-clause-gives t c =
    let start = c.args.cursor.now in
    let mid = c.and_of.new.cursor in
    let here = c.operands.cursor in
    let x = c.in_ok-first.first in
    let one : Rest → _ = conjunction (inside_of c.args.room) in
    let begun : c.push.new.self ≡ x ∷ [] = c.in_ok-push.ensures.ok ∙ ap (λ xs. xs ++ x ∷ []) c.new-operands.ensures in
    let began : head mid ≡ or_word = sym c.peek.ensures ∙ c.if-peek-ne-OR.false in
    rw c.at-at.ensures.value (level-joined (λ e. e) kinds.Or (λ b. b == or_word) one (λ q. one (past q)) start x mid c.in_ok-first.ensures.gives (is_code (head mid) or_word began) c.push.new.self begun c.operands.operands here
    (PiecesSoFar-end (λ b. b == or_word) (λ q. one (past q)) c.push.new.self mid here c.operands.operands c.operands.invariant.1 (other_code (head here) or_word (λ h. c.operands-test.false (c.peek-in-operands.ensures ∙ h)))))

some_Sum : (b : ℕ) → is_sum_sign b ≡ true → 0 < b
some_Sum b is = grind (arith, nat_tests)

some_Product : (b : ℕ) → is_product_sign b ≡ true → 0 < b
some_Product b is = grind (arith, nat_tests)

pub sum_of-returns-in_err-expr-clause-gives : goal.sum_of-returns-in_err-expr-clause-gives
unfolding sum
sum_of-returns-in_err-expr-clause-gives t c =
    let start = c.args.cursor.now in
    let mid = c.product_of.new.cursor in
    let here = c.terms.cursor in
    let x = c.in_ok-first.first in
    let one : Rest → _ = product (inside_of c.args.room) in
    let p = err_from_is_err_and c.from_residual-in_err-expr.result c.from_residual-in_err-expr.ensures.1 in
    let begun : c.push.new.self ≡ record { sign = Plus; expr = x } ∷ [] = c.in_ok-push.ensures.ok ∙ ap (λ (xs : List Term). xs ++ record { sign = Plus; expr = x } ∷ []) c.new-terms.ensures in
    let yes : c.is_sum_sign.result ≡ true = search rules in
    let began : is_sum_sign (head mid) ≡ true = ap is_sum_sign (sym c.peek.ensures) ∙ sym c.is_sum_sign.ensures ∙ yes in
    let on : c.is_sum_sign-in-terms.result ≡ true = search rules in
    let goes : is_sum_sign (head here) ≡ true = ap is_sum_sign (sym c.peek-in-terms.ensures) ∙ sym c.is_sum_sign-in-terms.ensures ∙ on in
    let some_here : 0 < head here = some_Sum (head here) goes in
    rw (p.1, p.2) (level-more-fails (λ (e : Expr). record { sign = Plus; expr = e }) kinds.Sum is_sum_sign one (signed_term sum_sign one) start x mid c.in_ok-first.ensures.gives began c.push.new.self begun _
    (PiecesSoFar-fail is_sum_sign (signed_term sum_sign one) c.push.new.self mid here c.terms.terms c.terms.invariant.1 _ some_here goes (Fails-bind _ (one (past here)) _ (rw c.step.ensures.moved at c.in_err-expr.ensures.gives))))

pub sum_of-terms-preserved : goal.sum_of-terms-preserved
sum_of-terms-preserved t c =
    let mid = c.product_of.new.cursor in
    let here = c.terms.cursor in
    let one : Rest → _ = product (inside_of c.args.room) in
    let on : c.is_sum_sign-in-terms.result ≡ true = search rules in
    let goes : is_sum_sign (head here) ≡ true = ap is_sum_sign (sym c.peek-in-terms.ensures) ∙ sym c.is_sum_sign-in-terms.ensures ∙ on in (
      omega (arith, c.step.ensures.shorter, c.in_ok-expr.ensures.shorter, c.terms.invariant.0),
      rw (c.in_ok-push-2.ensures.ok, c.sum_sign-sign.ensures, c.peek-in-terms-2.ensures) (PiecesSoFar-goes is_sum_sign (signed_term sum_sign one) c.push.new.self mid here c.terms.terms c.terms.invariant.1 c.product_of-in-terms.new.cursor _ goes (ap (λ m. m >>= λ p. Ok (record { sign = sum_sign (head here); expr = p.0 }, p.1)) (rw c.step.ensures.moved at c.in_ok-expr.ensures.gives)) (omega (arith, c.step.ensures.shorter, c.in_ok-expr.ensures.shorter))),
    )

pub sum_of-returns-clause-gives : goal.sum_of-returns-clause-gives
unfolding sum
sum_of-returns-clause-gives t c =
    let start = c.args.cursor.now in
    let mid = c.product_of.new.cursor in
    let here = c.terms.cursor in
    let x = c.in_ok-first.first in
    let one : Rest → _ = product (inside_of c.args.room) in
    let begun : c.push.new.self ≡ record { sign = Plus; expr = x } ∷ [] = c.in_ok-push.ensures.ok ∙ ap (λ (xs : List Term). xs ++ record { sign = Plus; expr = x } ∷ []) c.new-terms.ensures in
    let yes : c.is_sum_sign.result ≡ true = search rules in
    let began : is_sum_sign (head mid) ≡ true = ap is_sum_sign (sym c.peek.ensures) ∙ sym c.is_sum_sign.ensures ∙ yes in
    let off : c.is_sum_sign-in-terms.result ≡ false = search rules in
    let ends : is_sum_sign (head here) ≡ false = ap is_sum_sign (sym c.peek-in-terms.ensures) ∙ sym c.is_sum_sign-in-terms.ensures ∙ off in
    rw c.at-at.ensures.value (level-joined (λ (e : Expr). record { sign = Plus; expr = e }) kinds.Sum is_sum_sign one (signed_term sum_sign one) start x mid c.in_ok-first.ensures.gives began c.push.new.self begun c.terms.terms here
    (PiecesSoFar-end is_sum_sign (signed_term sum_sign one) c.push.new.self mid here c.terms.terms c.terms.invariant.1 ends))

pub product_of-returns-in_err-expr-clause-gives : goal.product_of-returns-in_err-expr-clause-gives
unfolding product
product_of-returns-in_err-expr-clause-gives t c =
    let start = c.args.cursor.now in
    let mid = c.primary_of.new.cursor in
    let here = c.terms.cursor in
    let x = c.in_ok-first.first in
    let one : Rest → _ = primary (inside_of c.args.room) in
    let p = err_from_is_err_and c.from_residual-in_err-expr.result c.from_residual-in_err-expr.ensures.1 in
    let begun : c.push.new.self ≡ record { sign = Times; expr = x } ∷ [] = c.in_ok-push.ensures.ok ∙ ap (λ (xs : List Term). xs ++ record { sign = Times; expr = x } ∷ []) c.new-terms.ensures in
    let yes : c.is_product_sign.result ≡ true = search rules in
    let began : is_product_sign (head mid) ≡ true = ap is_product_sign (sym c.peek.ensures) ∙ sym c.is_product_sign.ensures ∙ yes in
    let on : c.is_product_sign-in-terms.result ≡ true = search rules in
    let goes : is_product_sign (head here) ≡ true = ap is_product_sign (sym c.peek-in-terms.ensures) ∙ sym c.is_product_sign-in-terms.ensures ∙ on in
    let some_here : 0 < head here = some_Product (head here) goes in
    rw (p.1, p.2) (level-more-fails (λ (e : Expr). record { sign = Times; expr = e }) kinds.Product is_product_sign one (signed_term product_sign one) start x mid c.in_ok-first.ensures.gives began c.push.new.self begun _
    (PiecesSoFar-fail is_product_sign (signed_term product_sign one) c.push.new.self mid here c.terms.terms c.terms.invariant.1 _ some_here goes (Fails-bind _ (one (past here)) _ (rw c.step.ensures.moved at c.in_err-expr.ensures.gives))))

pub product_of-terms-preserved : goal.product_of-terms-preserved
product_of-terms-preserved t c =
    let mid = c.primary_of.new.cursor in
    let here = c.terms.cursor in
    let one : Rest → _ = primary (inside_of c.args.room) in
    let on : c.is_product_sign-in-terms.result ≡ true = search rules in
    let goes : is_product_sign (head here) ≡ true = ap is_product_sign (sym c.peek-in-terms.ensures) ∙ sym c.is_product_sign-in-terms.ensures ∙ on in (
      omega (arith, c.step.ensures.shorter, c.in_ok-expr.ensures.shorter, c.terms.invariant.0),
      rw (c.in_ok-push-2.ensures.ok, c.product_sign-sign.ensures, c.peek-in-terms-2.ensures) (PiecesSoFar-goes is_product_sign (signed_term product_sign one) c.push.new.self mid here c.terms.terms c.terms.invariant.1 c.primary_of-in-terms.new.cursor _ goes (ap (λ m. m >>= λ p. Ok (record { sign = product_sign (head here); expr = p.0 }, p.1)) (rw c.step.ensures.moved at c.in_ok-expr.ensures.gives)) (omega (arith, c.step.ensures.shorter, c.in_ok-expr.ensures.shorter))),
    )

pub product_of-returns-clause-gives : goal.product_of-returns-clause-gives
unfolding product
product_of-returns-clause-gives t c =
    let start = c.args.cursor.now in
    let mid = c.primary_of.new.cursor in
    let here = c.terms.cursor in
    let x = c.in_ok-first.first in
    let one : Rest → _ = primary (inside_of c.args.room) in
    let begun : c.push.new.self ≡ record { sign = Times; expr = x } ∷ [] = c.in_ok-push.ensures.ok ∙ ap (λ (xs : List Term). xs ++ record { sign = Times; expr = x } ∷ []) c.new-terms.ensures in
    let yes : c.is_product_sign.result ≡ true = search rules in
    let began : is_product_sign (head mid) ≡ true = ap is_product_sign (sym c.peek.ensures) ∙ sym c.is_product_sign.ensures ∙ yes in
    let off : c.is_product_sign-in-terms.result ≡ false = search rules in
    let ends : is_product_sign (head here) ≡ false = ap is_product_sign (sym c.peek-in-terms.ensures) ∙ sym c.is_product_sign-in-terms.ensures ∙ off in
    rw c.at-at.ensures.value (level-joined (λ (e : Expr). record { sign = Times; expr = e }) kinds.Product is_product_sign one (signed_term product_sign one) start x mid c.in_ok-first.ensures.gives began c.push.new.self begun c.terms.terms here
    (PiecesSoFar-end is_product_sign (signed_term product_sign one) c.push.new.self mid here c.terms.terms c.terms.invariant.1 ends))

pub exprs_of-returns-in_err-or_of-2-clause-gives : goal.exprs_of-returns-in_err-or_of-2-clause-gives
exprs_of-returns-in_err-or_of-2-clause-gives t c =
    let start = c.args.cursor.now in
    let opened = c.open_one.new.self in
    let mid = c.or_of.new.cursor in
    let here = c.exprs.cursor in
    let x = c.in_ok-or_of.field-0 in
    let room = c.in_ok-inside.inside in
    let one : Rest → _ = disjunction (inside_of room) in
    let p = err_from_is_err_and c.from_residual-in_err-or_of-2.result c.from_residual-in_err-or_of-2.ensures.1 in
    let begun : c.push.new.self ≡ x ∷ [] = c.in_ok-push.ensures.ok ∙ ap (λ xs. xs ++ x ∷ []) c.new-exprs.ensures in
    let some : (head opened == c.args.close) ≡ false = other_code (head opened) c.args.close (λ h. c.if-peek-close.false (c.peek.ensures ∙ h)) in
    let goes : head here ≡ 44 = sym c.peek-in-exprs.ensures ∙ c.exprs-test.true in
    rw (p.1, p.2, inside-more room c.args.room c.in_ok-inside.ensures.less) (within-more-fails (inside_with room) one c.args.close start opened (rw (inside-more room c.args.room c.in_ok-inside.ensures.less) at c.in_ok-inside.ensures.gives) some x mid c.in_ok-or_of.ensures.gives c.push.new.self begun _
    (PiecesSoFar-fail (λ b. b == 44) (λ q. one (past q)) c.push.new.self mid here c.exprs.exprs c.exprs.invariant.1 _ (omega (arith, goes)) (is_code (head here) 44 goes) (rw c.step-in-exprs.ensures.moved at c.in_err-or_of-2.ensures.gives)))

pub exprs_of-exprs-preserved : goal.exprs_of-exprs-preserved
exprs_of-exprs-preserved t c =
    let mid = c.or_of.new.cursor in
    let here = c.exprs.cursor in
    let room = c.in_ok-inside.inside in
    let one : Rest → _ = disjunction (inside_of room) in
    let goes : head here ≡ 44 = sym c.peek-in-exprs.ensures ∙ c.exprs-test.true in (
      omega (arith, c.step-in-exprs.ensures.shorter, c.in_ok-or_of-2.ensures.shorter, c.exprs.invariant.0),
      rw c.in_ok-push-2.ensures.ok (PiecesSoFar-goes (λ b. b == 44) (λ q. one (past q)) c.push.new.self mid here c.exprs.exprs c.exprs.invariant.1 c.or_of-in-exprs.new.cursor c.in_ok-or_of-2.field-0 (is_code (head here) 44 goes) (rw c.step-in-exprs.ensures.moved at c.in_ok-or_of-2.ensures.gives) (omega (arith, c.step-in-exprs.ensures.shorter, c.in_ok-or_of-2.ensures.shorter))),
    )

pub exprs_of-returns-in_err-expect-clause-gives : goal.exprs_of-returns-in_err-expect-clause-gives
exprs_of-returns-in_err-expect-clause-gives t c =
    let start = c.args.cursor.now in
    let opened = c.open_one.new.self in
    let mid = c.or_of.new.cursor in
    let here = c.exprs.cursor in
    let x = c.in_ok-or_of.field-0 in
    let room = c.in_ok-inside.inside in
    let one : Rest → _ = disjunction (inside_of room) in
    let p = err_from_is_err_and c.from_residual-in_err-expect.result c.from_residual-in_err-expect.ensures.1 in
    let begun : c.push.new.self ≡ x ∷ [] = c.in_ok-push.ensures.ok ∙ ap (λ xs. xs ++ x ∷ []) c.new-exprs.ensures in
    let some : (head opened == c.args.close) ≡ false = other_code (head opened) c.args.close (λ h. c.if-peek-close.false (c.peek.ensures ∙ h)) in
    let ends = PiecesSoFar-end (λ b. b == 44) (λ q. one (past q)) c.push.new.self mid here c.exprs.exprs c.exprs.invariant.1 (other_code (head here) 44 (λ h. c.exprs-test.false (c.peek-in-exprs.ensures ∙ h))) in
    rw (p.1, p.2, inside-more room c.args.room c.in_ok-inside.ensures.less) (within-close-fails (inside_with room) one c.args.close start opened (rw (inside-more room c.args.room c.in_ok-inside.ensures.less) at c.in_ok-inside.ensures.gives) some x mid c.in_ok-or_of.ensures.gives c.push.new.self begun c.exprs.exprs here ends (Fault c.in_err-expect.field-0.0) c.in_err-expect.ensures.gives)

pub exprs_of-returns-clause-gives : goal.exprs_of-returns-clause-gives
exprs_of-returns-clause-gives t c =
    let start = c.args.cursor.now in
    let opened = c.open_one.new.self in
    let mid = c.or_of.new.cursor in
    let here = c.exprs.cursor in
    let x = c.in_ok-or_of.field-0 in
    let room = c.in_ok-inside.inside in
    let one : Rest → _ = disjunction (inside_of room) in
    let begun : c.push.new.self ≡ x ∷ [] = c.in_ok-push.ensures.ok ∙ ap (λ xs. xs ++ x ∷ []) c.new-exprs.ensures in
    let some : (head opened == c.args.close) ≡ false = other_code (head opened) c.args.close (λ h. c.if-peek-close.false (c.peek.ensures ∙ h)) in
    let ends = PiecesSoFar-end (λ b. b == 44) (λ q. one (past q)) c.push.new.self mid here c.exprs.exprs c.exprs.invariant.1 (other_code (head here) 44 (λ h. c.exprs-test.false (c.peek-in-exprs.ensures ∙ h))) in
    rw (inside-more room c.args.room c.in_ok-inside.ensures.less) (within-done (inside_with room) one c.args.close start opened (rw (inside-more room c.args.room c.in_ok-inside.ensures.less) at c.in_ok-inside.ensures.gives) some x mid c.in_ok-or_of.ensures.gives c.push.new.self begun c.exprs.exprs here ends c.expect.new.self c.in_ok-expect.ensures.gives)

pub parts_of-returns-in_err-part_of-2-clause-gives : goal.parts_of-returns-in_err-part_of-2-clause-gives
parts_of-returns-in_err-part_of-2-clause-gives t c =
    let start = c.args.cursor.now in
    let opened = c.open_one.new.self in
    let mid = c.part_of.new.cursor in
    let here = c.parts.cursor in
    let x = c.in_ok-part_of.field-0 in
    let room = c.in_ok-inside.inside in
    let one : Rest → _ = part (disjunction (inside_of room)) in
    let p = err_from_is_err_and c.from_residual-in_err-part_of-2.result c.from_residual-in_err-part_of-2.ensures.1 in
    let begun : c.push.new.self ≡ x ∷ [] = c.in_ok-push.ensures.ok ∙ ap (λ xs. xs ++ x ∷ []) c.new-parts.ensures in
    let some : (head opened == 125) ≡ false = other_code (head opened) 125 (λ h. c.if-peek-eq125.false (c.peek.ensures ∙ h)) in
    let goes : head here ≡ 44 = sym c.peek-in-parts.ensures ∙ c.parts-test.true in
    rw (p.1, p.2, inside-more room c.args.room c.in_ok-inside.ensures.less) (within-more-fails (inside_with room) one 125 start opened (rw (inside-more room c.args.room c.in_ok-inside.ensures.less) at c.in_ok-inside.ensures.gives) some x mid c.in_ok-part_of.ensures.gives c.push.new.self begun _
    (PiecesSoFar-fail (λ b. b == 44) (λ q. one (past q)) c.push.new.self mid here c.parts.parts c.parts.invariant.1 _ (omega (arith, goes)) (is_code (head here) 44 goes) (rw c.step-in-parts.ensures.moved at c.in_err-part_of-2.ensures.gives)))

pub parts_of-parts-preserved : goal.parts_of-parts-preserved
parts_of-parts-preserved t c =
    let mid = c.part_of.new.cursor in
    let here = c.parts.cursor in
    let room = c.in_ok-inside.inside in
    let one : Rest → _ = part (disjunction (inside_of room)) in
    let goes : head here ≡ 44 = sym c.peek-in-parts.ensures ∙ c.parts-test.true in (
      omega (arith, c.step-in-parts.ensures.shorter, c.in_ok-part_of-2.ensures.shorter, c.parts.invariant.0),
      rw c.in_ok-push-2.ensures.ok (PiecesSoFar-goes (λ b. b == 44) (λ q. one (past q)) c.push.new.self mid here c.parts.parts c.parts.invariant.1 c.part_of-in-parts.new.cursor c.in_ok-part_of-2.field-0 (is_code (head here) 44 goes) (rw c.step-in-parts.ensures.moved at c.in_ok-part_of-2.ensures.gives) (omega (arith, c.step-in-parts.ensures.shorter, c.in_ok-part_of-2.ensures.shorter))),
    )

pub parts_of-returns-in_err-expect-clause-gives : goal.parts_of-returns-in_err-expect-clause-gives
parts_of-returns-in_err-expect-clause-gives t c =
    let start = c.args.cursor.now in
    let opened = c.open_one.new.self in
    let mid = c.part_of.new.cursor in
    let here = c.parts.cursor in
    let x = c.in_ok-part_of.field-0 in
    let room = c.in_ok-inside.inside in
    let one : Rest → _ = part (disjunction (inside_of room)) in
    let p = err_from_is_err_and c.from_residual-in_err-expect.result c.from_residual-in_err-expect.ensures.1 in
    let begun : c.push.new.self ≡ x ∷ [] = c.in_ok-push.ensures.ok ∙ ap (λ xs. xs ++ x ∷ []) c.new-parts.ensures in
    let some : (head opened == 125) ≡ false = other_code (head opened) 125 (λ h. c.if-peek-eq125.false (c.peek.ensures ∙ h)) in
    let ends = PiecesSoFar-end (λ b. b == 44) (λ q. one (past q)) c.push.new.self mid here c.parts.parts c.parts.invariant.1 (other_code (head here) 44 (λ h. c.parts-test.false (c.peek-in-parts.ensures ∙ h))) in
    rw (p.1, p.2, inside-more room c.args.room c.in_ok-inside.ensures.less) (within-close-fails (inside_with room) one 125 start opened (rw (inside-more room c.args.room c.in_ok-inside.ensures.less) at c.in_ok-inside.ensures.gives) some x mid c.in_ok-part_of.ensures.gives c.push.new.self begun c.parts.parts here ends (Fault c.in_err-expect.field-0.0) c.in_err-expect.ensures.gives)

pub parts_of-returns-clause-gives : goal.parts_of-returns-clause-gives
parts_of-returns-clause-gives t c =
    let start = c.args.cursor.now in
    let opened = c.open_one.new.self in
    let mid = c.part_of.new.cursor in
    let here = c.parts.cursor in
    let x = c.in_ok-part_of.field-0 in
    let room = c.in_ok-inside.inside in
    let one : Rest → _ = part (disjunction (inside_of room)) in
    let begun : c.push.new.self ≡ x ∷ [] = c.in_ok-push.ensures.ok ∙ ap (λ xs. xs ++ x ∷ []) c.new-parts.ensures in
    let some : (head opened == 125) ≡ false = other_code (head opened) 125 (λ h. c.if-peek-eq125.false (c.peek.ensures ∙ h)) in
    let ends = PiecesSoFar-end (λ b. b == 44) (λ q. one (past q)) c.push.new.self mid here c.parts.parts c.parts.invariant.1 (other_code (head here) 44 (λ h. c.parts-test.false (c.peek-in-parts.ensures ∙ h))) in
    rw (inside-more room c.args.room c.in_ok-inside.ensures.less) (within-done (inside_with room) one 125 start opened (rw (inside-more room c.args.room c.in_ok-inside.ensures.less) at c.in_ok-inside.ensures.gives) some x mid c.in_ok-part_of.ensures.gives c.push.new.self begun c.parts.parts here ends c.expect.new.self c.in_ok-expect.ensures.gives)

pub not_of-returns-clause-gives : goal.not_of-returns-clause-gives
not_of-returns-clause-gives t c =
    let here = c.args.cursor.now in
    let word : head here ≡ not_word = sym c.peek.ensures ∙ c.if-peek-ne-NOT.false in
    rw (c.at-at.ensures.value, c.in_ok-new.ensures) (negation-of c.in_ok-inside.inside c.args.room here c.open_one.new.self c.not_of.new.cursor c.in_ok-operand.operand c.in_ok-inside.ensures.less word c.in_ok-inside.ensures.gives c.in_ok-operand.ensures.gives)

pub primary_of-returns-in_err-expect-clause-gives : goal.primary_of-returns-in_err-expect-clause-gives
primary_of-returns-in_err-expect-clause-gives t c =
    let here = c.args.cursor.now in
    let p = err_from_is_err_and c.from_residual-in_err-expect.result c.from_residual-in_err-expect.ensures.1 in
    let first : head here ≡ 40 = sym c.peek-next.ensures ∙ c.if-next-eq40.true in
    rw (p.1, p.2) (group-fails c.in_ok-inside.inside c.args.room here c.open_one.new.self c.or_of.new.cursor c.in_ok-expr.expr c.in_ok-inside.ensures.less first c.in_ok-inside.ensures.gives c.in_ok-expr.ensures.gives (Fault c.in_err-expect.field-0.0) c.in_err-expect.ensures.gives)

pub primary_of-returns-then-next-eq40-clause-gives : goal.primary_of-returns-then-next-eq40-clause-gives
primary_of-returns-then-next-eq40-clause-gives t c =
    let here = c.args.cursor.now in
    let first : head here ≡ 40 = sym c.peek-next.ensures ∙ c.if-next-eq40.true in
    group-done c.in_ok-inside.inside c.args.room here c.open_one.new.self c.or_of.new.cursor c.in_ok-expr.expr c.in_ok-inside.ensures.less first c.in_ok-inside.ensures.gives c.in_ok-expr.ensures.gives c.expect.new.self c.in_ok-expect.ensures.gives
