use Rattle.std.proofs.Common.{◌≡◌, ◌∙◌, ℕ, true, false, length, Err, rules, arith, sym, ap, refl}
use Rattle.std.proofs.lemmas.Result.{err_from_is_err_and}
use Rattle.json_text.specs.Place.{head}
use Rattle.json_text.specs.Reading.{value, member}
use Rattle.json_text.specs.declared.error.JsonFault.TheVariants.{TooDeep}
use Rattle.json_text.proofs.Turns.{Fails-bind, ElementsSoFar-begin, ElementsSoFar-fail, ElementsSoFar-stop, ElementsSoFar-end, ElementsSoFar-goes}
use Rattle.json_text.proofs.Values.{value-list, value-object, deep-list, deep-object, value-scalar}
use Rattle.json_text.proofs.reader.+read.Goals as goal

pub items_of-items-init : goal.items_of-items-init
items_of-items-init t c =
    let stays = c.is_closed.ensures.goes_on c.if-is_closed.false in (
      c.is_closed.ensures.no_longer,
      λ n h.
          rw c.in_ok-found.ensures (ElementsSoFar-begin (value c.args.depth) 93 n c.args.cursor.now c.is_closed.new.cursor stays.1 stays.0 (omega (arith, c.is_closed.ensures.no_longer))),
    )

pub items_of-returns-in_err-value_of-clause-gives : goal.items_of-returns-in_err-value_of-clause-gives
items_of-returns-in_err-value_of-clause-gives t c = λ n h.
    let p = err_from_is_err_and c.from_residual-in_err-value_of.result c.from_residual-in_err-value_of.ensures.1 in
    rw (p.1, p.2) (ElementsSoFar-fail (value c.args.depth) 93 n c.args.cursor.now c.items.cursor c.items.found _ (c.items.invariant.1 n h) c.in_err-value_of.ensures.gives)

pub items_of-returns-in_err-goes_on-clause-gives : goal.items_of-returns-in_err-goes_on-clause-gives
items_of-returns-in_err-goes_on-clause-gives t c = λ n h.
    let p = err_from_is_err_and c.from_residual-in_err-goes_on.result c.from_residual-in_err-goes_on.ensures.1 in
    rw (p.1, p.2) (ElementsSoFar-stop (value c.args.depth) 93 n c.args.cursor.now c.items.cursor c.items.found _ c.value_of.new.cursor c.in_ok-value_of.field-0 (c.items.invariant.1 n h) c.in_ok-value_of.ensures.gives c.in_err-goes_on.ensures.gives)

pub items_of-returns-then-not-branch-clause-gives : goal.items_of-returns-then-not-branch-clause-gives
items_of-returns-then-not-branch-clause-gives t c = λ n h.
    let ends : c.in_ok-goes_on.field-0 ≡ false = search rules in
    rw c.in_ok-push.ensures.ok (ElementsSoFar-end (value c.args.depth) 93 n c.args.cursor.now c.items.cursor c.items.found c.value_of.new.cursor c.goes_on.new.cursor c.in_ok-value_of.field-0 (c.items.invariant.1 n h) c.in_ok-value_of.ensures.gives (rw ends at c.in_ok-goes_on.ensures.gives))

pub items_of-items-preserved : goal.items_of-items-preserved
items_of-items-preserved t c =
    let goes : c.in_ok-goes_on.field-0 ≡ true = search rules in
    let one_less = c.in_ok-value_of.ensures.shorter in
    let comma_less = c.in_ok-goes_on.ensures.shorter in (
      omega (arith, one_less, comma_less, c.items.invariant.0),
      λ n h.
          rw c.in_ok-push.ensures.ok (ElementsSoFar-goes (value c.args.depth) 93 n c.args.cursor.now c.items.cursor c.items.found c.value_of.new.cursor c.goes_on.new.cursor c.in_ok-value_of.field-0 (c.items.invariant.1 n h) c.in_ok-value_of.ensures.gives (rw goes at c.in_ok-goes_on.ensures.gives) (omega (arith, one_less, comma_less))),
    )

pub members_of-members-init : goal.members_of-members-init
members_of-members-init t c =
    let stays = c.is_closed.ensures.goes_on c.if-is_closed.false in (
      c.is_closed.ensures.no_longer,
      λ n h.
          rw c.in_ok-found.ensures (ElementsSoFar-begin (member (value c.args.depth)) 125 n c.args.cursor.now c.is_closed.new.cursor stays.1 stays.0 (omega (arith, c.is_closed.ensures.no_longer))),
    )

pub members_of-returns-in_err-member_of-clause-gives : goal.members_of-returns-in_err-member_of-clause-gives
members_of-returns-in_err-member_of-clause-gives t c = λ n h.
    let p = err_from_is_err_and c.from_residual-in_err-member_of.result c.from_residual-in_err-member_of.ensures.1 in
    rw (p.1, p.2) (ElementsSoFar-fail (member (value c.args.depth)) 125 n c.args.cursor.now c.members.cursor c.members.found _ (c.members.invariant.1 n h) c.in_err-member_of.ensures.gives)

pub members_of-returns-in_err-goes_on-clause-gives : goal.members_of-returns-in_err-goes_on-clause-gives
members_of-returns-in_err-goes_on-clause-gives t c = λ n h.
    let p = err_from_is_err_and c.from_residual-in_err-goes_on.result c.from_residual-in_err-goes_on.ensures.1 in
    rw (p.1, p.2) (ElementsSoFar-stop (member (value c.args.depth)) 125 n c.args.cursor.now c.members.cursor c.members.found _ c.member_of.new.cursor c.in_ok-member_of.field-0 (c.members.invariant.1 n h) c.in_ok-member_of.ensures.gives c.in_err-goes_on.ensures.gives)

pub members_of-returns-then-not-branch-clause-gives : goal.members_of-returns-then-not-branch-clause-gives
members_of-returns-then-not-branch-clause-gives t c = λ n h.
    let ends : c.in_ok-goes_on.field-0 ≡ false = search rules in
    rw c.in_ok-push.ensures.ok (ElementsSoFar-end (member (value c.args.depth)) 125 n c.args.cursor.now c.members.cursor c.members.found c.member_of.new.cursor c.goes_on.new.cursor c.in_ok-member_of.field-0 (c.members.invariant.1 n h) c.in_ok-member_of.ensures.gives (rw ends at c.in_ok-goes_on.ensures.gives))

pub members_of-members-preserved : goal.members_of-members-preserved
members_of-members-preserved t c =
    let goes : c.in_ok-goes_on.field-0 ≡ true = search rules in
    let one_less = c.in_ok-member_of.ensures.shorter in
    let comma_less = c.in_ok-goes_on.ensures.shorter in (
      omega (arith, one_less, comma_less, c.members.invariant.0),
      λ n h.
          rw c.in_ok-push.ensures.ok (ElementsSoFar-goes (member (value c.args.depth)) 125 n c.args.cursor.now c.members.cursor c.members.found c.member_of.new.cursor c.goes_on.new.cursor c.in_ok-member_of.field-0 (c.members.invariant.1 n h) c.in_ok-member_of.ensures.gives (rw goes at c.in_ok-goes_on.ensures.gives) (omega (arith, one_less, comma_less))),
    )

pub value_of-returns-then-depth-eq0-clause-gives : goal.value_of-returns-then-depth-eq0-clause-gives
value_of-returns-then-depth-eq0-clause-gives t c =
    deep-list c.args.depth c.args.cursor.now (sym c.peek-next.ensures ∙ c.if-next-eq91.true) c.if-depth-eq0.true ∙ ap (λ (n : ℕ). Err (TooDeep n)) (sym c.at-at.ensures)

pub value_of-returns-then-depth-eq0-2-clause-gives : goal.value_of-returns-then-depth-eq0-2-clause-gives
value_of-returns-then-depth-eq0-2-clause-gives t c =
    deep-object c.args.depth c.args.cursor.now (sym c.peek-next.ensures ∙ c.if-next-eq123.true) c.if-depth-eq0-2.true ∙ ap (λ (n : ℕ). Err (TooDeep n)) (sym c.at-at.ensures)

pub value_of-returns-in_err-items-clause-gives : goal.value_of-returns-in_err-items-clause-gives
value_of-returns-in_err-items-clause-gives t c =
    let here = c.args.cursor.now in
    let p = err_from_is_err_and c.from_residual.result c.from_residual.ensures.1 in
    let first : head here ≡ 91 = sym c.peek-next.ensures ∙ c.if-next-eq91.true in
    let inner = c.in_err-items.ensures.gives (length here.left) (omega (arith, c.step.ensures.shorter)) in
    rw (p.1, p.2, value-list c.args.depth here first (omega arith)) (Fails-bind _ _ _ (rw c.step.ensures.moved at inner))

pub value_of-returns-in_err-members-clause-gives : goal.value_of-returns-in_err-members-clause-gives
value_of-returns-in_err-members-clause-gives t c =
    let here = c.args.cursor.now in
    let p = err_from_is_err_and c.from_residual-in_err-members.result c.from_residual-in_err-members.ensures.1 in
    let first : head here ≡ 123 = sym c.peek-next.ensures ∙ c.if-next-eq123.true in
    let inner = c.in_err-members.ensures.gives (length here.left) (omega (arith, c.step-then-next-eq123.ensures.shorter)) in
    rw (p.1, p.2, value-object c.args.depth here first (omega arith)) (Fails-bind _ _ _ (rw c.step-then-next-eq123.ensures.moved at inner))

pub value_of-returns-in_ok-items-clause-gives : goal.value_of-returns-in_ok-items-clause-gives
value_of-returns-in_ok-items-clause-gives t c =
    let here = c.args.cursor.now in
    let first : head here ≡ 91 = sym c.peek-next.ensures ∙ c.if-next-eq91.true in
    let inner = c.in_ok-items.ensures.gives (length here.left) (omega (arith, c.step.ensures.shorter)) in
    rw (value-list c.args.depth here first (omega arith), rw c.step.ensures.moved at inner, c.at-at.ensures) refl

pub value_of-returns-in_ok-members-clause-gives : goal.value_of-returns-in_ok-members-clause-gives
value_of-returns-in_ok-members-clause-gives t c =
    let here = c.args.cursor.now in
    let first : head here ≡ 123 = sym c.peek-next.ensures ∙ c.if-next-eq123.true in
    let inner = c.in_ok-members.ensures.gives (length here.left) (omega (arith, c.step-then-next-eq123.ensures.shorter)) in
    rw (value-object c.args.depth here first (omega arith), rw c.step-then-next-eq123.ensures.moved at inner, c.at-at.ensures) refl

pub value_of-returns-else-next-eq123-clause-gives : goal.value_of-returns-else-next-eq123-clause-gives
value_of-returns-else-next-eq123-clause-gives t c =
    let here = c.args.cursor.now in
    rw (value-scalar c.args.depth here (λ h. c.if-next-eq91.false (c.peek-next.ensures ∙ h)) (λ h. c.if-next-eq123.false (c.peek-next.ensures ∙ h))) c.scalar.ensures.gives
