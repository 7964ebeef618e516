-- Steps of the reader: how far its loops have read, and what reading gives from there.
use Rattle.std.proofs.Common.{◌≡◌, ◌∙◌, ℕ, zero, suc, ◌+◌, ◌<◌, ◌≤◌, Bool, true, false, List, [], ◌∷◌, ◌++◌, length, Result, Ok, Err, refl, sym, ap, arith, append_assoc, cond}
use Rattle.std.specs.Prelude.{Option, Some, None, IfSome, ◌==◌}
use Rattle.std.proofs.lemmas.Bool.Decides.{nat_tests}
use Rattle.std.proofs.lemmas.List.{append-nil}
use Rattle.ottl_lex.specs.Codes.{not_word}
use Rattle.ottl_lex.specs.Names.{fault_of}
use Rattle.ottl_lex.specs.Quoted.{◌>>=◌}
use Rattle.ottl_lex.specs.declared.fault.SyntaxFault.{SyntaxFault}
use Rattle.ottl_lex.specs.declared.fault.SyntaxStop.{SyntaxStop}
use Rattle.ottl_lex.specs.declared.token.Token.{Token}
use Rattle.ottl_parse.specs.Place.{Rest, head_of, head, place, past}
use Rattle.ottl_parse.specs.Reading.{Reads, with_front, this, pieces, level, Inside, within, sequence, make, group, primary, negation, disjunction, inside_of}
use Rattle.ottl_parse.specs.declared.expr.Expr.{Expr}
use Rattle.ottl_parse.specs.declared.expr.ExprKind.{ExprKind}
use Rattle.ottl_parse.specs.declared.expr.ExprKind.TheVariants as kinds

-- an error that a call met is the one of a reading, unless memory ran out
abbrev pub Fails : {X : Type 0} → SyntaxStop → Result X SyntaxFault → Type 0
Fails e read = IfSome (fault_of e) (λ f. read ≡ Err f)

some_also : (o : Option SyntaxFault) (P Q : SyntaxFault → Type 0) → ((f : SyntaxFault) → P f → Q f) → IfSome o P → IfSome o Q
some_also None P Q also h = tt
some_also (Some f) P Q also h = also f h

pub Fails-also : {X Y : Type 0} (e : SyntaxStop) (read : Result X SyntaxFault) (other : Result Y SyntaxFault)
    → ((f : SyntaxFault) → read ≡ Err f → other ≡ Err f) → Fails e read → Fails e other
Fails-also e read other also h = some_also (fault_of e) (λ f. read ≡ Err f) (λ f. other ≡ Err f) also h

pub Fails-bind : {A B : Type 0} (e : SyntaxStop) (read : Result A SyntaxFault) (f : A → Result B SyntaxFault) → Fails e read → Fails e (read >>= f)
Fails-bind e read f h = Fails-also e read (read >>= f) (λ g is. rw is refl) h

pub with_front-nil : {X : Type 0} (r : Reads (List X)) → with_front [] r ≡ r
with_front-nil (Ok p) = refl
with_front-nil (Err e) = refl

pub with_front-append : {X : Type 0} (a b : List X) (r : Reads (List X)) → with_front a (with_front b r) ≡ with_front (a ++ b) r
with_front-append a b (Ok p) = ap (λ xs. Ok (xs, p.1)) (sym (append_assoc a b p.0))
with_front-append a b (Err e) = refl

some_left : (r : Rest) → 0 < head r → 0 < length r.left
some_left r some = by_tokens r.left some where
  by_tokens : (ts : List Token) → 0 < head_of r.text ts → 0 < length ts
  by_tokens [] h = absurd (omega (arith, h))
  by_tokens (t ∷ ts) h = omega arith

pub is_code : (b c : ℕ) → b ≡ c → (b == c) ≡ true
is_code b c is = grind (arith, nat_tests)

pub other_code : (b c : ℕ) → (b ≡ c → ⊥) → (b == c) ≡ false
other_code b c other = grind (arith, nat_tests)

turn_of : (count turns : ℕ) → 0 < count → count ≤ turns → (t : ℕ) × (turns ≡ suc t)
turn_of count zero some h = absurd (omega (arith, some, h))
turn_of count (suc t) some h = (t, refl)

-- How far a loop has read: these pieces, and what reading gives from here.
pub record PiecesSoFar {X : Type 0} (begins : ℕ → Bool) (one : Rest → Reads X) (before : List X) (start : Rest) (found : List X) (here : Rest) : Type 0 where
  pub turns : ℕ
  pub enough : length here.left ≤ turns
  pub reads : with_front before (pieces begins one (length start.left) start) ≡ with_front found (pieces begins one turns here)

module _ {X : Type 0} (begins : ℕ → Bool) (one : Rest → Reads X) where
  pieces-goes : (t : ℕ) (here after : Rest) (x : X) → begins (head here) ≡ true → one here ≡ Ok (x, after)
      → pieces begins one (suc t) here ≡ with_front (x ∷ []) (pieces begins one t after)
  unfolding pieces
  pieces-goes t here after x is read = rw (is, read) refl

  pieces-fail : (t : ℕ) (here : Rest) (f : SyntaxFault) → begins (head here) ≡ true → one here ≡ Err f → pieces begins one (suc t) here ≡ Err f
  unfolding pieces
  pieces-fail t here f is read = rw (is, read) refl

  pub pieces-none : (turns : ℕ) (here : Rest) → begins (head here) ≡ false → pieces begins one turns here ≡ Ok ([], here)
  unfolding pieces
  pieces-none zero here is = refl
  pieces-none (suc t) here is = rw is refl

  module _ (before : List X) (start : Rest) where
    pub PiecesSoFar-begin : PiecesSoFar begins one before start before start
    PiecesSoFar-begin = record { turns = length start.left; enough = omega arith; reads = refl }

    module _ (here : Rest) (found : List X) (so_far : PiecesSoFar begins one before start found here) where
      pub PiecesSoFar-goes : (after : Rest) (x : X) → begins (head here) ≡ true → one here ≡ Ok (x, after) → length after.left < length here.left
          → PiecesSoFar begins one before start (found ++ x ∷ []) after
      PiecesSoFar-goes after x is read shorter =
          let t = turn_of (length here.left) so_far.turns (omega (arith, shorter)) so_far.enough in
          record {
            turns = t.0;
            enough = omega (arith, so_far.enough, t.1, shorter);
            reads = so_far.reads ∙ ap (with_front found) (ap (λ m. pieces begins one m here) t.1 ∙ pieces-goes t.0 here after x is read) ∙ with_front-append found (x ∷ []) (pieces begins one t.0 after);
          }

      pub PiecesSoFar-end : begins (head here) ≡ false → with_front before (pieces begins one (length start.left) start) ≡ Ok (found, here)
      PiecesSoFar-end is =
          so_far.reads ∙ ap (with_front found) (pieces-none so_far.turns here is) ∙ ap (λ xs. Ok (xs, here)) (append-nil found)

      fails : (f : SyntaxFault) → 0 < head here → begins (head here) ≡ true → one here ≡ Err f → with_front before (pieces begins one (length start.left) start) ≡ Err f
      fails f some is read =
          let t = turn_of (length here.left) so_far.turns (some_left here some) so_far.enough in
          so_far.reads ∙ ap (with_front found) (ap (λ m. pieces begins one m here) t.1 ∙ pieces-fail t.0 here f is read)

      pub PiecesSoFar-fail : (e : SyntaxStop) → 0 < head here → begins (head here) ≡ true → Fails e (one here)
          → Fails e (with_front before (pieces begins one (length start.left) start))
      PiecesSoFar-fail e some is read =
          Fails-also e (one here) (with_front before (pieces begins one (length start.left) start)) (λ f stop. fails f some is stop) read

-- Levels of binding.
module _ {X : Type 0} (first : Expr → X) (kind : List X → ExprKind) (begins : ℕ → Bool) (one : Rest → Reads Expr) (more : Rest → Reads X) (r : Rest) where
  pub level-fails : (e : SyntaxStop) → Fails e (one r) → Fails e (level first kind begins one more r)
  level-fails e h = Fails-bind e (one r) _ h

  module _ (x : Expr) (mid : Rest) (read : one r ≡ Ok (x, mid)) where
    pub level-alone : begins (head mid) ≡ false → level first kind begins one more r ≡ Ok (x, mid)
    level-alone is = rw (read, is) refl

    module _ (is : begins (head mid) ≡ true) (before : List X) (begun : before ≡ first x ∷ []) where
      pub level-joined : (xs : List X) (after : Rest) → with_front before (pieces begins more (length mid.left) mid) ≡ Ok (xs, after)
          → level first kind begins one more r ≡ Ok (record { at = place r; kind = kind xs }, after)
      level-joined xs after all = rw (read, is, rw begun at all) refl

      pub level-more-fails : (e : SyntaxStop) → Fails e (with_front before (pieces begins more (length mid.left) mid))
          → Fails e (level first kind begins one more r)
      level-more-fails e h = Fails-also e (with_front before (pieces begins more (length mid.left) mid)) (level first kind begins one more r)
          (λ f stop. rw (read, is, rw begun at stop) refl) h

-- What stands between a token that opens and one that closes.
module _ {X : Type 0} (inside : Inside) (one : Rest → Reads X) (close : ℕ) (r opened : Rest) (opens : inside.opening r ≡ Ok opened)
    (other : (head opened == close) ≡ false) (x : X) (mid : Rest) (read : one opened ≡ Ok (x, mid)) (before : List X) (begun : before ≡ x ∷ []) where
  abbrev Further : Reads (List X)
  Further = with_front before (pieces (λ c. c == 44) (λ q. one (past q)) (length mid.left) mid)

  pub within-more-fails : (e : SyntaxStop) → Fails e Further → Fails e (within inside one close r)
  unfolding sequence
  within-more-fails e h = Fails-also e Further (within inside one close r) (λ f stop. rw (opens, other, read, rw begun at stop) refl) h

  module _ (xs : List X) (last : Rest) (all : Further ≡ Ok (xs, last)) where
    pub within-close-fails : (e : SyntaxStop) → Fails e (this close last) → Fails e (within inside one close r)
    unfolding sequence
    within-close-fails e h = Fails-also e (this close last) (within inside one close r) (λ f stop. rw (opens, other, read, rw begun at all, stop) refl) h

    pub within-done : (after : Rest) → this close last ≡ Ok after → within inside one close r ≡ Ok (xs, after)
    unfolding sequence
    within-done after ends = rw (opens, other, read, rw begun at all, ends) refl

-- inside a construct where so many more may be open
abbrev pub inside_with : ℕ → Inside
inside_with left = record { opening = λ r. Ok (past r); expr = disjunction (inside_of left); operand = negation (inside_of left) }

pub inside-more : (left room : ℕ) → left + 1 ≡ room → inside_of room ≡ inside_with left
inside-more left zero is = absurd (omega (arith, is))
inside-more left (suc n) is = let same : n ≡ left = omega (arith, is) in rw same refl

cond-true : {X : Type 0} (t : Bool) (a b : X) → t ≡ true → cond t a b ≡ a
cond-true t a b is = rw is refl

negation-word : (inside : Inside) (r : Rest) → (head r == not_word) ≡ true → negation inside r ≡ make r kinds.Not (inside.opening r >>= inside.operand)
unfolding negation
negation-word inside r is = cond-true (head r == not_word) _ _ is

group-with : (left : ℕ) (r opened mid : Rest) (expr : Expr) → (inside_with left).opening r ≡ Ok opened → disjunction (inside_of left) opened ≡ Ok (expr, mid)
    → group (inside_with left) r ≡ (this 41 mid >>= λ e. Ok (expr, e))
group-with left r opened mid expr opens read = let same : opened ≡ past r = cc in rw (rw same at read) refl

negation-with : (left : ℕ) (r opened after : Rest) (operand : Expr) → head r ≡ not_word → (inside_with left).opening r ≡ Ok opened
    → negation (inside_of left) opened ≡ Ok (operand, after) → negation (inside_with left) r ≡ Ok (record { at = place r; kind = kinds.Not operand }, after)
negation-with left r opened after operand word opens read = negation-word (inside_with left) r (is_code (head r) not_word word) ∙ (let same : opened ≡ past r = cc in rw (rw same at read) refl)

pub negation-of : (left room : ℕ) (r opened after : Rest) (operand : Expr) → left + 1 ≡ room → head r ≡ not_word → (inside_of room).opening r ≡ Ok opened
    → negation (inside_of left) opened ≡ Ok (operand, after) → negation (inside_of room) r ≡ Ok (record { at = place r; kind = kinds.Not operand }, after)
negation-of left room r opened after operand less word opens read =
    let inside = inside-more left room less in
    rw inside (negation-with left r opened after operand word (rw inside at opens) read)

-- parentheses
module _ (left room : ℕ) (r opened mid : Rest) (expr : Expr) (less : left + 1 ≡ room) (first : head r ≡ 40) (opens : (inside_of room).opening r ≡ Ok opened)
    (read : disjunction (inside_of left) opened ≡ Ok (expr, mid)) where
  group-is : primary (inside_of room) r ≡ (this 41 mid >>= λ e. Ok (expr, e))
  unfolding primary
  group-is =
      let inside = inside-more left room less in
      cond-true (head r == 40) _ _ (is_code (head r) 40 first) ∙ rw inside (group-with left r opened mid expr (rw inside at opens) read)

  pub group-done : (after : Rest) → this 41 mid ≡ Ok after → primary (inside_of room) r ≡ Ok (expr, after)
  group-done after ends = group-is ∙ rw ends refl

  pub group-fails : (e : SyntaxStop) → Fails e (this 41 mid) → Fails e (primary (inside_of room) r)
  group-fails e h = Fails-also e (this 41 mid) (primary (inside_of room) r) (λ f stop. group-is ∙ rw stop refl) h
