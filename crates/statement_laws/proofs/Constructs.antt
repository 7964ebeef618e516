-- Readings with constructs inside go beside the runs of their rules.
use Rattle.std.proofs.Common.{◌≡◌, ◌∙◌, ℕ, Bool, true, false, List, [], ◌∷◌, length, Option, Some, None, Result, Ok, refl, arith, cond}
use Rattle.std.specs.Prelude.{◌==◌, ◌||◌}
use Rattle.contract_words.specs.Grammar.{Rule, nothing, byte, alt, seq, many, first}
use Rattle.contract_words.specs.Rows.{run}
use Rattle.contract_words.proofs.Machine.{run-seq}
use Rattle.ottl_lex.specs.Codes.{lower, upper, quoted, digits, not_word, and_word, or_word, equal, unequal, at_most, at_least}
use Rattle.ottl_lex.specs.Quoted.{◌>>=◌}
use Rattle.ottl_lex.specs.declared.fault.SyntaxFault.{SyntaxFault}
use Rattle.ottl_parse.specs.Grammar.{one, optional, key_rule, part_rule, product_rule, sum_rule, is_comparison_sign, comparison_rule, and_rule, expr_rule}
use Rattle.ottl_parse.specs.Place.{Rest, head, place, slice, past}
use Rattle.ottl_parse.specs.Reading as reading
use Rattle.ottl_parse.specs.Reading.{Reads, Inside, with_front, pieces, make, level, is_product_sign, is_sum_sign}
use Rattle.ottl_parse.specs.declared.expr.Expr.{Expr}
use Rattle.ottl_parse.specs.declared.expr.ExprKind.{ExprKind}
use Rattle.ottl_parse.specs.declared.expr.ExprKind.TheVariants as kinds
use Rattle.ottl_parse.specs.declared.sign.Sign.{Sign}
use Rattle.ottl_parse.specs.declared.sign.Sign.TheVariants.{Equal, Unequal, Less, AtMost, Greater, AtLeast}
use Rattle.statement_laws.proofs.Factored.{opens, closed, literal, further, arguments, named, group, list, pairs, primary, negated}
use Rattle.statement_laws.proofs.Runs.{codes, Follows, here, behind, follows-then, bind, bind-known, bind-stays, stays, same-run, less, either}
use Rattle.statement_laws.proofs.Parts.{run-left, run-right, or-none, takes, in-seq, choose, absent, this-follows, bytes-follow, front-follows, make-follows, pieces-follow, ends-follow, text-follows, index-follows, literal-follows}

-- the second of two tests
second : (a b : Bool) → (a || b) ≡ true → a ≡ false → b ≡ true
second true b h none = absurd cc
second false b h none = h

-- elements up to a token that closes
module _ (deeper : Bool) {X : Type 0} (rule : Rule) (read : Rest → Reads X) (close : ℕ) (some : (0 == close) ≡ false)
    (each : (rs : List Rule) (r : Rest) → Follows behind deeper 0 (run (rule ∷ rs) (codes r)) r rs (read r)) where
  comma-follows : (rs : List Rule) (r : Rest) → (head r == 44) ≡ true → Follows behind deeper 1 (run (seq (one 44) rule ∷ rs) (codes r)) r rs (read (past r))
  comma-follows rs r is =
      in-seq deeper behind 1 (one 44) rule rs r rs _ (follows-then behind deeper 1 _ r (past r) (rule ∷ rs) rs _ (takes (λ b. b == 44) (rule ∷ rs) r refl is) (each rs (past r)))

  elements-follow : (rs : List Rule) (r : Rest) → Follows behind deeper 0 (run (seq rule (seq (many (seq (one 44) rule)) (one close)) ∷ rs) (codes r)) r rs (reading.elements read close r)
  elements-follow rs r =
      let more : Rule = many (seq (one 44) rule) in
      in-seq deeper behind 0 rule (seq more (one close)) rs r rs _
      (bind behind behind deeper 0 _ r (seq more (one close) ∷ rs) rs (read r) _ (each (seq more (one close) ∷ rs) r)
      (λ p. in-seq deeper behind 0 more (one close) rs p.1 rs _
      (bind behind behind deeper 0 _ p.1 (one close ∷ rs) rs _ _
      (front-follows deeper (p.0 ∷ []) 0 _ p.1 (one close ∷ rs) _
      (pieces-follow deeper (λ c. c == 44) (λ q. read (past q)) (seq (one 44) rule) refl (λ b. or-none (b == 44)) comma-follows (length p.1.left) (one close ∷ rs) p.1 (omega arith)))
      (λ all. less behind deeper 1 _ all.1 rs _ (bind-stays here behind deeper 1 _ all.1 rs (reading.this close all.1) _ (this-follows deeper close rs all.1 some) (λ e. refl))))))

  pub sequence-follows : (rs : List Rule) (r : Rest) → Follows behind deeper 0 (run (closed rule close ∷ rs) (codes r)) r rs (reading.sequence read close r)
  unfolding reading.sequence
  sequence-follows rs r =
      choose deeper behind 0 (one close) _ rs r rs (head r == close) _ _ some refl refl
      (λ is. less {B = List X × Rest} behind deeper 1 _ r rs (Ok ([], past r)) (takes (λ b. b == close) rs r some is))
      (λ is. elements-follow rs r)

-- With constructs, which open as the grammar's do, and inside which the rest goes beside its rules.
module _ (deeper more : Bool) (inside : Inside) (expr operand : Rule) (Can : Type 0)
    (opening : (c : ℕ) (rs : List Rule) (r : Rest) → (0 == c) ≡ false → (head r == c) ≡ true → Follows here deeper 1 (run (opens more c ∷ rs) (codes r)) r rs (inside.opening r))
    (can : (r q : Rest) → inside.opening r ≡ Ok q → Can)
    (exprs : Can → (rs : List Rule) (r : Rest) → Follows behind deeper 0 (run (expr ∷ rs) (codes r)) r rs (inside.expr r))
    (operands : Can → (rs : List Rule) (r : Rest) → Follows behind deeper 0 (run (operand ∷ rs) (codes r)) r rs (inside.operand r)) where
  -- what stands behind the token that opens
  opened : {A : Type 0} (to : A → Rest) (c : ℕ) (rule : Rule) (rs rows : List Rule) (r : Rest) (f : Rest → Result A SyntaxFault) → (0 == c) ≡ false → (head r == c) ≡ true
      → (Can → (q : Rest) → Follows to deeper 0 (run (rule ∷ rs) (codes q)) q rows (f q)) → Follows to deeper 1 (run (seq (opens more c) rule ∷ rs) (codes r)) r rows (inside.opening r >>= f)
  opened to c rule rs rows r f some is h =
      in-seq deeper to 1 (opens more c) rule rs r rows _
      (bind-known here to deeper 1 _ r (rule ∷ rs) rows (inside.opening r) f (opening c (rule ∷ rs) r some is) (λ q known. h (can r q known) q))

  within-follows : {X : Type 0} (read : Rest → Reads X) (rule : Rule) (c close : ℕ) (rs : List Rule) (r : Rest) → (0 == c) ≡ false → (0 == close) ≡ false → (head r == c) ≡ true
      → (Can → (ss : List Rule) (q : Rest) → Follows behind deeper 0 (run (rule ∷ ss) (codes q)) q ss (read q))
      → Follows behind deeper 1 (run (seq (opens more c) (closed rule close) ∷ rs) (codes r)) r rs (reading.within inside read close r)
  within-follows read rule c close rs r some some_close is each =
      opened behind c (closed rule close) rs rs r _ some is (λ u q. sequence-follows deeper rule read close some_close (each u) rs q)

  -- Paths.
  inside-key : (rs : List Rule) (r : Rest) → Follows behind deeper 1 (run (alt (one quoted) (one digits) ∷ rs) (codes r)) r rs (reading.key_inside r)
  inside-key rs r = choose deeper behind 1 (one quoted) (one digits) rs r rs (head r == quoted) _ _ refl refl refl
      (λ is. bind-stays behind behind deeper 1 _ r rs (reading.text r) _ (text-follows deeper rs r) (λ t. refl))
      (λ is. bind-stays behind behind deeper 1 _ r rs (reading.index r) _ (index-follows deeper rs r) (λ n. refl))

  key-follows : (rs : List Rule) (r : Rest) → (head r == 91) ≡ true → Follows behind deeper 1 (run (key_rule (opens more) ∷ rs) (codes r)) r rs (reading.key inside r)
  unfolding reading.key
  key-follows rs r is =
      let content : Rule = alt (one quoted) (one digits) in
      bind behind behind deeper 1 _ r (one 93 ∷ rs) rs _ _
      (opened behind 91 (seq content (one 93)) rs (one 93 ∷ rs) r reading.key_inside refl is
      (λ u q. in-seq deeper behind 0 content (one 93) rs q (one 93 ∷ rs) _ (less behind deeper 1 _ q (one 93 ∷ rs) _ (inside-key (one 93 ∷ rs) q))))
      (λ k. less behind deeper 1 _ k.1 rs _ (bind-stays here behind deeper 1 _ k.1 rs (reading.this 93 k.1) _ (this-follows deeper 93 rs k.1 refl) (λ e. refl)))

  further-name : (rs : List Rule) (r : Rest) → (head r == 46) ≡ true → Follows behind deeper 1 (run (seq (one 46) (one lower) ∷ rs) (codes r)) r rs (reading.further_name r)
  further-name rs r is =
      in-seq deeper behind 1 (one 46) (one lower) rs r rs _ (follows-then behind deeper 1 _ r (past r) (one lower ∷ rs) rs _ (takes (λ b. b == 46) (one lower ∷ rs) r refl is)
      (less behind deeper 1 _ (past r) rs _ (bytes-follow deeper lower rs (past r) refl)))

  path-follows : (name : List ℕ) (rs : List Rule) (r : Rest) → Follows behind deeper 0 (run (further more ∷ rs) (codes r)) r rs (reading.path_behind inside name r)
  unfolding reading.path_behind
  path-follows name rs r =
      let names : Rule = many (seq (one 46) (one lower)) in
      let keys : Rule = many (key_rule (opens more)) in
      in-seq deeper behind 0 names keys rs r rs _
      (bind behind behind deeper 0 _ r (keys ∷ rs) rs _ _
      (front-follows deeper (name ∷ []) 0 _ r (keys ∷ rs) _
      (pieces-follow deeper (λ c. c == 46) reading.further_name (seq (one 46) (one lower)) refl (λ b. or-none (b == 46)) further-name (length r.left) (keys ∷ rs) r (omega arith)))
      (λ ns. bind-stays behind behind deeper 0 _ ns.1 rs _ _
      (pieces-follow deeper (λ c. c == 91) (reading.key inside) (key_rule (opens more)) refl (λ b. or-none ((b == 91) || false) ∙ or-none (b == 91)) key-follows (length ns.1.left) rs ns.1 (omega arith))
      (λ ks. refl)))

  -- Calls, lists, maps, groups.
  part-follows : Can → (rs : List Rule) (r : Rest) → Follows behind deeper 0 (run (part_rule expr ∷ rs) (codes r)) r rs (reading.part inside.expr r)
  unfolding reading.part
  part-follows u rs r =
      in-seq deeper behind 0 (one quoted) (seq (one 58) expr) rs r rs _
      (bind behind behind deeper 0 _ r (seq (one 58) expr ∷ rs) rs (reading.text r) _ (less behind deeper 1 _ r _ _ (text-follows deeper (seq (one 58) expr ∷ rs) r))
      (λ k. in-seq deeper behind 0 (one 58) expr rs k.1 rs _
      (bind-stays behind behind deeper 0 _ k.1 rs _ _
      (less behind deeper 1 _ k.1 rs _ (bind here behind deeper 1 _ k.1 (expr ∷ rs) rs (reading.this 58 k.1) inside.expr (this-follows deeper 58 (expr ∷ rs) k.1 refl) (exprs u rs)))
      (λ v. refl))))

  pub call-follows : (at : ℕ) (name : List ℕ) (rs : List Rule) (r : Rest) → (head r == 40) ≡ true → Follows behind deeper 1 (run (arguments more expr ∷ rs) (codes r)) r rs (reading.call_behind inside at name r)
  call-follows at name rs r is = bind-stays behind behind deeper 1 _ r rs _ _ (within-follows inside.expr expr 40 41 rs r refl refl is exprs) (λ p. refl)

  -- what a name begins
  first-arguments : (b : ℕ) (t : Bool) → (b == 40) ≡ t → first (arguments more expr) b ≡ t
  first-arguments b t is = or-none ((b == 40) || false) ∙ or-none (b == 40) ∙ is

  lower-named : (rs : List Rule) (r : Rest) → (head r == lower) ≡ true → run (named more expr ∷ rs) (codes r) ≡ run (one lower ∷ alt (arguments more expr) (further more) ∷ rs) (codes r)
  lower-named rs r is =
      run-left (seq (one lower) (alt (arguments more expr) (further more))) (seq (one upper) (optional (arguments more expr))) rs r refl (or-none (head r == lower) ∙ is)
      ∙ run-seq (one lower) (alt (arguments more expr) (further more)) rs (codes r)

  upper-named : (rs : List Rule) (r : Rest) → (head r == lower) ≡ false → run (named more expr ∷ rs) (codes r) ≡ run (one upper ∷ optional (arguments more expr) ∷ rs) (codes r)
  upper-named rs r is =
      run-right (seq (one lower) (alt (arguments more expr) (further more))) (seq (one upper) (optional (arguments more expr))) rs r refl (or-none (head r == lower) ∙ is)
      ∙ run-seq (one upper) (optional (arguments more expr)) rs (codes r)

  named-follows : (rs : List Rule) (r : Rest) → (head r == lower || head r == upper) ≡ true → Follows behind deeper 1 (run (named more expr ∷ rs) (codes r)) r rs (reading.named inside r)
  unfolding reading.named
  named-follows rs r is = by (head r == lower) refl where
    by : (low : Bool) → (head r == lower) ≡ low → Follows behind deeper 1 (run (named more expr ∷ rs) (codes r)) r rs
        (cond (head (past r) == 40) (reading.call_behind inside (place r) (slice r) (past r) >>= λ c. Ok (kinds.Call c.0, c.1))
        (cond low (reading.path_behind inside (slice r) (past r) >>= λ p. Ok (kinds.Path p.0, p.1)) (Ok (kinds.Enum (slice r), past r))))
    by true low =
        let behind_name : Rule = alt (arguments more expr) (further more) in
        same-run behind deeper 1 _ _ r rs _ (lower-named rs r low)
        (follows-then behind deeper 1 _ r (past r) (behind_name ∷ rs) rs _ (takes (λ b. b == lower) (behind_name ∷ rs) r refl low)
        (choose deeper behind 0 (arguments more expr) (further more) rs (past r) rs (head (past r) == 40) _ _ refl refl (first-arguments (head (past r)) (head (past r) == 40) refl)
        (λ paren. less behind deeper 1 _ (past r) rs _ (bind-stays behind behind deeper 1 _ (past r) rs _ _ (call-follows (place r) (slice r) rs (past r) paren) (λ c. refl)))
        (λ other. bind-stays behind behind deeper 0 _ (past r) rs _ _ (path-follows (slice r) rs (past r)) (λ p. refl))))
    by false low =
        same-run behind deeper 1 _ _ r rs _ (upper-named rs r low)
        (follows-then behind deeper 1 _ r (past r) (optional (arguments more expr) ∷ rs) rs _ (takes (λ b. b == upper) (optional (arguments more expr) ∷ rs) r refl (second (head r == lower) (head r == upper) is low))
        (either behind deeper 0 _ (past r) rs (head (past r) == 40) _ _
        (λ paren. same-run behind deeper 0 _ _ (past r) rs _ (run-left (arguments more expr) nothing rs (past r) refl (first-arguments (head (past r)) true paren))
        (less behind deeper 1 _ (past r) rs _ (bind-stays behind behind deeper 1 _ (past r) rs _ _ (call-follows (place r) (slice r) rs (past r) paren) (λ c. refl))))
        (λ other. absent deeper (arguments more expr) rs (past r) refl (first-arguments (head (past r)) false other))))

  group-follows : (rs : List Rule) (r : Rest) → (head r == 40) ≡ true → Follows behind deeper 1 (run (group more expr ∷ rs) (codes r)) r rs (reading.group inside r)
  group-follows rs r is =
      bind behind behind deeper 1 _ r (one 41 ∷ rs) rs _ _
      (opened behind 40 (seq expr (one 41)) rs (one 41 ∷ rs) r inside.expr refl is (λ u q. in-seq deeper behind 0 expr (one 41) rs q (one 41 ∷ rs) _ (exprs u (one 41 ∷ rs) q)))
      (λ p. less behind deeper 1 _ p.1 rs _ (bind-stays here behind deeper 1 _ p.1 rs (reading.this 41 p.1) _ (this-follows deeper 41 rs p.1 refl) (λ e. refl)))

  first-construct : (c b : ℕ) (t : Bool) → (b == c) ≡ t → (((b == c) || false) || false) ≡ t
  first-construct c b t is = or-none ((b == c) || false) ∙ or-none (b == c) ∙ is

  two-none : (s t : Bool) → ((s || false) || (t || false)) ≡ (s || t)
  two-none true t = refl
  two-none false t = or-none t

  primary-follows : (rs : List Rule) (r : Rest) → Follows behind deeper 1 (run (primary more expr ∷ rs) (codes r)) r rs (reading.primary inside r)
  unfolding reading.primary
  primary-follows rs r =
      choose deeper behind 1 (group more expr) _ rs r rs (head r == 40) _ _ refl refl (first-construct 40 (head r) (head r == 40) refl) (group-follows rs r) (λ _.
      choose deeper behind 1 (list more expr) _ rs r rs (head r == 91) _ _ refl refl (first-construct 91 (head r) (head r == 91) refl)
      (λ is. make-follows deeper _ 1 _ r r rs _ (within-follows inside.expr expr 91 93 rs r refl refl is exprs)) (λ _.
      choose deeper behind 1 (pairs more expr) _ rs r rs (head r == 123) _ _ refl refl (first-construct 123 (head r) (head r == 123) refl)
      (λ is. make-follows deeper _ 1 _ r r rs _ (within-follows (reading.part inside.expr) (part_rule expr) 123 125 rs r refl refl is part-follows)) (λ _.
      choose deeper behind 1 (named more expr) literal rs r rs (head r == lower || head r == upper) _ _ refl refl (two-none (head r == lower) (head r == upper))
      (λ is. make-follows deeper _ 1 _ r r rs _ (named-follows rs r is)) (λ _.
      make-follows deeper _ 1 _ r r rs _ (literal-follows deeper rs r)))))

  -- Levels of binding.
  level-follows : {X : Type 0} (begin : Expr → X) (kind : List X → ExprKind) (begins : ℕ → Bool) (read : Rest → Reads Expr) (next : Rest → Reads X) (a b : Rule)
      → begins 0 ≡ false → ((c : ℕ) → first b c ≡ begins c)
      → ((rs : List Rule) (r : Rest) → Follows behind deeper 1 (run (a ∷ rs) (codes r)) r rs (read r))
      → ((rs : List Rule) (r : Rest) → begins (head r) ≡ true → Follows behind deeper 1 (run (b ∷ rs) (codes r)) r rs (next r))
      → (rs : List Rule) (r : Rest) → Follows behind deeper 1 (run (seq a (many b) ∷ rs) (codes r)) r rs (level begin kind begins read next r)
  level-follows begin kind begins read next a b none firsts each further_ones rs r =
      in-seq deeper behind 1 a (many b) rs r rs _
      (bind behind behind deeper 1 _ r (many b ∷ rs) rs (read r) _ (each (many b ∷ rs) r)
      (λ p. either behind deeper 0 _ p.1 rs (begins (head p.1)) _ _
      (λ is. make-follows deeper kind 0 _ r p.1 rs _ (front-follows deeper (begin p.0 ∷ []) 0 _ p.1 rs _ (pieces-follow deeper begins next b none firsts further_ones (length p.1.left) rs p.1 (omega arith))))
      (λ is. stays _ p.1 rs (ends-follow deeper begins next b none firsts further_ones rs p.1 is))))

  -- a sign, and an operand behind it
  behind-sign : {X : Type 0} (kind : ℕ → Bool) (a : Rule) (rs : List Rule) (r : Rest) (m : Reads X) → kind 0 ≡ false → kind (head r) ≡ true
      → Follows behind deeper 1 (run (a ∷ rs) (codes (past r))) (past r) rs m → Follows behind deeper 1 (run (seq (byte kind) a ∷ rs) (codes r)) r rs m
  behind-sign kind a rs r m none is h =
      in-seq deeper behind 1 (byte kind) a rs r rs _
      (follows-then behind deeper 1 _ r (past r) (a ∷ rs) rs _ (takes kind (a ∷ rs) r none is) (less behind deeper 1 _ (past r) rs _ h))

  abbrev Primary : Rule
  Primary = primary more expr

  abbrev Product : Rule
  Product = product_rule Primary

  abbrev Sum : Rule
  Sum = sum_rule Product

  product-follows : (rs : List Rule) (r : Rest) → Follows behind deeper 1 (run (Product ∷ rs) (codes r)) r rs (reading.product inside r)
  unfolding reading.product
  product-follows rs r = level-follows _ _ is_product_sign (reading.primary inside) _ Primary (seq (byte is_product_sign) Primary) refl (λ c. or-none (is_product_sign c)) primary-follows
      (λ ss q is. behind-sign is_product_sign Primary ss q _ refl is (bind-stays behind behind deeper 1 _ (past q) ss _ _ (primary-follows ss (past q)) (λ p. refl))) rs r

  sum-follows : (rs : List Rule) (r : Rest) → Follows behind deeper 1 (run (Sum ∷ rs) (codes r)) r rs (reading.sum inside r)
  unfolding reading.sum
  sum-follows rs r = level-follows _ _ is_sum_sign (reading.product inside) _ Product (seq (byte is_sum_sign) Product) refl (λ c. or-none (is_sum_sign c)) product-follows
      (λ ss q is. behind-sign is_sum_sign Product ss q _ refl is (bind-stays behind behind deeper 1 _ (past q) ss _ _ (product-follows ss (past q)) (λ p. refl))) rs r

  -- a sign of a comparison is one
  some-sign : (a b c d e f : Bool) (s : Sign) → cond a (Some Equal) (cond b (Some Unequal) (cond c (Some Less) (cond d (Some AtMost) (cond e (Some Greater) (cond f (Some AtLeast) None))))) ≡ Some s
      → (a || b || c || d || e || f) ≡ true
  some-sign true b c d e f s is = refl
  some-sign false true c d e f s is = refl
  some-sign false false true d e f s is = refl
  some-sign false false false true e f s is = refl
  some-sign false false false false true f s is = refl
  some-sign false false false false false true s is = refl
  some-sign false false false false false false s is = absurd (cc)

  no-sign : (a b c d e f : Bool) → cond a (Some Equal) (cond b (Some Unequal) (cond c (Some Less) (cond d (Some AtMost) (cond e (Some Greater) (cond f (Some AtLeast) None))))) ≡ None
      → (a || b || c || d || e || f) ≡ false
  no-sign true b c d e f is = absurd (cc)
  no-sign false true c d e f is = absurd (cc)
  no-sign false false true d e f is = absurd (cc)
  no-sign false false false true e f is = absurd (cc)
  no-sign false false false false true f is = absurd (cc)
  no-sign false false false false false true is = absurd (cc)
  no-sign false false false false false false is = refl

  compared-follows : (start : Rest) (left : Expr) (o : Option Sign) (rs : List Rule) (q : Rest) → reading.comparison_sign (head q) ≡ o
      → Follows behind deeper 0 (run (optional (seq (byte is_comparison_sign) Sum) ∷ rs) (codes q)) q rs (reading.compared start left (reading.sum inside) o q)
  compared-follows start left None rs q is =
      absent deeper (seq (byte is_comparison_sign) Sum) rs q refl (or-none (is_comparison_sign (head q)) ∙ no-sign (head q == equal) (head q == unequal) (head q == 60) (head q == at_most) (head q == 62) (head q == at_least) is)
  compared-follows start left (Some sign) rs q is =
      let sign_is : is_comparison_sign (head q) ≡ true = some-sign (head q == equal) (head q == unequal) (head q == 60) (head q == at_most) (head q == 62) (head q == at_least) sign is in
      make-follows deeper _ 0 _ start q rs _
      (same-run behind deeper 0 _ _ q rs _ (run-left (seq (byte is_comparison_sign) Sum) nothing rs q refl (or-none (is_comparison_sign (head q)) ∙ sign_is))
      (less behind deeper 1 _ q rs _ (behind-sign is_comparison_sign Sum rs q _ refl sign_is (sum-follows rs (past q)))))

  comparison-follows : (rs : List Rule) (r : Rest) → Follows behind deeper 1 (run (comparison_rule Primary ∷ rs) (codes r)) r rs (reading.comparison inside r)
  unfolding reading.comparison
  comparison-follows rs r =
      let right : Rule = optional (seq (byte is_comparison_sign) Sum) in
      in-seq deeper behind 1 Sum right rs r rs _
      (bind behind behind deeper 1 _ r (right ∷ rs) rs (reading.sum inside r) _ (sum-follows (right ∷ rs) r) (λ p. compared-follows r p.0 (reading.comparison_sign (head p.1)) rs p.1 refl))

  abbrev Not : Rule
  Not = negated more operand expr

  pub negation-follows : (rs : List Rule) (r : Rest) → Follows behind deeper 1 (run (Not ∷ rs) (codes r)) r rs (reading.negation inside r)
  unfolding reading.negation
  negation-follows rs r =
      choose deeper behind 1 (seq (opens more not_word) operand) (comparison_rule Primary) rs r rs (head r == not_word) _ _ refl refl (first-construct not_word (head r) (head r == not_word) refl)
      (λ is. make-follows deeper _ 1 _ r r rs _ (opened behind not_word operand rs rs r inside.operand refl is (λ u q. operands u rs q)))
      (λ is. comparison-follows rs r)

  conjunction-follows : (rs : List Rule) (r : Rest) → Follows behind deeper 1 (run (and_rule Not ∷ rs) (codes r)) r rs (reading.conjunction inside r)
  unfolding reading.conjunction
  conjunction-follows rs r = level-follows _ _ (λ c. c == and_word) (reading.negation inside) _ Not (seq (one and_word) Not) refl (λ c. or-none (c == and_word)) negation-follows
      (λ ss q is. behind-sign (λ c. c == and_word) Not ss q _ refl is (negation-follows ss (past q))) rs r

  pub disjunction-follows : (rs : List Rule) (r : Rest) → Follows behind deeper 1 (run (expr_rule Not ∷ rs) (codes r)) r rs (reading.disjunction inside r)
  unfolding reading.disjunction
  disjunction-follows rs r = level-follows _ _ (λ c. c == or_word) (reading.conjunction inside) _ (and_rule Not) (seq (one or_word) (and_rule Not)) refl (λ c. or-none (c == or_word)) conjunction-follows
      (λ ss q is. behind-sign (λ c. c == or_word) (and_rule Not) ss q _ refl is (conjunction-follows ss (past q))) rs r
