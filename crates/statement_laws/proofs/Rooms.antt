-- Readings of statements and conditions go beside the runs of their rules.
use Rattle.std.proofs.Common.{◌≡◌, ◌∙◌, ℕ, zero, suc, ◌+◌, ◌<◌, Bool, true, false, List, [], ◌∷◌, length, Result, Ok, Err, refl, ap, arith, cond}
use Rattle.std.specs.Prelude.{◌==◌, ◌||◌}
use Rattle.std.proofs.lemmas.Bool.Decides.{nat_tests}
use Rattle.contract_words.specs.Grammar.{Rule, nothing, alt, seq}
use Rattle.contract_words.specs.Rows.{run}
use Rattle.contract_words.proofs.Machine.{run-seq, run-nothing}
use Rattle.ottl_lex.specs.Codes.{lower, upper, where_word}
use Rattle.ottl_lex.specs.Quoted.{◌>>=◌}
use Rattle.ottl_lex.specs.declared.fault.SyntaxFault.{SyntaxFault}
use Rattle.ottl_lex.specs.declared.fault.SyntaxKind.TheVariants.{Unexpected}
use Rattle.ottl_lex.specs.declared.token.Token.{Token}
use Rattle.ottl_parse.specs.Grammar.{codes_of, one, optional, never}
use Rattle.ottl_parse.specs.Parsing as parsing
use Rattle.ottl_parse.specs.Parsing.{max_open, at_end}
use Rattle.ottl_parse.specs.Place.{Rest, head, place, slice, past}
use Rattle.ottl_parse.specs.Reading as reading
use Rattle.ottl_parse.specs.Reading.{Reads, inside_of}
use Rattle.statement_laws.proofs.Factored.{opens, closed, arguments, negation, condition, call, statement}
use Rattle.statement_laws.proofs.Runs.{codes, ahead, Goes, Fails, Follows, here, behind, goes-then, follows-then, bind, bind-stays, stays, same-run, less, either}
use Rattle.statement_laws.proofs.Parts.{run-left, run-right, or-none, takes, refuses, stopped, in-seq, absent}
use Rattle.statement_laws.proofs.Constructs.{call-follows, negation-follows, disjunction-follows}

-- whether the grammar nests as deep as the reading, or deeper
abbrev pub Depths : Bool → ℕ → ℕ → Type 0
Depths false room depth = room ≡ depth
Depths true room depth = room < depth

-- where so many constructs may be open in the reading and in the grammar
record Beside (deeper : Bool) (room depth : ℕ) : Type 0 where
  negations : (rs : List Rule) (r : Rest) → Follows behind deeper 1 (run (negation depth ∷ rs) (codes r)) r rs (reading.negation (inside_of room) r)
  exprs : (rs : List Rule) (r : Rest) → Follows behind deeper 1 (run (condition depth ∷ rs) (codes r)) r rs (reading.disjunction (inside_of room) r)

-- behind a token that opens a construct too many no text goes on
dead : (c : ℕ) (rs : List Rule) (r : Rest) → (0 == c) ≡ false → (head r == c) ≡ true → (run (opens false c ∷ rs) (codes r)).1 ≡ false
dead c rs r some is =
    let g = takes (λ b. b == c) (never ∷ rs) r some is in
    ap (λ (o : ℕ × Bool). o.1) (run-seq (one c) never rs (codes r) ∙ g.runs ∙ ap (ahead g.count) (refuses (λ b. false) rs (past r) refl))

opening-one : (deeper : Bool) (c : ℕ) (rs : List Rule) (r : Rest) → (0 == c) ≡ false → (head r == c) ≡ true → Follows here deeper 1 (run (opens true c ∷ rs) (codes r)) r rs (Ok (past r))
opening-one deeper c rs r some is =
    in-seq deeper here 1 (one c) nothing rs r rs (Ok (past r))
    (goes-then 1 _ r (past r) (past r) (nothing ∷ rs) rs (takes (λ b. b == c) (nothing ∷ rs) r some is) (stays _ (past r) rs (run-nothing rs (codes (past r)))))

beside : (deeper : Bool) (room depth : ℕ) → Depths deeper room depth → Beside deeper room depth
beside true zero zero h = absurd (omega (arith, h))
beside false zero zero h = record {
  negations = negation-follows false false (inside_of zero) never never ⊥ dead (λ r q is. absurd (cc)) (λ u. absurd u) (λ u. absurd u);
  exprs = disjunction-follows false false (inside_of zero) never never ⊥ dead (λ r q is. absurd (cc)) (λ u. absurd u) (λ u. absurd u);
}
beside true zero (suc depth) h = record {
  negations = negation-follows true true (inside_of zero) (condition depth) (negation depth) ⊥ (λ c rs r some is. tt) (λ r q is. absurd (cc)) (λ u. absurd u) (λ u. absurd u);
  exprs = disjunction-follows true true (inside_of zero) (condition depth) (negation depth) ⊥ (λ c rs r some is. tt) (λ r q is. absurd (cc)) (λ u. absurd u) (λ u. absurd u);
}
beside false zero (suc depth) h = absurd (omega (arith, h))
beside true (suc room) zero h = absurd (omega (arith, h))
beside false (suc room) zero h = absurd (omega (arith, h))
beside deeper (suc room) (suc depth) h =
    let below = beside deeper room depth (under deeper h) in
    let exprs_below : (rs : List Rule) (r : Rest) → Follows behind deeper 0 (run (condition depth ∷ rs) (codes r)) r rs (reading.disjunction (inside_of room) r) = λ rs r. less behind deeper 1 _ r rs _ (below.exprs rs r) in
    let negations_below : (rs : List Rule) (r : Rest) → Follows behind deeper 0 (run (negation depth ∷ rs) (codes r)) r rs (reading.negation (inside_of room) r) = λ rs r. less behind deeper 1 _ r rs _ (below.negations rs r) in
    record {
      negations = negation-follows deeper true (inside_of (suc room)) (condition depth) (negation depth) (Unit {0}) (opening-one deeper) (λ r q is. tt) (λ u. exprs_below) (λ u. negations_below);
      exprs = disjunction-follows deeper true (inside_of (suc room)) (condition depth) (negation depth) (Unit {0}) (opening-one deeper) (λ r q is. tt) (λ u. exprs_below) (λ u. negations_below);
    }
  where
    under : (deeper : Bool) → Depths deeper (suc room) (suc depth) → Depths deeper room depth
    under true h = omega (arith, h)
    under false h = omega (arith, h)

-- Whole conditions and statements.
module _ (deeper : Bool) where
  pub condition-follows : (depth : ℕ) → Depths deeper max_open depth → (rs : List Rule) (r : Rest) → Follows behind deeper 1 (run (condition depth ∷ rs) (codes r)) r rs (parsing.condition r)
  condition-follows depth h rs r = bind-stays behind behind deeper 1 _ r rs _ _ ((beside deeper max_open depth h).exprs rs r) (λ e. refl)

  module _ (depth : ℕ) (h : Depths deeper 63 depth) where
    abbrev name : Rule
    name = alt (one lower) (one upper)

    abbrev Arguments : Rule
    Arguments = arguments true (condition depth)

    name-goes : (rs : List Rule) (r : Rest) → (head r == lower || head r == upper) ≡ true → Goes 1 (run (name ∷ rs) (codes r)) r rs (past r)
    name-goes rs r is = by (head r == lower) refl is where
      by : (t : Bool) → (head r == lower) ≡ t → (t || head r == upper) ≡ true → Goes 1 (run (name ∷ rs) (codes r)) r rs (past r)
      by true low h = same-run here deeper 1 _ _ r rs (Ok (past r)) (run-left (one lower) (one upper) rs r refl low) (takes (λ b. b == lower) rs r refl low)
      by false low up = same-run here deeper 1 _ _ r rs (Ok (past r)) (run-right (one lower) (one upper) rs r refl low) (takes (λ b. b == upper) rs r refl up)

    no-name : (rs : List Rule) (r : Rest) → (head r == lower || head r == upper) ≡ false → run (name ∷ rs) (codes r) ≡ (0, false)
    no-name rs r is = by (head r == lower) refl is where
      by : (t : Bool) → (head r == lower) ≡ t → (t || head r == upper) ≡ false → run (name ∷ rs) (codes r) ≡ (0, false)
      by true low h = absurd (cc)
      by false low up = run-right (one lower) (one upper) rs r refl low ∙ refuses (λ b. b == upper) rs r up

    no-arguments : (rs : List Rule) (r : Rest) → (head r == 40) ≡ false → run (Arguments ∷ rs) (codes r) ≡ (0, false)
    no-arguments rs r is =
        run-seq (opens true 40) (closed (condition depth) 41) rs (codes r) ∙ run-seq (one 40) nothing (closed (condition depth) 41 ∷ rs) (codes r)
        ∙ refuses (λ b. b == 40) (nothing ∷ closed (condition depth) 41 ∷ rs) r is

    arguments-follow : (rs : List Rule) (at : ℕ) (called : List ℕ) (q : Rest) → (head q == 40) ≡ true → Follows behind deeper 1 (run (Arguments ∷ rs) (codes q)) q rs (reading.call_behind (inside_of max_open) at called q)
    arguments-follow rs at called q is =
        let below = beside deeper 63 depth h in
        call-follows deeper true (inside_of max_open) (condition depth) (negation depth) (Unit {0}) (opening-one deeper) (λ r q is. tt)
        (λ u rs r. less behind deeper 1 _ r rs _ (below.exprs rs r)) (λ u rs r. less behind deeper 1 _ r rs _ (below.negations rs r)) at called rs q is

    first-call-follows : (rs : List Rule) (r : Rest) → Follows behind deeper 1 (run (call (condition depth) ∷ rs) (codes r)) r rs (parsing.call r)
    unfolding parsing.call
    first-call-follows rs r =
        in-seq deeper behind 1 name Arguments rs r rs _
        (either behind deeper 1 _ r rs (head r == lower || head r == upper) _ _
        (λ is. follows-then behind deeper 1 _ r (past r) (Arguments ∷ rs) rs _ (name-goes (Arguments ∷ rs) r is)
        (either behind deeper 0 _ (past r) rs (head (past r) == 40) _ _
        (λ paren. less behind deeper 1 _ (past r) rs _ (arguments-follow rs (place r) (slice r) (past r) paren))
        (λ other. stopped _ (past r) (no-arguments rs (past r) other))))
        (λ is. stopped _ r (no-name (Arguments ∷ rs) r is)))

    below-where : (deeper : Bool) → Depths deeper 63 depth → Depths deeper max_open (suc depth)
    below-where true h = omega (arith, h)
    below-where false h = omega (arith, h)

    pub statement-follows : (rs : List Rule) (r : Rest) → Follows behind deeper 1 (run (statement depth ∷ rs) (codes r)) r rs (parsing.statement r)
    unfolding parsing.statement
    statement-follows rs r =
        let further : Rule = seq (one where_word) (condition (suc depth)) in
        in-seq deeper behind 1 (call (condition depth)) (optional further) rs r rs _
        (bind behind behind deeper 1 _ r (optional further ∷ rs) rs _ _ (first-call-follows (optional further ∷ rs) r)
        (λ c. either behind deeper 0 _ c.1 rs (head c.1 == where_word) _ _
        (λ is. same-run behind deeper 0 _ _ c.1 rs _ (run-left further nothing rs c.1 refl (or-none (head c.1 == where_word) ∙ is))
        (in-seq deeper behind 0 (one where_word) (condition (suc depth)) rs c.1 rs _
        (less behind deeper 1 _ c.1 rs _
        (follows-then behind deeper 1 _ c.1 (past c.1) (condition (suc depth) ∷ rs) rs _ (takes (λ b. b == where_word) (condition (suc depth) ∷ rs) c.1 refl is)
        (less behind deeper 1 _ (past c.1) rs _
        (bind-stays behind behind deeper 1 _ (past c.1) rs _ _ (condition-follows (suc depth) (below-where deeper h) rs (past c.1)) (λ d. refl)))))))
        (λ is. absent deeper further rs c.1 refl (or-none (head c.1 == where_word) ∙ is))))

-- what an answer says of the run over a whole text
abbrev pub Judged : {X : Type 0} → Bool → ℕ × Bool → Rest → Result X SyntaxFault → Type 0
Judged deeper o start (Ok x) = o.1 ≡ true
Judged deeper o start (Err e) = Fails deeper e.kind e.at o start

module _ {X : Type 0} (deeper : Bool) (read : Rest → Reads X) (rule : Rule)
    (follows : (rs : List Rule) (r : Rest) → Follows behind deeper 1 (run (rule ∷ rs) (codes r)) r rs (read r)) where
  ended : (o : ℕ × Bool) (start : Rest) (x : X) (q : Rest) → Goes 1 o start [] q → Judged deeper o start (at_end q >>= λ _. Ok x)
  ended o start x q g = by q.left (length q.left == 0) refl refl where
    by : (ts : List Token) (t : Bool) → q.left ≡ ts → (length ts == 0) ≡ t → Judged deeper o start (cond t (Ok (tt {0})) (reading.stops Unexpected q) >>= λ _. Ok x)
    by [] true e h = ap (λ (p : ℕ × Bool). p.1) g.runs ∙ ap (λ (ts : List Token). (run [] (codes_of q.text ts)).1) e
    by [] false e h = absurd (cc)
    by (t ∷ ts) true e h = absurd (let n : suc (length ts) ≡ 0 = grind (arith, nat_tests, h) in omega (arith, n))
    by (t ∷ ts) false e h = record {
      count = g.count;
      there = q;
      left = g.left;
      text = g.text;
      placed = refl;
      runs = g.runs ∙ ap (λ (us : List Token). ahead g.count (run [] (codes_of q.text us))) e ∙ (let none : g.count + 0 ≡ g.count = omega arith in ap (λ (n : ℕ). (n, false)) none);
    }

  pub judged : (start : Rest) → Judged deeper (run (rule ∷ []) (codes start)) start (read start >>= λ p. at_end p.1 >>= λ _. Ok p.0)
  judged start = by (read start) (follows [] start) where
    by : (m : Reads X) → Follows behind deeper 1 (run (rule ∷ []) (codes start)) start [] m → Judged deeper (run (rule ∷ []) (codes start)) start (m >>= λ p. at_end p.1 >>= λ _. Ok p.0)
    by (Err e) h = h
    by (Ok p) h = ended (run (rule ∷ []) (codes start)) start p.0 p.1 h
