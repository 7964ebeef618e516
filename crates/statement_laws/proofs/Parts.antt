-- Each reading of a part that has no constructs goes beside the run of the part's rule.
use Rattle.std.proofs.Common.{◌≡◌, ◌∙◌, ℕ, zero, suc, ◌+◌, ◌<◌, ◌≤◌, Bool, true, false, List, [], ◌∷◌, ◌++◌, length, drop, Option, Some, None, Result, Ok, Err, refl, sym, ap, arith, cond}
use Rattle.std.specs.Prelude.{◌==◌, ◌||◌}
use Rattle.std.specs.Str.{is_utf8}
use Rattle.contract_words.specs.Grammar.{Rule, nothing, byte, alt, seq, many, nullable, first, after}
use Rattle.contract_words.specs.Rows.{step, run, row_nullable, taken}
use Rattle.contract_words.proofs.Machine.{run-steps, run-seq, run-nothing, step-right, step-turn, step-end}
use Rattle.ottl_lex.specs.Codes.{code_of, quoted, digits, hex, true_word, false_word, nil_word}
use Rattle.ottl_lex.specs.Quoted as lex
use Rattle.ottl_lex.specs.Quoted.{◌>>=◌, text_of}
use Rattle.ottl_lex.specs.declared.fault.SyntaxFault.{SyntaxFault}
use Rattle.ottl_lex.specs.declared.fault.SyntaxKind.TheVariants.{BadChar, OpenText, BadEscape, NotUtf8, Fraction, BadNumber, Wide, Unexpected, ConditionWanted, ValueWanted, TooDeep}
use Rattle.ottl_lex.specs.declared.fault.SyntaxKind.{SyntaxKind}
use Rattle.ottl_lex.specs.declared.token.Token.{Token}
use Rattle.ottl_parse.specs.Grammar.{codes_of, one}
use Rattle.ottl_parse.specs.Place.{Rest, head_of, head, place, slice, past}
use Rattle.ottl_parse.specs.Reading as reading
use Rattle.ottl_parse.specs.Reading.{Reads, with_front, pieces, make}
use Rattle.ottl_parse.specs.declared.expr.ExprKind.{ExprKind}
use Rattle.statement_laws.proofs.Factored.{signed, literal}
use Rattle.statement_laws.proofs.Runs.{codes, ahead, Goes, Stops, Cites, Fails, Follows, here, behind, follows-then, bind-stays, stays, same-run, less, either, goes-shorter}

-- The run of rows that step alike at the next token.
pub run-at : (rs ss : List Rule) (r : Rest) → row_nullable rs ≡ row_nullable ss → step rs (head r) ≡ step ss (head r) → run rs (codes r) ≡ run ss (codes r)
run-at rs ss r ends steps = by r.left steps where
  by : (ts : List Token) → step rs (head_of r.text ts) ≡ step ss (head_of r.text ts) → run rs (codes_of r.text ts) ≡ run ss (codes_of r.text ts)
  by [] h = ap (λ (e : Bool). (0, e)) ends
  by (t ∷ ts) h = run-steps rs ss (code_of r.text t) (codes_of r.text ts) h

-- of rows that may end otherwise, where a rule begins with the token and not with the end
pub run-begun : (l : Rule) (rs ss : List Rule) (r : Rest) → first l 0 ≡ false → first l (head r) ≡ true → step rs (head r) ≡ step ss (head r) → run rs (codes r) ≡ run ss (codes r)
run-begun l rs ss r none is steps = by r.left is steps where
  by : (ts : List Token) → first l (head_of r.text ts) ≡ true → step rs (head_of r.text ts) ≡ step ss (head_of r.text ts) → run rs (codes_of r.text ts) ≡ run ss (codes_of r.text ts)
  by [] b h = absurd (let e : false ≡ true = sym none ∙ b in cc)
  by (t ∷ ts) b h = run-steps rs ss (code_of r.text t) (codes_of r.text ts) h

close-first : (fl fr nl nr : Bool) (a b rs : List Rule) (o : Option (List Rule)) → fl ≡ true → cond (fl || fr) (Some (cond fl a b ++ rs)) (cond (nl || nr) o None) ≡ cond fl (Some (a ++ rs)) (cond nl o None)
close-first true fr nl nr a b rs o is = refl
close-first false fr nl nr a b rs o is = absurd cc

pub run-left : (l r : Rule) (rs : List Rule) (q : Rest) → first l 0 ≡ false → first l (head q) ≡ true → run (alt l r ∷ rs) (codes q) ≡ run (l ∷ rs) (codes q)
run-left l r rs q none is =
    run-begun l (alt l r ∷ rs) (l ∷ rs) q none is
    (close-first (first l (head q)) (first r (head q)) (nullable l) (nullable r) (after l (head q)) (after r (head q)) rs (step rs (head q)) is)

pub run-right : (l r : Rule) (rs : List Rule) (q : Rest) → nullable l ≡ false → first l (head q) ≡ false → run (alt l r ∷ rs) (codes q) ≡ run (r ∷ rs) (codes q)
run-right l r rs q null is = run-at (alt l r ∷ rs) (r ∷ rs) q (rw null refl) (step-right l r rs (head q) is null)

pub or-none : (a : Bool) → (a || false) ≡ a
or-none true = refl
or-none false = refl

-- one token
one-ahead : (o : ℕ × Bool) → (suc o.0, o.1) ≡ ahead 1 o
one-ahead o = let e : suc o.0 ≡ 1 + o.0 = omega arith in ap (λ (k : ℕ). (k, o.1)) e

pub takes : (kind : ℕ → Bool) (rs : List Rule) (r : Rest) → kind 0 ≡ false → kind (head r) ≡ true → Goes 1 (run (byte kind ∷ rs) (codes r)) r rs (past r)
takes kind rs r none is = by r.left is where
  by : (ts : List Token) → kind (head_of r.text ts) ≡ true → Goes 1 (run (byte kind ∷ rs) (codes_of r.text ts)) (record { text = r.text; left = ts }) rs (record { text = r.text; left = drop 1 ts })
  by [] h = absurd (let e : false ≡ true = sym none ∙ h in cc)
  by (t ∷ ts) h = record {
    count = 1;
    at_least = omega arith;
    within = omega arith;
    left = refl;
    text = refl;
    runs = ap (λ (b : Bool). taken (cond b (Some rs) None) (λ ss. run ss (codes_of r.text ts))) h ∙ one-ahead (run rs (codes_of r.text ts));
  }

pub refuses : (kind : ℕ → Bool) (rs : List Rule) (r : Rest) → kind (head r) ≡ false → run (byte kind ∷ rs) (codes r) ≡ (0, false)
refuses kind rs r is = by r.left is where
  by : (ts : List Token) → kind (head_of r.text ts) ≡ false → run (byte kind ∷ rs) (codes_of r.text ts) ≡ (0, false)
  by [] h = refl
  by (t ∷ ts) h = ap (λ (b : Bool). taken (cond b (Some rs) None) (λ ss. run ss (codes_of r.text ts))) h

pub stopped : (o : ℕ × Bool) (r : Rest) → o ≡ (0, false) → Stops o r (place r)
stopped o r is = record { count = 0; there = r; left = refl; text = refl; placed = refl; runs = is }

-- no fault of the grammar, nor of numbers
abbrev IsForeign : SyntaxKind → Type 0
IsForeign Unexpected = ⊥
IsForeign TooDeep = ⊥
IsForeign Wide = ⊥
IsForeign _ = Unit {0}

-- The contents of a text have no fault of the grammar.
abbrev Foreign : {X : Type 0} → Result X SyntaxFault → Type 0
Foreign (Ok x) = Unit {0}
Foreign (Err e) = IsForeign e.kind

foreign-front : (front : List ℕ) (m : Result (List ℕ) SyntaxFault) → Foreign m → Foreign (lex.with_front front m)
foreign-front front (Ok x) h = tt
foreign-front front (Err e) h = h

foreign-escape : (at : ℕ) (o : Option lex.Escape) (f : ℕ → Result (List ℕ) SyntaxFault) → ((n : ℕ) → Foreign (f n)) → Foreign (lex.escaped at o f)
foreign-escape at None f h = tt
foreign-escape at (Some e) f h = foreign-front e.0 (f e.1) (h e.1)

foreign-cond : {X : Type 0} (t : Bool) (m n : Result X SyntaxFault) → Foreign m → Foreign n → Foreign (cond t m n)
foreign-cond true m n h k = h
foreign-cond false m n h k = k

foreign-unescaped : (bytes : List ℕ) (passed at : ℕ) → Foreign (lex.unescaped passed at bytes)
foreign-unescaped [] passed at = tt
foreign-unescaped (b ∷ rest) (suc n) at = foreign-unescaped rest n (at + 1)
foreign-unescaped (b ∷ rest) zero at =
    foreign-cond (b == 92) _ _ (foreign-escape at (lex.escape_at rest) (λ n. lex.unescaped n (at + 1) rest) (λ n. foreign-unescaped rest n (at + 1)))
    (foreign-front (b ∷ []) (lex.unescaped 0 (at + 1) rest) (foreign-unescaped rest 0 (at + 1)))

foreign-utf8 : (at : ℕ) (m : Result (List ℕ) SyntaxFault) → Foreign m → Foreign (m >>= lex.as_utf8 at)
foreign-utf8 at (Ok bytes) h = foreign-cond (is_utf8 bytes) _ _ tt tt
foreign-utf8 at (Err e) h = h

foreign-text : (at : ℕ) (piece : List ℕ) → Foreign (text_of at piece)
unfolding text_of
foreign-text at piece = foreign-utf8 at (lex.unescaped 0 (at + 1) (lex.between_quotes piece)) (foreign-unescaped (lex.between_quotes piece) 0 (at + 1))

module _ (deeper : Bool) where
  -- a sequence in a row is its parts in a row
  pub in-seq : {A : Type 0} (to : A → Rest) (a : ℕ) (l r : Rule) (rs : List Rule) (start : Rest) (rows : List Rule) (res : Result A SyntaxFault)
      → Follows to deeper a (run (l ∷ r ∷ rs) (codes start)) start rows res → Follows to deeper a (run (seq l r ∷ rs) (codes start)) start rows res
  in-seq to a l r rs start rows res h = same-run to deeper a _ _ start rows res (run-seq l r rs (codes start)) h

  -- one way or the other, by the next token
  pub choose : {A : Type 0} (to : A → Rest) (a : ℕ) (l r : Rule) (rs : List Rule) (start : Rest) (rows : List Rule) (t : Bool) (m n : Result A SyntaxFault)
      → first l 0 ≡ false → nullable l ≡ false → first l (head start) ≡ t
      → (t ≡ true → Follows to deeper a (run (l ∷ rs) (codes start)) start rows m)
      → (t ≡ false → Follows to deeper a (run (r ∷ rs) (codes start)) start rows n)
      → Follows to deeper a (run (alt l r ∷ rs) (codes start)) start rows (cond t m n)
  choose to a l r rs start rows true m n none null is h k = same-run to deeper a _ _ start rows m (run-left l r rs start none is) (h refl)
  choose to a l r rs start rows false m n none null is h k = same-run to deeper a _ _ start rows n (run-right l r rs start null is) (k refl)

  -- a part that may be absent
  pub absent : (a : Rule) (rs : List Rule) (r : Rest) → nullable a ≡ false → first a (head r) ≡ false → Goes 0 (run (alt a nothing ∷ rs) (codes r)) r rs r
  absent a rs r null is = stays _ r rs (run-right a nothing rs r null is ∙ run-nothing rs (codes r))

  pub this-follows : (c : ℕ) (rs : List Rule) (r : Rest) → (0 == c) ≡ false → Follows here deeper 1 (run (one c ∷ rs) (codes r)) r rs (reading.this c r)
  this-follows c rs r some = either here deeper 1 _ r rs (head r == c) _ _ (λ is. takes (λ b. b == c) rs r some is) (λ is. stopped _ r (refuses (λ b. b == c) rs r is))

  pub bytes-follow : (c : ℕ) (rs : List Rule) (r : Rest) → (0 == c) ≡ false → Follows behind deeper 1 (run (one c ∷ rs) (codes r)) r rs (reading.bytes_of c r)
  bytes-follow c rs r some = either behind deeper 1 _ r rs (head r == c) _ _ (λ is. takes (λ b. b == c) rs r some is) (λ is. stopped _ r (refuses (λ b. b == c) rs r is))

  -- Pieces.
  pub front-follows : {X : Type 0} (front : List X) (a : ℕ) (o : ℕ × Bool) (start : Rest) (rs : List Rule) (m : Reads (List X)) → Follows behind deeper a o start rs m → Follows behind deeper a o start rs (with_front front m)
  front-follows front a o start rs (Ok p) h = h
  front-follows front a o start rs (Err e) h = h

  pub make-follows : {X : Type 0} (kind : X → ExprKind) (a : ℕ) (o : ℕ × Bool) (at start : Rest) (rs : List Rule) (m : Reads X) → Follows behind deeper a o start rs m → Follows behind deeper a o start rs (make at kind m)
  make-follows kind a o at start rs (Ok p) h = h
  make-follows kind a o at start rs (Err e) h = h

  module _ {X : Type 0} (begins : ℕ → Bool) (read : Rest → Reads X) (rule : Rule) (none : begins 0 ≡ false) (firsts : (b : ℕ) → first rule b ≡ begins b)
      (each : (rs : List Rule) (r : Rest) → begins (head r) ≡ true → Follows behind deeper 1 (run (rule ∷ rs) (codes r)) r rs (read r)) where
    pub ends-follow : (rs : List Rule) (r : Rest) → begins (head r) ≡ false → run (many rule ∷ rs) (codes r) ≡ run rs (codes r)
    ends-follow rs r is = run-at (many rule ∷ rs) rs r refl (step-end rule rs (head r) (firsts (head r) ∙ is))

    turn : (n : ℕ) (rs : List Rule) (r : Rest) → length r.left ≤ suc n → (m : Reads X) → Follows behind deeper 1 (run (rule ∷ many rule ∷ rs) (codes r)) r (many rule ∷ rs) m
        → ((s : Rest) → length s.left ≤ n → Follows behind deeper 0 (run (many rule ∷ rs) (codes s)) s rs (pieces begins read n s))
        → Follows behind deeper 0 (run (rule ∷ many rule ∷ rs) (codes r)) r rs (m >>= λ p. with_front (p.0 ∷ []) (pieces begins read n p.1))
    turn n rs r enough (Err e) h k = h
    turn n rs r enough (Ok p) h k =
        let shorter : length p.1.left < length r.left = goes-shorter _ r (many rule ∷ rs) p.1 h in
        less behind deeper 1 _ r rs _ (follows-then behind deeper 1 _ r p.1 (many rule ∷ rs) rs _ h
        (front-follows (p.0 ∷ []) 0 _ p.1 rs (pieces begins read n p.1) (k p.1 (omega (arith, enough, shorter)))))

    no-tokens : (rs : List Rule) (r : Rest) → length r.left ≤ 0 → begins (head r) ≡ false
    no-tokens rs r enough = by r.left enough where
      by : (ts : List Token) → length ts ≤ 0 → begins (head_of r.text ts) ≡ false
      by [] h = none
      by (t ∷ ts) h = absurd (omega (arith, h))

    pub pieces-follow : (n : ℕ) (rs : List Rule) (r : Rest) → length r.left ≤ n → Follows behind deeper 0 (run (many rule ∷ rs) (codes r)) r rs (pieces begins read n r)
    unfolding pieces
    pieces-follow zero rs r enough = stays _ r rs (ends-follow rs r (no-tokens rs r enough))
    pieces-follow (suc n) rs r enough = either behind deeper 0 _ r rs (begins (head r)) _ _
        (λ is. same-run behind deeper 0 _ _ r rs _
        (run-begun rule (many rule ∷ rs) (rule ∷ many rule ∷ rs) r (firsts 0 ∙ none) (firsts (head r) ∙ is) (step-turn rule rs (head r) (firsts (head r) ∙ is)))
        (turn n rs r enough (read r) (each (many rule ∷ rs) r is) (λ s le. pieces-follow n rs s le)))
        (λ is. stays _ r rs (ends-follow rs r is))

  -- What has no expressions inside.
  cited : (kind : SyntaxKind) (at : ℕ) (o : ℕ × Bool) (r : Rest) → IsForeign kind → Cites r (record { kind = kind; at = at }) → Fails deeper kind at o r
  cited Unexpected at o r foreign h = absurd foreign
  cited TooDeep at o r foreign h = absurd foreign
  cited Wide at o r foreign h = absurd foreign
  cited BadChar at o r foreign h = h
  cited OpenText at o r foreign h = h
  cited BadEscape at o r foreign h = h
  cited NotUtf8 at o r foreign h = h
  cited Fraction at o r foreign h = h
  cited BadNumber at o r foreign h = h
  cited ConditionWanted at o r foreign h = h
  cited ValueWanted at o r foreign h = h

  contents-follow : (rs : List Rule) (r : Rest) → (head r == quoted) ≡ true → (m : Result (List ℕ) SyntaxFault) → text_of (place r) (slice r) ≡ m → Foreign m
      → Follows behind deeper 1 (run (one quoted ∷ rs) (codes r)) r rs (m >>= λ t. Ok (t, past r))
  contents-follow rs r is (Ok t) known foreign = takes (λ b. b == quoted) rs r refl is
  contents-follow rs r is (Err e) known foreign = cited e.kind e.at _ r foreign (record { count = 0; there = r; left = refl; text = refl; is_quoted = is; known = known })

  -- the bytes of the next token, if it is a text
  abbrev given : Bool → Rest → Reads (List ℕ)
  given t r = cond t (Ok (slice r, past r)) (reading.stops Unexpected r)

  pub text-follows : (rs : List Rule) (r : Rest) → Follows behind deeper 1 (run (one quoted ∷ rs) (codes r)) r rs (reading.text r)
  unfolding reading.text
  text-follows rs r = by (head r == quoted) refl where
    by : (t : Bool) → (head r == quoted) ≡ t
        → Follows behind deeper 1 (run (one quoted ∷ rs) (codes r)) r rs (given t r >>= λ p. text_of (place r) p.0 >>= λ t. Ok (t, p.1))
    by true is = contents-follow rs r is (text_of (place r) (slice r)) refl (foreign-text (place r) (slice r))
    by false is = stopped _ r (refuses (λ b. b == quoted) rs r is)

  wide-follows : {X : Type 0} (o : Option X) (rs : List Rule) (r : Rest) → (head r == digits) ≡ true → Follows behind deeper 1 (run (one digits ∷ rs) (codes r)) r rs (reading.or_wide o r)
  wide-follows None rs r is = tt
  wide-follows (Some x) rs r is = takes (λ b. b == digits) rs r refl is

  number-follows : (minus : Bool) (rs : List Rule) (r : Rest) → Follows behind deeper 1 (run (one digits ∷ rs) (codes r)) r rs (reading.number minus r)
  unfolding reading.number
  number-follows minus rs r = either behind deeper 1 _ r rs (head r == digits) _ _ (wide-follows _ rs r) (λ is. stopped _ r (refuses (λ b. b == digits) rs r is))

  small-follows : (t : Bool) (n : ℕ) (rs : List Rule) (r : Rest) → (head r == digits) ≡ true → Follows {A = ℕ × Rest} behind deeper 1 (run (one digits ∷ rs) (codes r)) r rs (cond t (Ok (n, past r)) (reading.stops Wide r))
  small-follows true n rs r is = takes (λ b. b == digits) rs r refl is
  small-follows false n rs r is = tt

  pub index-follows : (rs : List Rule) (r : Rest) → Follows behind deeper 1 (run (one digits ∷ rs) (codes r)) r rs (reading.index r)
  unfolding reading.index
  index-follows rs r = either behind deeper 1 _ r rs (head r == digits) _ _ (λ is. small-follows _ _ rs r is) (λ is. stopped _ r (refuses (λ b. b == digits) rs r is))

  integer-follows : (minus : Bool) (rs : List Rule) (r : Rest) → Follows behind deeper 1 (run (one digits ∷ rs) (codes r)) r rs (reading.integer minus r)
  integer-follows minus rs r = bind-stays behind behind deeper 1 _ r rs (reading.number minus r) _ (number-follows minus rs r) (λ n. refl)

  signed-follows : (minus : Bool) (c : ℕ) (rs : List Rule) (r : Rest) → (0 == c) ≡ false → (head r == c) ≡ true → Follows behind deeper 1 (run (signed c ∷ rs) (codes r)) r rs (reading.integer minus (past r))
  signed-follows minus c rs r some is =
      in-seq behind 1 (one c) (one digits) rs r rs _
      (follows-then behind deeper 1 _ r (past r) (one digits ∷ rs) rs _ (takes (λ b. b == c) (one digits ∷ rs) r some is)
      (less behind deeper 1 _ (past r) rs _ (integer-follows minus rs (past r))))

  pub literal-follows : (rs : List Rule) (r : Rest) → Follows behind deeper 1 (run (literal ∷ rs) (codes r)) r rs (reading.literal r)
  unfolding reading.literal
  literal-follows rs r =
      choose behind 1 (one quoted) _ rs r rs (head r == quoted) _ _ refl refl refl (λ is. bind-stays behind behind deeper 1 _ r rs (reading.text r) _ (text-follows rs r) (λ t. refl)) (λ _.
      choose behind 1 (one hex) _ rs r rs (head r == hex) _ _ refl refl refl (λ is. takes (λ b. b == hex) rs r refl is) (λ _.
      choose behind 1 (one digits) _ rs r rs (head r == digits) _ _ refl refl refl (λ is. integer-follows false rs r) (λ _.
      choose behind 1 (signed 43) _ rs r rs (head r == 43) _ _ refl refl (or-none (head r == 43)) (signed-follows false 43 rs r refl) (λ _.
      choose behind 1 (signed 45) _ rs r rs (head r == 45) _ _ refl refl (or-none (head r == 45)) (signed-follows true 45 rs r refl) (λ _.
      choose behind 1 (one true_word) _ rs r rs (head r == true_word) _ _ refl refl refl (λ is. takes (λ b. b == true_word) rs r refl is) (λ _.
      choose behind 1 (one false_word) _ rs r rs (head r == false_word) _ _ refl refl refl (λ is. takes (λ b. b == false_word) rs r refl is) (λ _.
      either behind deeper 1 _ r rs (head r == nil_word) _ _ (λ is. takes (λ b. b == nil_word) rs r refl is) (λ is. stopped _ r (refuses (λ b. b == nil_word) rs r is)))))))))
