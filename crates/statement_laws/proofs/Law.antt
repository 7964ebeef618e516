-- What is spelled is read, and Unexpected stands behind the longest viable front.
use Rattle.std.proofs.Common.{◌≡◌, ◌∙◌, ℕ, ◌+◌, ◌<◌, ◌≤◌, Bool, true, false, List, [], ◌∷◌, ◌++◌, length, take, drop, Result, Ok, Err, inl, inr, refl, sym, ap, subst, arith, append-nil}
use Rattle.std.proofs.lemmas.List.{length-map}
use Rattle.ottl_lex.specs.Codes.{code_of}
use Rattle.contract_words.specs.Grammar.{Rule, spells, viable}
use Rattle.contract_words.specs.Rows.{viable_row, fits_row, run, stop}
use Rattle.contract_words.proofs.Longest.{longest}
use Rattle.contract_words.proofs.Machine.{run-stop}
use Rattle.contract_words.proofs.Viable.{spelled_viable}
use Rattle.contract_words.proofs.Whole.{run_of_spelled}
use Rattle.ottl_lex.specs.Quoted.{fault, ◌>>=◌}
use Rattle.ottl_lex.specs.Tokens.{tokens_of}
use Rattle.ottl_lex.specs.declared.fault.SyntaxFault.{SyntaxFault}
use Rattle.ottl_lex.specs.declared.fault.SyntaxKind.{SyntaxKind}
use Rattle.ottl_lex.specs.declared.fault.SyntaxKind.TheVariants.{BadChar, OpenText, BadEscape, NotUtf8, Fraction, BadNumber, Wide, Unexpected, ConditionWanted, ValueWanted, TooDeep}
use Rattle.ottl_lex.specs.declared.token.Token.{Token}
use Rattle.ottl_parse.specs.Checks.{Checked}
use Rattle.ottl_parse.specs.Grammar.{codes_of, statement_rule, condition_rule, read_whole, IsBegun, FaultsAreBehindPrefixes}
use Rattle.ottl_parse.specs.Parsing as parsing
use Rattle.ottl_parse.specs.Parsing.{at_end, parsed, check_statement, check_condition, statement_of, condition_of}
use Rattle.ottl_parse.specs.Place.{Rest, place_of}
use Rattle.ottl_parse.specs.Reading.{Reads}
use Rattle.ottl_parse.proofs.Spelled.{statement-faults, condition-faults}
use Rattle.statement_laws.specs.Whole.{BeginsStatement, BeginsCondition, IsBehindLongest, IsWithinGrammar, IsParsed, SpelledIsParsed, UnexpectedIsBehindLongest}
use Rattle.statement_laws.proofs.Contents.{no-bad-contents}
use Rattle.statement_laws.proofs.Factored.{statement, condition}
use Rattle.statement_laws.proofs.Fine.{Fine, IsWanted, statement-fine, condition-fine}
use Rattle.statement_laws.proofs.Fitting.{statement-fits, condition-fits}
use Rattle.statement_laws.proofs.Grown.{statement-grows, condition-grows}
use Rattle.statement_laws.proofs.Growing.{Grows}
use Rattle.statement_laws.proofs.Places.{one-token}
use Rattle.statement_laws.proofs.Rooms.{Judged, judged, statement-follows, condition-follows}
use Rattle.statement_laws.proofs.Runs.{codes, Stops, Fails}

module _ {X : Type 0} (read : Rest → Reads X) (well : X → Checked) where
  abbrev reads : Rest → Result X SyntaxFault
  reads start = read start >>= λ p. at_end p.1 >>= λ _. Ok p.0

  abbrev checks : Rest → Result X SyntaxFault
  checks start = read start >>= λ p. at_end p.1 >>= λ _. well p.0 >>= λ _. Ok p.0

  -- a whole text that is lexed is read from its tokens
  lexed-reads : (text : List ℕ) (tokens : List Token) → tokens_of text ≡ Ok tokens → read_whole read text ≡ reads (record { text = text; left = tokens })
  lexed-reads text tokens lexed = ap (λ (m : Result (List Token) SyntaxFault). m >>= λ ts. reads (record { text = text; left = ts })) lexed

  lexed-checks : (text : List ℕ) (tokens : List Token) → tokens_of text ≡ Ok tokens → parsed read well text ≡ checks (record { text = text; left = tokens })
  lexed-checks text tokens lexed = ap (λ (m : Result (List Token) SyntaxFault). m >>= λ ts. checks (record { text = text; left = ts })) lexed

  -- behind reading stand checks, which find no fault but theirs
  module _ (fine : (x : X) → Fine (well x)) where
    wanted-within : (x : X) (m : Checked) → Fine m → IsParsed (m >>= λ _. Ok x)
    wanted-within x (Ok u) h = tt
    wanted-within x (Err e) h = by e.kind h where
      by : (kind : SyntaxKind) → IsWanted kind → IsWithinGrammar kind
      by ConditionWanted k = tt
      by ValueWanted k = tt
      by BadChar k = absurd k
      by OpenText k = absurd k
      by BadEscape k = absurd k
      by NotUtf8 k = absurd k
      by Fraction k = absurd k
      by BadNumber k = absurd k
      by Wide k = absurd k
      by Unexpected k = absurd k
      by TooDeep k = absurd k

    whole-parsed : (m : Reads X) → IsParsed (m >>= λ p. at_end p.1 >>= λ _. Ok p.0) → IsParsed (m >>= λ p. at_end p.1 >>= λ _. well p.0 >>= λ _. Ok p.0)
    whole-parsed (Err e) h = h
    whole-parsed (Ok p) h = by (at_end p.1) h where
      by : (m : Checked) → IsParsed (m >>= λ _. Ok p.0) → IsParsed (m >>= λ _. well p.0 >>= λ _. Ok p.0)
      by (Err e) k = k
      by (Ok u) k = wanted-within p.0 (well p.0) (fine p.0)

    unexpected-checks : (at : ℕ) (x : X) (m : Checked) → Fine m → (m >>= λ _. Ok x) ≡ Err (fault Unexpected at) → ⊥
    unexpected-checks at x (Ok u) h is = cc
    unexpected-checks at x (Err e) h is = let same : e ≡ fault Unexpected at = cc in subst (λ (f : SyntaxFault). IsWanted f.kind) same h

    unexpected-read : (at : ℕ) (m : Reads X) → (m >>= λ p. at_end p.1 >>= λ _. well p.0 >>= λ _. Ok p.0) ≡ Err (fault Unexpected at) → (m >>= λ p. at_end p.1 >>= λ _. Ok p.0) ≡ Err (fault Unexpected at)
    unexpected-read at (Err e) is = is
    unexpected-read at (Ok p) is = by (at_end p.1) is where
      by : (m : Checked) → (m >>= λ _. well p.0 >>= λ _. Ok p.0) ≡ Err (fault Unexpected at) → (m >>= λ _. Ok p.0) ≡ Err (fault Unexpected at)
      by (Err e) e_is = e_is
      by (Ok u) u_is = absurd (unexpected-checks at p.0 (well p.0) (fine p.0) u_is)

    -- a fault of the grammar is found in reading
    read-unexpected : (text : List ℕ) (tokens : List Token) (at : ℕ) → tokens_of text ≡ Ok tokens → parsed read well text ≡ Err (fault Unexpected at) → read_whole read text ≡ Err (fault Unexpected at)
    read-unexpected text tokens at lexed is =
        lexed-reads text tokens lexed ∙ unexpected-read at (read (record { text = text; left = tokens })) (sym (lexed-checks text tokens lexed) ∙ is)

  module _ (rule factored : Rule) (fits : fits_row (factored ∷ [])) (grows : Grows rule factored)
      (judges : (start : Rest) → Judged false (run (factored ∷ []) (codes start)) start (reads start)) where
    ends-well : (text : List ℕ) (tokens : List Token) → spells rule (codes_of text tokens) → (run (factored ∷ []) (codes_of text tokens)).1 ≡ true
    ends-well text tokens h =
        run_of_spelled (factored ∷ []) (codes_of text tokens) fits (codes_of text tokens, [], grows.whole (codes_of text tokens) h, refl, sym (append-nil (codes_of text tokens)))

    -- a fault that is found is a number that is too wide
    only-wide : (kind : SyntaxKind) (at : ℕ) (text : List ℕ) (tokens : List Token) → tokens_of text ≡ Ok tokens → (run (factored ∷ []) (codes_of text tokens)).1 ≡ true
        → Fails false kind at (run (factored ∷ []) (codes_of text tokens)) (record { text = text; left = tokens }) → kind ≡ Wide
    only-wide Wide at text tokens lexed ends h = refl
    only-wide Unexpected at text tokens lexed ends h = absurd (let e : true ≡ false = sym ends ∙ ap (λ (o : ℕ × Bool). o.1) h.runs in cc)
    only-wide TooDeep at text tokens lexed ends h = absurd (let e : true ≡ false = sym ends ∙ h in cc)
    only-wide BadChar at text tokens lexed ends h = absurd (no-bad-contents text tokens (record { kind = BadChar; at = at }) lexed h)
    only-wide OpenText at text tokens lexed ends h = absurd (no-bad-contents text tokens (record { kind = OpenText; at = at }) lexed h)
    only-wide BadEscape at text tokens lexed ends h = absurd (no-bad-contents text tokens (record { kind = BadEscape; at = at }) lexed h)
    only-wide NotUtf8 at text tokens lexed ends h = absurd (no-bad-contents text tokens (record { kind = NotUtf8; at = at }) lexed h)
    only-wide Fraction at text tokens lexed ends h = absurd (no-bad-contents text tokens (record { kind = Fraction; at = at }) lexed h)
    only-wide BadNumber at text tokens lexed ends h = absurd (no-bad-contents text tokens (record { kind = BadNumber; at = at }) lexed h)
    only-wide ConditionWanted at text tokens lexed ends h = absurd (no-bad-contents text tokens (record { kind = ConditionWanted; at = at }) lexed h)
    only-wide ValueWanted at text tokens lexed ends h = absurd (no-bad-contents text tokens (record { kind = ValueWanted; at = at }) lexed h)

    spelled-parsed : ((x : X) → Fine (well x)) → SpelledIsParsed (parsed read well) rule
    spelled-parsed fine text tokens lexed spelled =
        let start : Rest = record { text = text; left = tokens } in
        subst (λ (m : Result X SyntaxFault). IsParsed m) (sym (lexed-checks text tokens lexed)) (whole-parsed fine (read start) (by (reads start) (judges start)))
      where
        by : (m : Result X SyntaxFault) → Judged false (run (factored ∷ []) (codes_of text tokens)) (record { text = text; left = tokens }) m → IsParsed m
        by (Ok x) h = tt
        by (Err e) h = subst IsWithinGrammar (sym (only-wide e.kind e.at text tokens lexed (ends-well text tokens spelled) h)) tt

-- Fronts.
one-row : (rule : Rule) (text : List ℕ) → viable_row (rule ∷ []) text → viable rule text
one-row rule text (inl h) = h
one-row rule text (inr h) = subst (viable rule) (sym (h.4 ∙ ap (λ (y : List ℕ). h.0 ++ y) h.3 ∙ append-nil h.0)) (spelled_viable rule h.0 h.2)

module _ {X : Type 0} (read : Rest → Reads X) (rule factored : ℕ → Rule) (least : ℕ) (whole : List ℕ → Result X SyntaxFault)
    (fits : (depth : ℕ) → fits_row (factored depth ∷ [])) (grows : (room depth : ℕ) → room ≤ depth → Grows (rule room) (factored depth))
    (judges : (depth : ℕ) → least < depth → (start : Rest) → Judged true (run (factored depth ∷ []) (codes start)) start (read start >>= λ p. at_end p.1 >>= λ _. Ok p.0))
    (known : FaultsAreBehindPrefixes read whole (rule least)) where
  -- no longer front of the tokens is viable
  no-longer : (text : List ℕ) (tokens : List Token) (at count : ℕ) → tokens_of text ≡ Ok tokens → count ≤ length tokens → at ≡ place_of text (drop count tokens)
      → (depth : ℕ) → Stops (run (factored depth ∷ []) (codes_of text tokens)) (record { text = text; left = tokens }) at
      → (more : ℕ) → count < more → more ≤ length (codes_of text tokens) → viable (factored depth) (take more (codes_of text tokens)) → ⊥
  no-longer text tokens at count lexed within placed depth stops more above enough h =
      let all = longest (factored depth ∷ []) (codes_of text tokens) (fits depth) in
      let at_stop : stop (factored depth ∷ []) (codes_of text tokens) ≡ stops.count = sym (run-stop (factored depth ∷ []) (codes_of text tokens)) ∙ ap (λ (o : ℕ × Bool). o.0) stops.runs in
      let stop_within : stops.count ≤ length tokens = omega (arith, all.within, at_stop, length-map tokens (code_of text)) in
      let there : place_of text (drop stops.count tokens) ≡ at = sym (stops.placed ∙ ap (λ (t : List ℕ). place_of t stops.there.left) stops.text ∙ ap (place_of text) stops.left) in
      let no_later : stops.count ≤ count = one-token text tokens stops.count count lexed stop_within (there ∙ placed) in
      all.no_longer more (omega (arith, at_stop, no_later, above)) enough (inl h)

  unexpected-behind : (text : List ℕ) (tokens : List Token) (at : ℕ) → tokens_of text ≡ Ok tokens → read_whole read text ≡ Err (fault Unexpected at)
      → IsBehindLongest (λ codes. (room : ℕ) × viable (rule room) codes) text tokens at
  unexpected-behind text tokens at lexed is =
      let start : Rest = record { text = text; left = tokens } in
      let begun : IsBegun (rule least) text tokens at = (known text tokens (fault Unexpected at) lexed is).1 tt in
      let is_read : (read start >>= λ p. at_end p.1 >>= λ _. Ok p.0) ≡ Err (fault Unexpected at) =
      sym (ap (λ (m : Result (List Token) SyntaxFault). m >>= λ ts. read (record { text = text; left = ts }) >>= λ p. at_end p.1 >>= λ _. Ok p.0) lexed) ∙ is in
      record {
        count = begun.count;
        placed = begun.placed;
        longest = record {
          within = omega (arith, begun.within, length-map tokens (code_of text));
          begun = (least, begun.begun);
          no_longer = λ more above enough h.
              let depth : ℕ = least + 1 + h.0 in
              let stops : Stops (run (factored depth ∷ []) (codes start)) start at = subst (Judged {X = X} true (run (factored depth ∷ []) (codes start)) start) is_read (judges depth (omega arith) start) in
              no-longer text tokens at begun.count lexed begun.within begun.placed depth stops more above enough ((grows h.0 depth (omega arith)).begun (take more (codes_of text tokens)) h.1);
        };
      }

-- Whole statements and conditions.
pub statements-parsed : SpelledIsParsed statement_of (statement_rule 63)
unfolding statement_of
statements-parsed =
    spelled-parsed parsing.statement check_statement (statement_rule 63) (statement 63) (statement-fits 63) (statement-grows 63 63 (omega arith))
    (judged false parsing.statement (statement 63) (statement-follows false 63 refl)) statement-fine

pub conditions-parsed : SpelledIsParsed condition_of (condition_rule 64)
unfolding condition_of
conditions-parsed =
    spelled-parsed parsing.condition check_condition (condition_rule 64) (condition 64) (condition-fits 64) (condition-grows 64 64 (omega arith))
    (judged false parsing.condition (condition 64) (condition-follows false 64 refl)) condition-fine

pub statement-fronts : UnexpectedIsBehindLongest statement_of BeginsStatement
unfolding statement_of
statement-fronts text tokens at lexed is =
    unexpected-behind parsing.statement statement_rule statement 63 statement_of statement-fits statement-grows
    (λ depth deep. judged true parsing.statement (statement depth) (statement-follows true depth deep)) statement-faults
    text tokens at lexed (read-unexpected parsing.statement check_statement statement-fine text tokens at lexed is)

pub condition-fronts : UnexpectedIsBehindLongest condition_of BeginsCondition
unfolding condition_of
condition-fronts text tokens at lexed is =
    unexpected-behind parsing.condition condition_rule condition 64 condition_of condition-fits condition-grows
    (λ depth deep. judged true parsing.condition (condition depth) (condition-follows true depth deep)) condition-faults
    text tokens at lexed (read-unexpected parsing.condition check_condition condition-fine text tokens at lexed is)
