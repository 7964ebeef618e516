-- Tokens and blanks, one after another.
use Rattle.std.proofs.Common.{◌≡◌, ℕ, zero, suc, ◌+◌, ◌-◌, ◌≤◌, List, [], ◌∷◌, length, drop, Bool, true, false, refl, sym, ap, subst, arith}
use Rattle.std.specs.Prelude.{Result, Ok, Err, cond}
use Rattle.ottl_lex.specs.declared.fault.SyntaxFault.{SyntaxFault}
use Rattle.ottl_lex.specs.declared.token.Token.{Token}
use Rattle.ottl_lex.specs.Quoted.{◌>>=◌, with_front}
use Rattle.ottl_lex.specs.Tokens.{is_blank, token_at, tokens_from, tokens_of}
use Rattle.ottl_lex.specs.Table.{AreBlanks, AreTokens, TokensAreLongest}
use Rattle.ottl_lex.specs.Faults.{StopsAt, FaultsStand}
use Rattle.ottl_lex.proofs.FaultLemmas.{fault-stands}
use Rattle.ottl_lex.proofs.Stands.{StandsAt, token-stands}

blank-before : (at b : ℕ) (rest : List ℕ) (place : ℕ) (further : List ℕ) → is_blank b ≡ true → AreBlanks (at + 1) rest place further → AreBlanks at (b ∷ rest) place further
blank-before at b rest place further blank are = record {
  blanks = b ∷ are.blanks;
  are = (blank, are.are);
  whole = ap (λ xs. b ∷ xs) are.whole;
  placed = omega (arith, are.placed);
}

tokens-before : (at b : ℕ) (rest : List ℕ) (ts : List Token) (place : ℕ) (further : List ℕ) → is_blank b ≡ true
    → AreTokens (at + 1) rest ts place further → AreTokens at (b ∷ rest) ts place further
tokens-before at b rest [] place further blank are = blank-before at b rest place further blank are
tokens-before at b rest (t ∷ ts) place further blank are = (are.0, blank-before at b rest t.begin are.0 blank are.1, are.2, are.3, are.4)

-- what was read is right
abbrev Right : ℕ → ℕ → List ℕ → Result (List Token) SyntaxFault → Type 0
Right end at text (Ok ts) = AreTokens at text ts end []
Right end at text (Err f) = StopsAt at text f

right-blank : (end at b : ℕ) (rest : List ℕ) (read : Result (List Token) SyntaxFault) → is_blank b ≡ true → Right end (at + 1) rest read → Right end at (b ∷ rest) read
right-blank end at b rest (Ok ts) blank right = tokens-before at b rest ts end [] blank right
right-blank end at b rest (Err f) blank right = record {
  tokens = right.tokens;
  place = right.place;
  rest = right.rest;
  before = tokens-before at b rest right.tokens right.place right.rest blank right.before;
  stands = right.stands;
}

token-before : (at : ℕ) (text : List ℕ) (t : Token) (ts : List Token) (place : ℕ) (rest : List ℕ) → StandsAt at text t
    → AreTokens t.end (drop (t.end - at) text) ts place rest → AreTokens at text (t ∷ ts) place rest
token-before at text t ts place rest stands are =
    let none : AreBlanks at text t.begin text = record { blanks = []; are = tt; whole = refl; placed = omega (arith, stands.begins) } in
    let P : ℕ → Type 0 = λ m. AreTokens t.end (drop (t.end - m) text) ts place rest in
    (text, none, stands.more, stands.is, subst P (sym stands.begins) are)

right-token : (end at : ℕ) (text : List ℕ) (t : Token) (read : Result (List Token) SyntaxFault) → StandsAt at text t
    → Right end t.end (drop (t.end - at) text) read → Right end at text (with_front (t ∷ []) read)
right-token end at text t (Ok ts) stands right = token-before at text t ts end [] stands right
right-token end at text t (Err f) stands right = record {
  tokens = t ∷ right.tokens;
  place = right.place;
  rest = right.rest;
  before = token-before at text t right.tokens right.place right.rest stands right.before;
  stands = right.stands;
}

abbrev Goes : List ℕ → Type 0
Goes rest = (n at end : ℕ) → end ≡ at + length rest → n ≤ length rest → Right end (at + n) (drop n rest) (tokens_from n at rest)

module _ (b : ℕ) (rest : List ℕ) (at end : ℕ) (ends : end ≡ at + length (b ∷ rest)) (goes : Goes rest) where
  goes-token : (read : Result Token SyntaxFault) → token_at at (b ∷ rest) ≡ read
      → Right end at (b ∷ rest) (read >>= λ t. with_front (t ∷ []) (tokens_from (t.end - (at + 1)) (at + 1) rest))
  goes-token (Err f) is = record {
    tokens = [];
    place = at;
    rest = b ∷ rest;
    before = record { blanks = []; are = tt; whole = refl; placed = omega arith };
    stands = fault-stands at b rest f is;
  }
  goes-token (Ok t) is =
      let stands = token-stands at b rest t is in
      let size : t.end - at ≡ suc (t.end - (at + 1)) = omega (arith, stands.more, stands.begins) in
      let place : at + 1 + (t.end - (at + 1)) ≡ t.end = omega (arith, stands.more, stands.begins) in
      let more = goes (t.end - (at + 1)) (at + 1) end (omega (arith, ends)) (omega (arith, stands.within)) in
      let P : ℕ → Type 0 = λ m. Right end m (drop (t.end - (at + 1)) rest) (tokens_from (t.end - (at + 1)) (at + 1) rest) in
      let Q : ℕ → Type 0 = λ m. Right end t.end (drop m (b ∷ rest)) (tokens_from (t.end - (at + 1)) (at + 1) rest) in
      right-token end at (b ∷ rest) t (tokens_from (t.end - (at + 1)) (at + 1) rest) stands (subst Q (sym size) (subst P place more))

  goes-by : (test : Bool) → is_blank b ≡ test
      → Right end at (b ∷ rest) (cond test (tokens_from 0 (at + 1) rest) (token_at at (b ∷ rest) >>= λ t. with_front (t ∷ []) (tokens_from (t.end - (at + 1)) (at + 1) rest)))
  goes-by true blank =
      let P : ℕ → Type 0 = λ m. Right end m rest (tokens_from 0 (at + 1) rest) in
      right-blank end at b rest (tokens_from 0 (at + 1) rest) blank (subst P (omega arith) (goes 0 (at + 1) end (omega (arith, ends)) (omega arith)))
  goes-by false blank = goes-token (token_at at (b ∷ rest)) refl

goes-on : (text : List ℕ) → Goes text
goes-on [] zero at end ends within = record { blanks = []; are = tt; whole = refl; placed = omega (arith, ends) }
goes-on [] (suc n) at end ends within = absurd (omega (arith, within))
goes-on (b ∷ rest) (suc n) at end ends within =
    let P : ℕ → Type 0 = λ m. Right end m (drop n rest) (tokens_from n (at + 1) rest) in
    subst P (omega arith) (goes-on rest n (at + 1) end (omega (arith, ends)) (omega (arith, within)))
goes-on (b ∷ rest) zero at end ends within =
    let P : ℕ → Type 0 = λ m. Right end m (b ∷ rest) (tokens_from 0 at (b ∷ rest)) in
    subst P (omega arith) (goes-by b rest at end ends (goes-on rest) (is_blank b) refl)

pub tokens_are_longest : TokensAreLongest
unfolding tokens_of
tokens_are_longest text tokens is =
    let right = goes-on text 0 0 (length text) (omega arith) (omega arith) in
    let P : Result (List Token) SyntaxFault → Type 0 = λ read. Right (length text) 0 text read in
    let Q : ℕ → Type 0 = λ m. Right (length text) m text (tokens_of text) in
    subst P is (subst Q (omega arith) right)

pub faults_stand : FaultsStand
unfolding tokens_of
faults_stand text fault is =
    let right = goes-on text 0 0 (length text) (omega arith) (omega arith) in
    let P : Result (List Token) SyntaxFault → Type 0 = λ read. Right (length text) 0 text read in
    let Q : ℕ → Type 0 = λ m. Right (length text) m text (tokens_of text) in
    subst P is (subst Q (omega arith) right)
