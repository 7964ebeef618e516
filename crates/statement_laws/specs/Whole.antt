-- Reading a whole text, beside the grammar of its tokens.
use Rattle.std.specs.Prelude.{◌≡◌, ℕ, List, drop, Result, Ok, Err}
use Rattle.contract_words.specs.Fronts.{IsLongest}
use Rattle.contract_words.specs.Grammar.{Rule, spells, viable}
use Rattle.ottl_lex.specs.Quoted.{fault}
use Rattle.ottl_lex.specs.Tokens.{tokens_of}
use Rattle.ottl_lex.specs.declared.fault.SyntaxFault.{SyntaxFault}
use Rattle.ottl_lex.specs.declared.fault.SyntaxKind.TheVariants.{Wide, Unexpected, ConditionWanted, ValueWanted}
use Rattle.ottl_lex.specs.declared.fault.SyntaxKind.{SyntaxKind}
use Rattle.ottl_lex.specs.declared.token.Token.{Token}
use Rattle.ottl_parse.specs.Grammar.{codes_of, statement_rule, condition_rule}
use Rattle.ottl_parse.specs.Place.{place_of}

-- the codes begin some statement, however deep that nests
abbrev pub BeginsStatement : List ℕ → Type 0
BeginsStatement codes = (room : ℕ) × viable (statement_rule room) codes

-- the codes begin some condition, however deep that nests
abbrev pub BeginsCondition : List ℕ → Type 0
BeginsCondition codes = (room : ℕ) × viable (condition_rule room) codes

-- The place is that of the token behind the longest front of the tokens that passes, or of the end.
pub record IsBehindLongest (Passes : List ℕ → Type 0) (text : List ℕ) (tokens : List Token)
    (at : ℕ) : Type 0 where
  pub count : ℕ
  pub placed : at ≡ place_of text (drop count tokens)
  pub longest : IsLongest Passes (codes_of text tokens) count

-- a fault that stands where the grammar goes on: a number that is too wide, or a condition or a
-- value in the other's place
abbrev pub IsWithinGrammar : SyntaxKind → Type 0
IsWithinGrammar Wide = Unit {0}
IsWithinGrammar ConditionWanted = Unit {0}
IsWithinGrammar ValueWanted = Unit {0}
IsWithinGrammar _ = ⊥

-- what is parsed, or such a fault
abbrev pub IsParsed : {X : Type 0} → Result X SyntaxFault → Type 0
IsParsed (Ok x) = Unit {0}
IsParsed (Err e) = IsWithinGrammar e.kind

-- Where the rule spells the tokens of a text, the text is parsed, or has such a fault.
abbrev pub SpelledIsParsed : {X : Type 0} → (List ℕ → Result X SyntaxFault) → Rule → Type 0
SpelledIsParsed whole rule =
    (text : List ℕ) (tokens : List Token) → tokens_of text ≡ Ok tokens
    → spells rule (codes_of text tokens) → IsParsed (whole text)

-- Unexpected stands behind the longest front of the tokens that passes.
abbrev pub UnexpectedIsBehindLongest : {X : Type 0} → (List ℕ → Result X SyntaxFault)
    → (List ℕ → Type 0) → Type 0
UnexpectedIsBehindLongest whole Passes =
    (text : List ℕ) (tokens : List Token) (at : ℕ) → tokens_of text ≡ Ok tokens
    → whole text ≡ Err (fault Unexpected at) → IsBehindLongest Passes text tokens at
