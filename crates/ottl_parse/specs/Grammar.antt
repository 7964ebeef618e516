-- The grammar of statements and conditions over the codes of tokens, where so many constructs may
-- be open.
use Rattle.std.specs.Prelude.{◌≡◌, ◌≤◌, ℕ, zero, suc, Bool, false, ◌==◌, ◌||◌, List, length, take, drop, map, Result, Ok, Err}
use Rattle.contract_words.specs.Grammar.{Rule, nothing, byte, alt, seq, many, viable}
use Rattle.ottl_lex.specs.Codes.{code_of, lower, upper, quoted, digits, hex, where_word, and_word, or_word, not_word, true_word, false_word, nil_word, equal, unequal, at_most, at_least}
use Rattle.ottl_lex.specs.Quoted.{◌>>=◌}
use Rattle.ottl_lex.specs.Tokens.{tokens_of}
use Rattle.ottl_lex.specs.declared.fault.SyntaxFault.{SyntaxFault}
use Rattle.ottl_lex.specs.declared.fault.SyntaxKind.{SyntaxKind}
use Rattle.ottl_lex.specs.declared.fault.SyntaxKind.TheVariants.{Unexpected, Wide, TooDeep}
use Rattle.ottl_lex.specs.declared.token.Token.{Token}
use Rattle.ottl_parse.specs.Place.{Rest, place_of}
use Rattle.ottl_parse.specs.Parsing.{at_end}
use Rattle.ottl_parse.specs.Reading.{Reads, is_product_sign, is_sum_sign}

-- the codes of tokens
abbrev pub codes_of : List ℕ → List Token → List ℕ
codes_of text tokens = map (code_of text) tokens

-- this token
abbrev pub one : ℕ → Rule
one code = byte (λ c. c == code)

-- the rule or nothing
abbrev pub optional : Rule → Rule
optional rule = alt rule nothing

-- { "," rule } behind a rule, all of it optional
abbrev pub comma_list : Rule → Rule
comma_list rule = optional (seq rule (many (seq (one 44) rule)))

-- no text at all
abbrev pub never : Rule
never = byte (λ c. false)

-- A construct opens with a token that the grammar has there, or not at all where no more may be
-- open.
abbrev pub Opens : Type 0
Opens = ℕ → Rule

-- the same as before between a token that opens and one that closes
abbrev pub enclosed : Rule → Rule → ℕ → Rule
enclosed opening rule closes = seq opening (seq (comma_list rule) (one closes))

-- the words that are literals
abbrev pub is_literal_word : ℕ → Bool
is_literal_word c = c == true_word || c == false_word || c == nil_word

-- [ "+" | "-" ] number
abbrev pub number_rule : Rule
number_rule = seq (optional (byte is_sum_sign)) (one digits)

-- text | bytes | [ "+" | "-" ] number | "true" | "false" | "nil"
abbrev pub literal_rule : Rule
literal_rule = alt (one quoted) (alt (one hex) (alt number_rule (byte is_literal_word)))

-- "[" ( text | number ) "]"
abbrev pub key_rule : Opens → Rule
key_rule opens = seq (opens 91) (seq (alt (one quoted) (one digits)) (one 93))

-- lower { "." lower } { key }
abbrev pub path_rule : Opens → Rule
path_rule opens = seq (one lower) (seq (many (seq (one 46) (one lower))) (many (key_rule opens)))

-- ( lower | upper ) "(" [ expr { "," expr } ] ")"
abbrev pub call_rule : Opens → Rule → Rule
call_rule opens expr = seq (alt (one lower) (one upper)) (enclosed (opens 40) expr 41)

-- text ":" expr
abbrev pub part_rule : Rule → Rule
part_rule expr = seq (one quoted) (seq (one 58) expr)

-- literal | list | map | call | path | enum | "(" expr ")"
abbrev pub primary_rule : Opens → Rule → Rule
primary_rule opens expr =
    alt literal_rule (alt (enclosed (opens 91) expr 93)
    (alt (enclosed (opens 123) (part_rule expr) 125) (alt (call_rule opens expr)
    (alt (path_rule opens) (alt (one upper) (seq (opens 40) (seq expr (one 41))))))))

-- primary { ( "*" | "/" ) primary }
abbrev pub product_rule : Rule → Rule
product_rule primary = seq primary (many (seq (byte is_product_sign) primary))

-- product { ( "+" | "-" ) product }
abbrev pub sum_rule : Rule → Rule
sum_rule product = seq product (many (seq (byte is_sum_sign) product))

-- the signs of comparisons
abbrev pub is_comparison_sign : ℕ → Bool
is_comparison_sign c =
    c == equal || c == unequal || c == 60 || c == at_most || c == 62 || c == at_least

-- sum [ ( "==" | "!=" | "<" | "<=" | ">" | ">=" ) sum ]
abbrev pub comparison_rule : Rule → Rule
comparison_rule primary =
    let sum = sum_rule (product_rule primary) in
    seq sum (optional (seq (byte is_comparison_sign) sum))

-- "not" not | comparison, by the operand of `not` and the expressions inside constructs
abbrev pub not_rule : Opens → Rule → Rule → Rule
not_rule opens operand expr =
    alt (seq (opens not_word) operand) (comparison_rule (primary_rule opens expr))

-- not { "and" not }
abbrev pub and_rule : Rule → Rule
and_rule negation = seq negation (many (seq (one and_word) negation))

-- and { "or" and }
abbrev pub expr_rule : Rule → Rule
expr_rule negation = seq (and_rule negation) (many (seq (one or_word) (and_rule negation)))

-- an operand of `not`, where so many more constructs may be open
abbrev pub negation_rule : ℕ → Rule
negation_rule zero = not_rule (λ c. never) never never
negation_rule (suc room) = not_rule one (negation_rule room) (expr_rule (negation_rule room))

-- an expression alone, where so many constructs may be open
abbrev pub condition_rule : ℕ → Rule
condition_rule room = expr_rule (negation_rule room)

-- call [ "where" expr ], where so many more may be open besides the parentheses of the call
abbrev pub statement_rule : ℕ → Rule
statement_rule room =
    seq (call_rule one (condition_rule room))
    (optional (seq (one where_word) (condition_rule (suc room))))

-- so many tokens are a viable prefix of the rule, and the place is that of the next one, or of the
-- end
pub record IsBegun (rule : Rule) (text : List ℕ) (tokens : List Token) (at : ℕ) : Type 0 where
  pub count : ℕ
  pub within : count ≤ length tokens
  pub placed : at ≡ place_of text (drop count tokens)
  pub begun : viable rule (take count (codes_of text tokens))

-- the faults of reading that stand at a token
abbrev pub IsAtToken : SyntaxKind → Type 0
IsAtToken Unexpected = Unit {0}
IsAtToken Wide = Unit {0}
IsAtToken TooDeep = Unit {0}
IsAtToken _ = ⊥

-- what is read from the whole text, whatever stands where a condition or a value is wanted
abbrev pub read_whole : {X : Type 0} → (Rest → Reads X) → List ℕ → Result X SyntaxFault
read_whole read text =
    tokens_of text >>= λ tokens. read (record { text = text; left = tokens })
    >>= λ p. at_end p.1 >>= λ _. Ok p.0

-- A fault of reading is the fault of the text, and where it stands at a token, the tokens before it
-- are a viable prefix of the rule.
abbrev pub FaultsAreBehindPrefixes : {X : Type 0} → (Rest → Reads X)
    → (List ℕ → Result X SyntaxFault) → Rule → Type 0
FaultsAreBehindPrefixes read whole rule =
    (text : List ℕ) (tokens : List Token) (fault : SyntaxFault) → tokens_of text ≡ Ok tokens
    → read_whole read text ≡ Err fault
    → (whole text ≡ Err fault) × (IsAtToken fault.kind → IsBegun rule text tokens fault.at)
