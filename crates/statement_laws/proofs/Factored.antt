-- The grammar in a form in which one token always tells how it goes on.
use Rattle.std.specs.Prelude.{ℕ, zero, suc, Bool, true, false}
use Rattle.contract_words.specs.Grammar.{Rule, nothing, alt, seq, many}
use Rattle.ottl_lex.specs.Codes.{lower, upper, quoted, digits, hex, where_word, not_word, true_word, false_word, nil_word}
use Rattle.ottl_parse.specs.Grammar.{one, optional, never, key_rule, part_rule, comparison_rule, expr_rule}

-- whether a construct may be opened
abbrev pub gate : Bool → Rule
gate true = nothing
gate false = never

-- The token that opens a construct, behind which no text goes on where no more may be open.
abbrev pub opens : Bool → ℕ → Rule
opens more c = seq (one c) (gate more)

-- elements with commas between them and the token that closes, or this alone
abbrev pub closed : Rule → ℕ → Rule
closed rule close = alt (one close) (seq rule (seq (many (seq (one 44) rule)) (one close)))

-- digits behind a sign
abbrev pub signed : ℕ → Rule
signed c = seq (one c) (one digits)

-- literals
abbrev pub literal : Rule
literal =
    alt (one quoted) (alt (one hex) (alt (one digits) (alt (signed 43) (alt (signed 45)
    (alt (one true_word) (alt (one false_word) (one nil_word)))))))

-- further names of a path, and its keys
abbrev pub further : Bool → Rule
further more = seq (many (seq (one 46) (one lower))) (many (key_rule (opens more)))

-- arguments in their parentheses
abbrev pub arguments : Bool → Rule → Rule
arguments more expr = seq (opens more 40) (closed expr 41)

-- a call, a path or an enum
abbrev pub named : Bool → Rule → Rule
named more expr =
    alt (seq (one lower) (alt (arguments more expr) (further more)))
    (seq (one upper) (optional (arguments more expr)))

-- an expression in parentheses
abbrev pub group : Bool → Rule → Rule
group more expr = seq (opens more 40) (seq expr (one 41))

-- a list
abbrev pub list : Bool → Rule → Rule
list more expr = seq (opens more 91) (closed expr 93)

-- a map
abbrev pub pairs : Bool → Rule → Rule
pairs more expr = seq (opens more 123) (closed (part_rule expr) 125)

-- what binds tightest
abbrev pub primary : Bool → Rule → Rule
primary more expr = alt (group more expr) (alt (list more expr) (alt (pairs more expr) (alt (named more expr) literal)))

-- `not` and its operand, or a comparison
abbrev pub negated : Bool → Rule → Rule → Rule
negated more operand expr = alt (seq (opens more not_word) operand) (comparison_rule (primary more expr))

-- an operand of `not`, where so many more constructs may be open
abbrev pub negation : ℕ → Rule
negation zero = negated false never never
negation (suc room) = negated true (negation room) (expr_rule (negation room))

-- a condition, where so many constructs may be open
abbrev pub condition : ℕ → Rule
condition room = expr_rule (negation room)

-- a call that begins a statement
abbrev pub call : Rule → Rule
call expr = seq (alt (one lower) (one upper)) (arguments true expr)

-- a statement, where so many more may be open besides the parentheses of the call
abbrev pub statement : ℕ → Rule
statement room = seq (call (condition room)) (optional (seq (one where_word) (condition (suc room))))
