-- What a text is parsed as, or its first fault: the first of its tokens, then the first among
-- tokens that don't spell a statement or go past a limit, then the first condition or value in the
-- other's place.
use Rattle.std.specs.Prelude.{ℕ, cond, ◌==◌, ◌||◌, List, length, Option, Some, None, Result, Ok}
use Rattle.ottl_lex.specs.Codes.{lower, upper, where_word}
use Rattle.ottl_lex.specs.Quoted.{◌>>=◌}
use Rattle.ottl_lex.specs.Tokens.{tokens_of}
use Rattle.ottl_lex.specs.declared.fault.SyntaxFault.{SyntaxFault}
use Rattle.ottl_lex.specs.declared.fault.SyntaxKind.TheVariants.{Unexpected}
use Rattle.ottl_parse.specs.Place.{Rest, head, place, slice, past}
use Rattle.ottl_parse.specs.Reading.{Reads, stops, call_behind, disjunction, inside_of}
use Rattle.ottl_parse.specs.Checks.{Checked, check, check_arguments}
use Rattle.ottl_parse.specs.declared.check.Wanted.TheVariants as wanted
use Rattle.ottl_parse.specs.declared.expr.Call.{Call}
use Rattle.ottl_parse.specs.declared.statement.Condition.{Condition}
use Rattle.ottl_parse.specs.declared.statement.Statement.{Statement}

-- how many constructs may be open at once
abbrev pub max_open : ℕ
max_open = 64

-- an expression that stands alone
abbrev pub condition : Rest → Reads Condition
condition r = disjunction (inside_of max_open) r >>= λ e. Ok (record { expr = e.0 }, e.1)

-- a name, and a call of it
unfoldable pub call : Rest → Reads Call
call r =
    cond (head r == lower || head r == upper)
    (cond (head (past r) == 40)
    (call_behind (inside_of max_open) (place r) (slice r) (past r)) (stops Unexpected (past r)))
    (stops Unexpected r)

-- a call, and a condition behind `where`
unfoldable pub statement : Rest → Reads Statement
statement r =
    call r >>= λ c. cond (head c.1 == where_word)
    (condition (past c.1) >>= λ d. Ok (record { call = c.0; condition = Some d.0 }, d.1))
    (Ok (record { call = c.0; condition = None }, c.1))

-- nothing is left
abbrev pub at_end : Rest → Checked
at_end r = cond (length r.left == 0) (Ok tt) (stops Unexpected r)

-- the expression of a condition is one
abbrev pub check_condition : Condition → Checked
check_condition condition = check condition.expr wanted.Condition

-- so is that behind `where`, if there is one
abbrev pub check_optional : Option Condition → Checked
check_optional None = Ok tt
check_optional (Some condition) = check_condition condition

-- the arguments of a statement are values, then its condition is one
abbrev pub check_statement : Statement → Checked
check_statement statement =
    check_arguments statement.call >>= λ _. check_optional statement.condition

-- what is read from the whole text, if all in it stands where it may
abbrev pub parsed : {X : Type 0} → (Rest → Reads X) → (X → Checked) → List ℕ → Result X SyntaxFault
parsed read well text =
    tokens_of text >>= λ tokens. read (record { text = text; left = tokens })
    >>= λ p. at_end p.1 >>= λ _. well p.0 >>= λ _. Ok p.0

-- the statement that a text spells, or its first fault
unfoldable pub statement_of : List ℕ → Result Statement SyntaxFault
statement_of text = parsed statement check_statement text

-- the condition that a text spells, or its first fault
unfoldable pub condition_of : List ℕ → Result Condition SyntaxFault
condition_of text = parsed condition check_condition text
