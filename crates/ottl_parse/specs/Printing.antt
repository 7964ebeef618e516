-- The one way in which a statement is printed.
use Rattle.std.specs.Prelude.{ℕ, ◌/◌, ◌%◌, Bool, true, false, not, cond, ◌==◌, ◌&&◌, nat_lt, nat_le, codes, List, [], ◌∷◌, ◌++◌, map, Option, Some, None}
use Rattle.std.specs.Char.{digit_char}
use Rattle.std.specs.Fmt.{decimal, signed_decimal}
use Rattle.pdata_value.specs.declared.value.Value.{Value, out-Value}
use Rattle.pdata_value.specs.declared.value.Value.TheOpen.{Value-F}
use Rattle.ottl_parse.specs.declared.expr.Call.{Call}
use Rattle.ottl_parse.specs.declared.expr.Compare.{Compare, out-Compare}
use Rattle.ottl_parse.specs.declared.expr.Expr.{Expr}
use Rattle.ottl_parse.specs.declared.expr.ExprKind.{ExprKind}
use Rattle.ottl_parse.specs.declared.expr.ExprKind.TheOpen.{ExprKind-F, Call-F, Compare-F, Expr-F, MapPart-F, Term-F}
use Rattle.ottl_parse.specs.declared.expr.ExprKind.TheFolds.{fold-Call, fold-Expr, fold-ExprKind}
use Rattle.ottl_parse.specs.declared.expr.MapPart.{MapPart}
use Rattle.ottl_parse.specs.declared.path.Path.{Path}
use Rattle.ottl_parse.specs.declared.path.PathKey.{PathKey}
use Rattle.ottl_parse.specs.declared.path.PathKey.TheVariants as keys
use Rattle.ottl_parse.specs.declared.sign.Sign.{Sign}
use Rattle.ottl_parse.specs.declared.sign.Sign.TheVariants as signs
use Rattle.ottl_parse.specs.declared.statement.Condition.{Condition}
use Rattle.ottl_parse.specs.declared.statement.Statement.{Statement}

-- Texts, bytes and other literals.

-- a byte that stands for itself between quotes
abbrev pub is_plain : ℕ → Bool
is_plain b = nat_le 32 b && not (b == 34) && not (b == 92)

-- the escape of another: a letter of its own, or two hexadecimal digits
abbrev pub escape_of : ℕ → List ℕ
escape_of b =
    cond (b == 34) (codes "\\\"") (cond (b == 92) (codes "\\\\") (cond (b == 10) (codes "\\n")
    (cond (b == 13) (codes "\\r") (cond (b == 9) (codes "\\t")
    (codes "\\x" ++ digit_char (b / 16) ∷ digit_char (b % 16) ∷ [])))))

-- a byte inside quotes
abbrev pub byte_text : ℕ → List ℕ
byte_text b = cond (is_plain b) (b ∷ []) (escape_of b)

-- bytes inside quotes
abbrev pub contents_text : List ℕ → List ℕ
contents_text [] = []
contents_text (b ∷ bs) = byte_text b ++ contents_text bs

-- a text in quotes
abbrev pub quoted_text : List ℕ → List ℕ
quoted_text text = codes "\"" ++ contents_text text ++ codes "\""

-- two digits in lower case for each byte
abbrev pub hex_digits : List ℕ → List ℕ
hex_digits [] = []
hex_digits (b ∷ bs) = digit_char (b / 16) ∷ digit_char (b % 16) ∷ hex_digits bs

-- a truth by its word
abbrev pub truth_text : Bool → List ℕ
truth_text true = codes "true"
truth_text false = codes "false"

-- a literal; no text spells one of another kind
abbrev pub literal_layer : {X Y Z : Type 0} → Value-F X Y Z → List ℕ
literal_layer (Value-F.Text text) = quoted_text text
literal_layer (Value-F.Truth truth) = truth_text truth
literal_layer (Value-F.Int int) = signed_decimal int
literal_layer (Value-F.Bytes bytes) = codes "0x" ++ hex_digits bytes
literal_layer _ = codes "nil"

-- a literal by its kind
abbrev pub literal_text : Value → List ℕ
literal_text value = literal_layer (out-Value value)

-- Lists.

-- a text, and the separator before it
abbrev pub Piece : Type 0
Piece = List ℕ × List ℕ

-- a text behind a separator
abbrev pub piece : List ℕ → List ℕ → Piece
piece separator text = (separator, text)

-- texts, each behind its separator
abbrev pub further : List Piece → List ℕ
further [] = []
further (x ∷ xs) = x.0 ++ x.1 ++ further xs

-- the same without the separator before the first
abbrev pub listed : List Piece → List ℕ
listed [] = []
listed (x ∷ xs) = x.1 ++ further xs

-- texts with the same separator between them
abbrev pub separated : List ℕ → List (List ℕ) → List ℕ
separated separator texts = listed (map (piece separator) texts)

-- Paths.

-- what stands between the brackets of a key
abbrev pub key_inside : PathKey → List ℕ
key_inside (keys.Name text) = quoted_text text
key_inside (keys.Index index) = decimal index

-- a key of a path
abbrev pub key_text : PathKey → List ℕ
key_text key = codes "[" ++ key_inside key ++ codes "]"

-- the keys of a path, one after another
abbrev pub keys_text : List PathKey → List ℕ
keys_text [] = []
keys_text (k ∷ ks) = key_text k ++ keys_text ks

-- names with points between them, and the keys
abbrev pub path_text : Path → List ℕ
path_text path = separated (codes ".") path.names ++ keys_text path.keys

-- Expressions.

-- a sign between its spaces
abbrev pub sign_text : Sign → List ℕ
sign_text signs.Plus = codes " + "
sign_text signs.Minus = codes " - "
sign_text signs.Times = codes " * "
sign_text signs.Over = codes " / "
sign_text signs.Equal = codes " == "
sign_text signs.Unequal = codes " != "
sign_text signs.Less = codes " < "
sign_text signs.AtMost = codes " <= "
sign_text signs.Greater = codes " > "
sign_text signs.AtLeast = codes " >= "

-- How tightly an expression binds, as the grammar's levels do, and its text: 0 for `or`, 1 for
-- `and`, 2 for `not`, 3 for a comparison, 4 for a sum, 5 for a product, 6 for all else.
abbrev pub Printed : Type 0
Printed = ℕ × List ℕ

-- where the grammar wants an expression of that level or a tighter one
abbrev pub at_level : ℕ → Printed → List ℕ
at_level level p = cond (nat_lt p.0 level) (codes "(" ++ p.1 ++ codes ")") p.1

-- expressions of a level behind the same separator
abbrev pub exprs_text : List ℕ → ℕ → List Printed → List ℕ
exprs_text separator level exprs = listed (map (λ e. piece separator (at_level level e)) exprs)

-- terms of a level behind their signs
abbrev pub terms_text : ℕ → List (Sign × Printed) → List ℕ
terms_text level terms = listed (map (λ t. piece (sign_text t.0) (at_level level t.1)) terms)

-- a kind of expression, by what is printed of its parts
abbrev pub kind_step : ExprKind-F Printed (List ℕ) (List ℕ) Printed (List ℕ) (Sign × Printed)
    → Printed
kind_step (ExprKind-F.Literal value) = (6, literal_text value)
kind_step (ExprKind-F.List exprs) = (6, codes "[" ++ exprs_text (codes ", ") 0 exprs ++ codes "]")
kind_step (ExprKind-F.Map parts) = (6, codes "{" ++ separated (codes ", ") parts ++ codes "}")
kind_step (ExprKind-F.Call call) = (6, call)
kind_step (ExprKind-F.Path path) = (6, path_text path)
kind_step (ExprKind-F.Enum name) = (6, name)
kind_step (ExprKind-F.Sum terms) = (4, terms_text 5 terms)
kind_step (ExprKind-F.Product terms) = (5, terms_text 6 terms)
kind_step (ExprKind-F.Compare sides) = (3, sides)
kind_step (ExprKind-F.Not operand) = (2, codes "not " ++ at_level 2 operand)
kind_step (ExprKind-F.And exprs) = (1, exprs_text (codes " and ") 2 exprs)
kind_step (ExprKind-F.Or exprs) = (0, exprs_text (codes " or ") 1 exprs)

-- a name and its arguments in parentheses
abbrev pub call_step : Call-F Printed (List ℕ) (List ℕ) Printed (List ℕ) (Sign × Printed) → List ℕ
call_step call = call.name ++ codes "(" ++ exprs_text (codes ", ") 0 call.arguments ++ codes ")"

-- both sides, with the sign between them
abbrev pub compare_step : Compare-F Printed (List ℕ) (List ℕ) Printed (List ℕ) (Sign × Printed)
    → List ℕ
compare_step compare = at_level 4 compare.left ++ sign_text compare.sign ++ at_level 4 compare.right

-- an expression is printed as its kind
abbrev pub expr_step : Expr-F Printed (List ℕ) (List ℕ) Printed (List ℕ) (Sign × Printed) → Printed
expr_step expr = expr.kind

-- a key of a map and what stands under it
abbrev pub part_step : MapPart-F Printed (List ℕ) (List ℕ) Printed (List ℕ) (Sign × Printed)
    → List ℕ
part_step part = quoted_text part.key ++ codes ": " ++ at_level 0 part.value

-- a term with its sign
abbrev pub term_step : Term-F Printed (List ℕ) (List ℕ) Printed (List ℕ) (Sign × Printed)
    → Sign × Printed
term_step term = (term.sign, term.expr)

-- how tightly an expression binds, and its text
unfoldable pub printed : Expr → Printed
printed =
    fold-Expr Printed (List ℕ) (List ℕ) Printed (List ℕ) (Sign × Printed)
    kind_step call_step compare_step expr_step part_step term_step

-- the same of a kind of expression
unfoldable pub kind_printed : ExprKind → Printed
kind_printed =
    fold-ExprKind Printed (List ℕ) (List ℕ) Printed (List ℕ) (Sign × Printed)
    kind_step call_step compare_step expr_step part_step term_step

-- an expression where the grammar wants one of that level
abbrev pub expr_text : ℕ → Expr → List ℕ
expr_text level expr = at_level level (printed expr)

-- a call
unfoldable pub call_text : Call → List ℕ
call_text =
    fold-Call Printed (List ℕ) (List ℕ) Printed (List ℕ) (Sign × Printed)
    kind_step call_step compare_step expr_step part_step term_step

-- both sides of a comparison and its sign
abbrev pub compare_text : Compare → List ℕ
compare_text compare =
    let sides = out-Compare compare in
    expr_text 4 sides.left ++ sign_text sides.sign ++ expr_text 4 sides.right

-- a key of a map and its value
abbrev pub part_text : MapPart → List ℕ
part_text part = quoted_text part.key ++ codes ": " ++ expr_text 0 part.value

-- Statements.

-- the condition of a statement behind its word
abbrev pub where_text : Option Condition → List ℕ
where_text None = []
where_text (Some condition) = codes " where " ++ expr_text 0 condition.expr

-- the text of a statement
abbrev pub statement_text : Statement → List ℕ
statement_text statement = call_text statement.call ++ where_text statement.condition
