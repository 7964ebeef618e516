-- What a statement and a condition are planned as in a context, or the first fault of a walk from
-- left to right, each call before its arguments (docs/OTTL.md).
use Rattle.std.specs.Prelude.{ℕ, Bool, true, false, ◌==◌, ◌||◌, nat_lt, cond, codes, ℤ, pos, List, [], ◌∷◌, length, map, Option, Some, None, is_some, Result, Ok, Err}
use Rattle.std.specs.Str.{bytes_eq}
use Rattle.func_text.specs.Patterns.{pattern_of}
use Rattle.func_time.specs.Formats.{is_format}
use Rattle.ottl_parse.specs.Checks.{is_upper}
use Rattle.ottl_parse.specs.declared.expr.Call.{Call, out-Call}
use Rattle.ottl_parse.specs.declared.expr.Compare.{Compare, out-Compare}
use Rattle.ottl_parse.specs.declared.expr.Expr.{Expr}
use Rattle.ottl_parse.specs.declared.expr.ExprKind.{ExprKind}
use Rattle.ottl_parse.specs.declared.expr.ExprKind.TheOpen.{ExprKind-F, Call-F, Compare-F, Expr-F, MapPart-F, Term-F}
use Rattle.ottl_parse.specs.declared.expr.ExprKind.TheFolds.{fold-Expr, fold-ExprKind}
use Rattle.ottl_parse.specs.declared.expr.MapPart.{MapPart}
use Rattle.ottl_parse.specs.declared.expr.Term.{Term}
use Rattle.ottl_parse.specs.declared.path.Path.{Path}
use Rattle.ottl_parse.specs.declared.sign.Sign.{Sign}
use Rattle.ottl_parse.specs.declared.statement.Condition.{Condition}
use Rattle.ottl_parse.specs.declared.statement.Statement.{Statement}
use Rattle.pdata_tree.specs.declared.path.PathTo.{PathTo}
use Rattle.pdata_tree.specs.declared.place.Context.{Context}
use Rattle.pdata_value.specs.declared.value.Value.{Value, out-Value}
use Rattle.pdata_value.specs.declared.value.Value.TheOpen.{Value-F}
use Rattle.pdata_value.specs.declared.value.Value.TheVariants as value_of
use Rattle.ottl_plan.specs.Answers.{fault, ◌>>=◌, all_of}
use Rattle.ottl_plan.specs.Functions.{editor_of, editor_arguments, converter_of, converter_arguments}
use Rattle.ottl_plan.specs.Paths.{path_of}
use Rattle.ottl_plan.specs.Severities.{severity_of}
use Rattle.ottl_plan.specs.declared.argument.Argument.{Argument}
use Rattle.ottl_plan.specs.declared.argument.Argument.TheVariants as argument
use Rattle.ottl_plan.specs.declared.argument.ArgumentKind.{ArgumentKind}
use Rattle.ottl_plan.specs.declared.argument.ArgumentKind.TheVariants as wants
use Rattle.ottl_plan.specs.declared.argument.ArgumentLiteral.{ArgumentLiteral}
use Rattle.ottl_plan.specs.declared.argument.ArgumentLiteral.TheVariants as literal
use Rattle.ottl_plan.specs.declared.fault.PlanFault.{PlanFault}
use Rattle.ottl_plan.specs.declared.fault.PlanKind.{PlanKind}
use Rattle.ottl_plan.specs.declared.fault.PlanKind.TheVariants.{UnknownFunction, UnknownEnum, WrongArity, WrongKind, EditorWanted, ConverterWanted, BadMode, PatternLong, BadPattern}
use Rattle.ottl_plan.specs.declared.function.Converter.{Converter}
use Rattle.ottl_plan.specs.declared.function.Editor.{Editor}
use Rattle.ottl_plan.specs.declared.planned.Arguments.{Arguments, roll-Arguments}
use Rattle.ottl_plan.specs.declared.planned.Conversion.{Conversion}
use Rattle.ottl_plan.specs.declared.planned.Edit.{Edit}
use Rattle.ottl_plan.specs.declared.planned.PlannedCompare.{PlannedCompare, roll-PlannedCompare}
use Rattle.ottl_plan.specs.declared.planned.PlannedCondition.{PlannedCondition}
use Rattle.ottl_plan.specs.declared.planned.PlannedExpr.{PlannedExpr}
use Rattle.ottl_plan.specs.declared.planned.PlannedExpr.TheVariants as plans
use Rattle.ottl_plan.specs.declared.planned.PlannedPart.{PlannedPart}
use Rattle.ottl_plan.specs.declared.planned.PlannedStatement.{PlannedStatement}
use Rattle.ottl_plan.specs.declared.planned.PlannedTerm.{PlannedTerm}

-- a plan of X, or the first fault
abbrev pub Plan : Type 0 → Type 0
Plan X = Result X PlanFault

-- Forms of arguments.

-- what the text itself shows of an argument: a text, a list of texts, or a path
pub data Form : Type 0 where
  text : List ℕ → Form
  keys : List (List ℕ) → Form
  path : Path → Form
  other : Form

-- a literal, by kind
abbrev pub literal_form : {X Y Z : Type 0} → Value-F X Y Z → Form
literal_form (Value-F.Text bytes) = text bytes
literal_form _ = other

-- a text, where the form is one
abbrev pub text_in : Form → Option (List ℕ)
text_in (text bytes) = Some bytes
text_in _ = None

-- a text before others, where all are texts
abbrev pub with_text : Option (List ℕ) → Option (List (List ℕ)) → Option (List (List ℕ))
with_text (Some bytes) (Some more) = Some (bytes ∷ more)
with_text _ _ = None

-- the texts that all forms are
abbrev pub texts_in : List Form → Option (List (List ℕ))
texts_in [] = Some []
texts_in (f ∷ fs) = with_text (text_in f) (texts_in fs)

-- a list, by its texts
abbrev pub list_form : Option (List (List ℕ)) → Form
list_form None = other
list_form (Some texts) = keys texts

-- What an argument is planned as, where it is neither a value nor a target.

-- the most bytes of a pattern
abbrev pub max_pattern : ℕ
max_pattern = 1000

-- a text that is a pattern
abbrev pub pattern_argument : ℕ → List ℕ → Plan ArgumentLiteral
pattern_argument at bytes =
    cond (nat_lt max_pattern (length bytes)) (Err (fault PatternLong at))
    (cond (is_some (pattern_of bytes)) (Ok (literal.Pattern bytes)) (Err (fault BadPattern at)))

-- how maps are merged
abbrev pub is_strategy : List ℕ → Bool
is_strategy bytes =
    bytes_eq bytes (codes "insert") || bytes_eq bytes (codes "update")
    || bytes_eq bytes (codes "upsert")

-- where patterns are replaced
abbrev pub is_mode : List ℕ → Bool
is_mode bytes = bytes_eq bytes (codes "key") || bytes_eq bytes (codes "value")

-- how bytes are spelled
abbrev pub is_code : List ℕ → Bool
is_code bytes = bytes_eq bytes (codes "base64")

-- whether a text is of the set that is wanted
abbrev pub is_word_of : ArgumentKind → List ℕ → Bool
is_word_of wants.Strategy bytes = is_strategy bytes
is_word_of wants.Mode bytes = is_mode bytes
is_word_of wants.Code bytes = is_code bytes
is_word_of wants.Format bytes = is_format bytes
is_word_of _ bytes = true

-- a text, by what is wanted
abbrev pub text_argument : ArgumentKind → ℕ → List ℕ → Plan ArgumentLiteral
text_argument wants.Value at bytes = Err (fault WrongKind at)
text_argument wants.Keys at bytes = Err (fault WrongKind at)
text_argument wants.Pattern at bytes = pattern_argument at bytes
text_argument kind at bytes =
    cond (is_word_of kind bytes) (Ok (literal.Text bytes)) (Err (fault BadMode at))

-- a list of texts is wanted
abbrev pub is_keys : ArgumentKind → Bool
is_keys wants.Keys = true
is_keys _ = false

-- a list of texts, by what is wanted
abbrev pub keys_argument : ArgumentKind → ℕ → List (List ℕ) → Plan ArgumentLiteral
keys_argument kind at texts =
    cond (is_keys kind) (Ok (literal.Keys texts)) (Err (fault WrongKind at))

-- a form, by what is wanted
abbrev pub literal_argument : ArgumentKind → ℕ → Form → Plan ArgumentLiteral
literal_argument kind at (text bytes) = text_argument kind at bytes
literal_argument kind at (keys texts) = keys_argument kind at texts
literal_argument kind at _ = Err (fault WrongKind at)

-- a target: a path of the context
abbrev pub target_of : Context → ℕ → Form → Plan PathTo
target_of context at (path p) = path_of context at p
target_of context at _ = Err (fault WrongKind at)

-- Arguments in order.

-- what is planned in a context
abbrev pub Walk : Type 0 → Type 0
Walk X = Context → Plan X

-- what is seen of an expression: its place, its form, and what it is planned as where it is a value
pub record Seen : Type 0 where
  pub at : ℕ
  pub form : Form
  pub value : Walk PlannedExpr

-- a value is wanted
abbrev pub is_value : ArgumentKind → Bool
is_value wants.Value = true
is_value _ = false

-- an argument, by what is wanted
abbrev pub argument_of : Context → ArgumentKind → Seen → Plan Argument
argument_of context kind seen =
    cond (is_value kind) (seen.value context >>= λ value. Ok (argument.Value value))
    (literal_argument kind seen.at seen.form >>= λ literal. Ok (argument.Literal literal))

-- values, and all else
abbrev pub arguments : List PlannedExpr → List ArgumentLiteral → Arguments
arguments values literals = roll-Arguments (record { values = values; literals = literals })

-- arguments one by one, each by what is wanted in its place
abbrev pub each_argument : Context → List ArgumentKind → List Seen → Plan (List Argument)
each_argument context kinds [] = Ok []
each_argument context [] (s ∷ ss) = Ok []
each_argument context (k ∷ ks) (s ∷ ss) =
    argument_of context k s >>= λ a. each_argument context ks ss >>= λ given. Ok (a ∷ given)

-- the values among arguments
abbrev pub values_among : List Argument → List PlannedExpr
values_among [] = []
values_among (argument.Value value ∷ given) = value ∷ values_among given
values_among (argument.Literal literal ∷ given) = values_among given

-- the literals among arguments
abbrev pub literals_among : List Argument → List ArgumentLiteral
literals_among [] = []
literals_among (argument.Value value ∷ given) = literals_among given
literals_among (argument.Literal literal ∷ given) = literal ∷ literals_among given

-- arguments, the values apart from all else
abbrev pub arguments_of : Context → List ArgumentKind → List Seen → Plan Arguments
arguments_of context kinds seen =
    each_argument context kinds seen
    >>= λ given. Ok (arguments (values_among given) (literals_among given))

-- Calls of converters.

-- a converter with its arguments, as many as it wants
abbrev pub converted : ℕ → List Seen → Option Converter → Walk Conversion
converted at seen None context = Err (fault UnknownFunction at)
converted at seen (Some converter) context =
    cond (length seen == length (converter_arguments converter))
    (arguments_of context (converter_arguments converter) seen
    >>= λ arguments. Ok (record { converter = converter; arguments = arguments }))
    (Err (fault WrongArity at))

-- a call by its place, its name and its arguments
abbrev pub conversion_of : ℕ → List ℕ → List Seen → Walk Conversion
conversion_of at name seen context =
    cond (is_upper name) (converted at seen (converter_of name) context)
    (Err (fault ConverterWanted at))

-- a name of a severity stands for its number
abbrev pub numbered : ℕ → Option ℤ → Plan ℤ
numbered at None = Err (fault UnknownEnum at)
numbered at (Some number) = Ok number

-- The layers of an expression, by what is seen of what they hold.

-- expressions by what is seen of them, and their parts by what they are planned as
abbrev pub Kind : Type 0
Kind =
    ExprKind-F (ℕ → Seen) (Walk Conversion) (Walk PlannedCompare) Seen (Walk PlannedPart)
    (Walk PlannedTerm)

-- parts, one after another
abbrev pub all_in : {X : Type 0} → Context → List (Walk X) → Plan (List X)
all_in context walks = all_of (map (λ walk. walk context) walks)

-- values, one after another
abbrev pub values_of : Context → List Seen → Plan (List PlannedExpr)
values_of context seen = all_of (map (λ s. s.value context) seen)

-- an expression of a form, at a place
abbrev pub seen_as : Form → (Context → ℕ → Plan PlannedExpr) → ℕ → Seen
seen_as form value at = record { at = at; form = form; value = λ context. value context at }

-- each kind of expression
abbrev pub kind_step : Kind → ℕ → Seen
kind_step (ExprKind-F.Literal v) =
    seen_as (literal_form (out-Value v)) (λ context at. Ok (plans.Literal v))
kind_step (ExprKind-F.List seen) =
    seen_as (list_form (texts_in (map (λ s. s.form) seen)))
    (λ context at. values_of context seen >>= λ values. Ok (plans.List values))
kind_step (ExprKind-F.Map parts) =
    seen_as other (λ context at. all_in context parts >>= λ parts. Ok (plans.Map parts))
kind_step (ExprKind-F.Call call) =
    seen_as other (λ context at. call context >>= λ conversion. Ok (plans.Convert conversion))
kind_step (ExprKind-F.Path p) =
    seen_as (path p) (λ context at. path_of context at p >>= λ path. Ok (plans.Path path))
kind_step (ExprKind-F.Enum name) =
    seen_as other
    (λ context at. numbered at (severity_of name) >>= λ n. Ok (plans.Literal (value_of.Int n)))
kind_step (ExprKind-F.Sum terms) =
    seen_as other (λ context at. all_in context terms >>= λ terms. Ok (plans.Sum terms))
kind_step (ExprKind-F.Product terms) =
    seen_as other (λ context at. all_in context terms >>= λ terms. Ok (plans.Product terms))
kind_step (ExprKind-F.Compare sides) =
    seen_as other (λ context at. sides context >>= λ sides. Ok (plans.Compare sides))
kind_step (ExprKind-F.Not operand) =
    seen_as other (λ context at. operand.value context >>= λ operand. Ok (plans.Not operand))
kind_step (ExprKind-F.And seen) =
    seen_as other (λ context at. values_of context seen >>= λ values. Ok (plans.And values))
kind_step (ExprKind-F.Or seen) =
    seen_as other (λ context at. values_of context seen >>= λ values. Ok (plans.Or values))

-- a call inside an expression
abbrev pub call_step :
    Call-F (ℕ → Seen) (Walk Conversion) (Walk PlannedCompare) Seen (Walk PlannedPart)
    (Walk PlannedTerm) → Walk Conversion
call_step call = conversion_of call.at call.name call.arguments

-- both sides of a comparison, the left one first
abbrev pub compared : Sign → Seen → Seen → Walk PlannedCompare
compared sign left right context =
    left.value context >>= λ left. right.value context
    >>= λ right. Ok (roll-PlannedCompare (record { sign = sign; left = left; right = right }))

-- its layer
abbrev pub compare_step :
    Compare-F (ℕ → Seen) (Walk Conversion) (Walk PlannedCompare) Seen (Walk PlannedPart)
    (Walk PlannedTerm) → Walk PlannedCompare
compare_step compare = compared compare.sign compare.left compare.right

-- an expression at its place
abbrev pub expr_step :
    Expr-F (ℕ → Seen) (Walk Conversion) (Walk PlannedCompare) Seen (Walk PlannedPart)
    (Walk PlannedTerm) → Seen
expr_step expr = expr.kind expr.at

-- a key and its value
abbrev pub keyed : List ℕ → Seen → Walk PlannedPart
keyed key seen context = seen.value context >>= λ value. Ok (record { key = key; value = value })

-- its layer
abbrev pub part_step :
    MapPart-F (ℕ → Seen) (Walk Conversion) (Walk PlannedCompare) Seen (Walk PlannedPart)
    (Walk PlannedTerm) → Walk PlannedPart
part_step part = keyed part.key part.value

-- a sign and the value behind it
abbrev pub signed : Sign → Seen → Walk PlannedTerm
signed sign seen context = seen.value context >>= λ expr. Ok (record { sign = sign; expr = expr })

-- its layer
abbrev pub term_step :
    Term-F (ℕ → Seen) (Walk Conversion) (Walk PlannedCompare) Seen (Walk PlannedPart)
    (Walk PlannedTerm) → Walk PlannedTerm
term_step term = signed term.sign term.expr

-- what is seen of an expression
unfoldable pub seen : Expr → Seen
seen =
    fold-Expr (ℕ → Seen) (Walk Conversion) (Walk PlannedCompare) Seen (Walk PlannedPart)
    (Walk PlannedTerm) kind_step call_step compare_step expr_step part_step term_step

-- what is seen of an expression of this kind at a place
unfoldable pub kind_seen : ExprKind → ℕ → Seen
kind_seen =
    fold-ExprKind (ℕ → Seen) (Walk Conversion) (Walk PlannedCompare) Seen (Walk PlannedPart)
    (Walk PlannedTerm) kind_step call_step compare_step expr_step part_step term_step

-- the form of an expression of this kind, wherever it stands
abbrev pub form_of : ExprKind → Form
form_of kind = (kind_seen kind 0).form

-- what an expression is planned as: its first fault is its own, or else the first of what it holds
abbrev pub value_in : Context → Expr → Plan PlannedExpr
value_in context expr = (seen expr).value context

-- a call of a converter
abbrev pub conversion_in : Context → Call → Plan Conversion
conversion_in context call =
    conversion_of (out-Call call).at (out-Call call).name
    (map seen (out-Call call).arguments) context

-- a comparison
abbrev pub compare_in : Context → Compare → Plan PlannedCompare
compare_in context compare =
    compared (out-Compare compare).sign (seen (out-Compare compare).left)
    (seen (out-Compare compare).right) context

-- a pair of a map literal
abbrev pub part_in : Context → MapPart → Plan PlannedPart
part_in context part = keyed part.key (seen part.value) context

-- a term of a sum or a product
abbrev pub term_in : Context → Term → Plan PlannedTerm
term_in context term = signed term.sign (seen term.expr) context

-- Statements and conditions.

-- an editor with its target and what it wants behind it, as many as it wants
abbrev pub edited : Context → ℕ → List Expr → Option Editor → Plan Edit
edited context at exprs None = Err (fault UnknownFunction at)
edited context at [] (Some editor) = Err (fault WrongArity at)
edited context at (target ∷ rest) (Some editor) =
    cond (length rest == length (editor_arguments editor))
    (target_of context target.at (seen target).form >>= λ path.
    arguments_of context (editor_arguments editor) (map seen rest)
    >>= λ arguments. Ok (record { editor = editor; target = path; arguments = arguments }))
    (Err (fault WrongArity at))

-- the call of a statement
abbrev pub edit_of : Context → Call → Plan Edit
edit_of context call =
    cond (is_upper (out-Call call).name) (Err (fault EditorWanted (out-Call call).at))
    (edited context (out-Call call).at (out-Call call).arguments (editor_of (out-Call call).name))

-- a condition in a context
abbrev pub planned_condition : Context → Condition → Plan PlannedCondition
planned_condition context condition =
    value_in context condition.expr >>= λ expr. Ok (record { context = context; expr = expr })

-- the condition behind `where`, if there is one
abbrev pub planned_where : Context → Option Condition → Plan (Option PlannedCondition)
planned_where context None = Ok None
planned_where context (Some condition) =
    planned_condition context condition >>= λ planned. Ok (Some planned)

-- a statement in a context
abbrev pub planned_statement : Context → Statement → Plan PlannedStatement
planned_statement context statement =
    edit_of context statement.call >>= λ edit. planned_where context statement.condition
    >>= λ condition. Ok (record { context = context; edit = edit; condition = condition })
