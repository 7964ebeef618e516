-- Where conditions and values may stand: the first that stands where the other is wanted, from the
-- left.
use Rattle.std.specs.Prelude.{ℕ, Bool, true, false, cond, List, [], ◌∷◌, map, Result, Ok, Err}
use Rattle.std.specs.Char.{is_ascii_uppercase}
use Rattle.ottl_lex.specs.Quoted.{fault, ◌>>=◌}
use Rattle.ottl_lex.specs.declared.fault.SyntaxFault.{SyntaxFault}
use Rattle.ottl_lex.specs.declared.fault.SyntaxKind.TheVariants.{ConditionWanted, ValueWanted}
use Rattle.pdata_value.specs.declared.value.Value.{Value, out-Value}
use Rattle.pdata_value.specs.declared.value.Value.TheOpen.{Value-F}
use Rattle.ottl_parse.specs.declared.check.Wanted.{Wanted}
use Rattle.ottl_parse.specs.declared.check.Wanted.TheVariants as wanted
use Rattle.ottl_parse.specs.declared.expr.Call.{Call, out-Call}
use Rattle.ottl_parse.specs.declared.expr.Compare.{Compare, out-Compare}
use Rattle.ottl_parse.specs.declared.expr.Expr.{Expr}
use Rattle.ottl_parse.specs.declared.expr.ExprKind.{ExprKind}
use Rattle.ottl_parse.specs.declared.expr.ExprKind.TheOpen.{ExprKind-F, Call-F, Compare-F, Expr-F, MapPart-F, Term-F}
use Rattle.ottl_parse.specs.declared.expr.ExprKind.TheFolds.{fold-Expr, fold-ExprKind}

-- all stands where it may, or the first fault
abbrev pub Checked : Type 0
Checked = Result (Unit {0}) SyntaxFault

-- the first fault of these, if there is one
abbrev pub all_well : List Checked → Checked
all_well [] = Ok tt
all_well (c ∷ cs) = c >>= λ _. all_well cs

-- a value at the place
abbrev pub value_at : ℕ → Wanted → Checked
value_at at wanted.Value = Ok tt
value_at at wanted.Condition = Err (fault ConditionWanted at)

-- a condition at the place
abbrev pub condition_at : ℕ → Wanted → Checked
condition_at at wanted.Value = Err (fault ValueWanted at)
condition_at at wanted.Condition = Ok tt

-- a name that begins with an upper letter
abbrev pub is_upper : List ℕ → Bool
is_upper [] = false
is_upper (b ∷ bs) = is_ascii_uppercase b

-- of a literal, by its kind
abbrev pub is_truth_layer : {X Y Z : Type 0} → Value-F X Y Z → Bool
is_truth_layer (Value-F.Truth truth) = true
is_truth_layer _ = false

-- `true` or `false`
abbrev pub is_truth : Value → Bool
is_truth value = is_truth_layer (out-Value value)

-- of an expression in a place where the one or the other is wanted
abbrev pub Checks : Type 0
Checks = Wanted → Checked

-- a layer whose parts are their checks: of a call whether its name is upper, and its arguments
abbrev pub Kind : Type 0
Kind = ExprKind-F (ℕ → Checks) (Bool × Checked) Checked Checks Checked Checked

-- each where a value is wanted
abbrev pub as_values : List Checks → Checked
as_values checks = all_well (map (λ c. c wanted.Value) checks)

-- each where a condition is wanted
abbrev pub as_conditions : List Checks → Checked
as_conditions checks = all_well (map (λ c. c wanted.Condition) checks)

-- a kind of expression at its place: what it is itself, then its parts from the left
abbrev pub kind_step : Kind → ℕ → Checks
kind_step (ExprKind-F.Literal value) at w = cond (is_truth value) (Ok tt) (value_at at w)
kind_step (ExprKind-F.List checks) at w = value_at at w >>= λ _. as_values checks
kind_step (ExprKind-F.Map parts) at w = value_at at w >>= λ _. all_well parts
kind_step (ExprKind-F.Call call) at w = cond call.0 call.1 (value_at at w >>= λ _. call.1)
kind_step (ExprKind-F.Path path) at w = value_at at w
kind_step (ExprKind-F.Enum name) at w = value_at at w
kind_step (ExprKind-F.Sum terms) at w = value_at at w >>= λ _. all_well terms
kind_step (ExprKind-F.Product terms) at w = value_at at w >>= λ _. all_well terms
kind_step (ExprKind-F.Compare sides) at w = condition_at at w >>= λ _. sides
kind_step (ExprKind-F.Not check) at w = condition_at at w >>= λ _. check wanted.Condition
kind_step (ExprKind-F.And checks) at w = condition_at at w >>= λ _. as_conditions checks
kind_step (ExprKind-F.Or checks) at w = condition_at at w >>= λ _. as_conditions checks

-- whether the name is upper, and the arguments
abbrev pub call_step : Call-F (ℕ → Checks) (Bool × Checked) Checked Checks Checked Checked
    → Bool × Checked
call_step call = (is_upper call.name, as_values call.arguments)

-- both sides are values
abbrev pub compare_step : Compare-F (ℕ → Checks) (Bool × Checked) Checked Checks Checked Checked
    → Checked
compare_step compare = compare.left wanted.Value >>= λ _. compare.right wanted.Value

-- an expression is judged at the place of its first token
abbrev pub expr_step : Expr-F (ℕ → Checks) (Bool × Checked) Checked Checks Checked Checked → Checks
expr_step expr = expr.kind expr.at

-- what stands under a key is a value
abbrev pub part_step : MapPart-F (ℕ → Checks) (Bool × Checked) Checked Checks Checked Checked
    → Checked
part_step part = part.value wanted.Value

-- a term is a value
abbrev pub term_step : Term-F (ℕ → Checks) (Bool × Checked) Checked Checks Checked Checked → Checked
term_step term = term.expr wanted.Value

-- An expression where a condition or a value is wanted. The expression's own fault comes first, and
-- then those inside it from the left.
unfoldable pub check : Expr → Checks
check =
    fold-Expr (ℕ → Checks) (Bool × Checked) Checked Checks Checked Checked
    kind_step call_step compare_step expr_step part_step term_step

-- of an expression of this kind at a place
unfoldable pub kind_check : ExprKind → ℕ → Checks
kind_check =
    fold-ExprKind (ℕ → Checks) (Bool × Checked) Checked Checks Checked Checked
    kind_step call_step compare_step expr_step part_step term_step

-- both sides of a comparison
abbrev pub check_sides : Compare → Checked
check_sides compare =
    check (out-Compare compare).left wanted.Value
    >>= λ _. check (out-Compare compare).right wanted.Value

-- the arguments of a call
abbrev pub check_arguments : Call → Checked
check_arguments call = all_well (map (λ e. check e wanted.Value) (out-Call call).arguments)
