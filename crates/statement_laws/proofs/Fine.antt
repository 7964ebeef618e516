-- Checks find conditions and values in the other's place, and nothing else.
use Rattle.std.proofs.Common.{ℕ, Bool, true, false, List, [], ◌∷◌, map, Option, Some, None, Ok, Err, sym, subst, cond}
use Rattle.ottl_lex.specs.Quoted.{◌>>=◌}
use Rattle.ottl_lex.specs.declared.fault.SyntaxKind.{SyntaxKind}
use Rattle.ottl_lex.specs.declared.fault.SyntaxKind.TheVariants.{ConditionWanted, ValueWanted}
use Rattle.ottl_parse.specs.Checks.{Checked, Checks, Kind, all_well, as_values, as_conditions, value_at, is_truth, kind_step, call_step, compare_step, expr_step, part_step, term_step, check, kind_check, check_arguments}
use Rattle.ottl_parse.specs.Parsing.{check_statement, check_condition, check_optional}
use Rattle.ottl_parse.specs.declared.expr.Call.{Call, out-Call, roll-Call}
use Rattle.ottl_parse.specs.declared.expr.Compare.{Compare, roll-Compare}
use Rattle.ottl_parse.specs.declared.expr.Expr.{Expr, roll-Expr}
use Rattle.ottl_parse.specs.declared.expr.ExprKind.{ExprKind, roll-ExprKind}
use Rattle.ottl_parse.specs.declared.expr.ExprKind.TheOpen.{ExprKind-F, Call-F, Compare-F, Expr-F, MapPart-F, Term-F}
use Rattle.ottl_parse.specs.declared.expr.ExprKind.TheFolds.{map-ExprKind, map-Call, map-Compare, map-Expr, map-MapPart, map-Term, fold-Call, fold-Compare, fold-MapPart, fold-Term, fold-roll-ExprKind, fold-roll-Call, fold-roll-Compare, fold-roll-Expr, fold-roll-MapPart, fold-roll-Term, ind-Expr}
use Rattle.ottl_parse.specs.declared.expr.MapPart.{MapPart, roll-MapPart}
use Rattle.ottl_parse.specs.declared.expr.Term.{Term, roll-Term}
use Rattle.ottl_parse.specs.declared.statement.Condition.{Condition}
use Rattle.ottl_parse.specs.declared.statement.Statement.{Statement}

-- a condition or a value in the other's place
abbrev pub IsWanted : SyntaxKind → Type 0
IsWanted ConditionWanted = Unit {0}
IsWanted ValueWanted = Unit {0}
IsWanted _ = ⊥

abbrev pub Fine : Checked → Type 0
Fine (Ok u) = Unit {0}
Fine (Err e) = IsWanted e.kind

-- where a value is wanted, and where a condition is
abbrev FineChecks : Checks → Type 0
FineChecks f = Fine (as_values (f ∷ [])) × Fine (as_conditions (f ∷ []))

fine-bind : (c d : Checked) → Fine (c >>= λ _. Ok tt) → Fine d → Fine (c >>= λ _. d)
fine-bind (Ok u) d h g = g
fine-bind (Err e) d h g = h

fine-alone : (c : Checked) → Fine c → Fine (c >>= λ _. Ok tt)
fine-alone (Ok u) h = tt
fine-alone (Err e) h = h

values-then : (f : Checks) (fs : List Checks) → FineChecks f → Fine (as_values fs) → Fine (as_values (f ∷ fs))
values-then f fs h g = fine-bind _ (as_values fs) h.0 g

conditions-then : (f : Checks) (fs : List Checks) → FineChecks f → Fine (as_conditions fs) → Fine (as_conditions (f ∷ fs))
conditions-then f fs h g = fine-bind _ (as_conditions fs) h.1 g

abbrev FineExpr : Expr → Type 0
FineExpr e = FineChecks (check e)

abbrev FineKind : ExprKind → Type 0
FineKind k = (at : ℕ) → FineChecks (kind_check k at)

abbrev call_fold : Call → Bool × Checked
call_fold = fold-Call (ℕ → Checks) (Bool × Checked) Checked Checks Checked Checked kind_step call_step compare_step expr_step part_step term_step

abbrev sides_fold : Compare → Checked
sides_fold = fold-Compare (ℕ → Checks) (Bool × Checked) Checked Checks Checked Checked kind_step call_step compare_step expr_step part_step term_step

abbrev part_fold : MapPart → Checked
part_fold = fold-MapPart (ℕ → Checks) (Bool × Checked) Checked Checks Checked Checked kind_step call_step compare_step expr_step part_step term_step

abbrev term_fold : Term → Checked
term_fold = fold-Term (ℕ → Checks) (Bool × Checked) Checked Checks Checked Checked kind_step call_step compare_step expr_step part_step term_step

abbrev FineCall : Call → Type 0
FineCall c = Fine (call_fold c).1

abbrev FineSides : Compare → Type 0
FineSides c = Fine (sides_fold c)

abbrev FinePart : MapPart → Type 0
FinePart p = Fine (part_fold p)

abbrev FineTerm : Term → Type 0
FineTerm t = Fine (term_fold t)

-- a layer, each part of which is fine
abbrev Layer : Type 0
Layer = ExprKind-F ((k : ExprKind) × FineKind k) ((c : Call) × FineCall c) ((c : Compare) × FineSides c) ((e : Expr) × FineExpr e) ((p : MapPart) × FinePart p) ((t : Term) × FineTerm t)

all-values : (ys : List ((e : Expr) × FineExpr e)) → Fine (as_values (map check (map (λ (y : (e : Expr) × FineExpr e). y.0) ys)))
all-values [] = tt
all-values (y ∷ ys) = values-then (check y.0) (map check (map (λ (y : (e : Expr) × FineExpr e). y.0) ys)) y.1 (all-values ys)

all-conditions : (ys : List ((e : Expr) × FineExpr e)) → Fine (as_conditions (map check (map (λ (y : (e : Expr) × FineExpr e). y.0) ys)))
all-conditions [] = tt
all-conditions (y ∷ ys) = conditions-then (check y.0) (map check (map (λ (y : (e : Expr) × FineExpr e). y.0) ys)) y.1 (all-conditions ys)

all-parts : (ys : List ((p : MapPart) × FinePart p)) → Fine (all_well (map part_fold (map (λ (y : (p : MapPart) × FinePart p). y.0) ys)))
all-parts [] = tt
all-parts (y ∷ ys) = fine-bind (part_fold y.0) _ (fine-alone (part_fold y.0) y.1) (all-parts ys)

all-terms : (ys : List ((t : Term) × FineTerm t)) → Fine (all_well (map term_fold (map (λ (y : (t : Term) × FineTerm t). y.0) ys)))
all-terms [] = tt
all-terms (y ∷ ys) = fine-bind (term_fold y.0) _ (fine-alone (term_fold y.0) y.1) (all-terms ys)

-- the checks of a layer
abbrev layer_checks : Layer → Kind
layer_checks y =
    map-ExprKind ExprKind Call Compare Expr MapPart Term (ℕ → Checks) (Bool × Checked) Checked Checks Checked Checked
    kind_check call_fold sides_fold check part_fold term_fold
    (map-ExprKind ((k : ExprKind) × FineKind k) ((c : Call) × FineCall c) ((c : Compare) × FineSides c) ((e : Expr) × FineExpr e) ((p : MapPart) × FinePart p) ((t : Term) × FineTerm t) ExprKind Call Compare Expr MapPart Term
    (λ y. y.0) (λ y. y.0) (λ y. y.0) (λ y. y.0) (λ y. y.0) (λ y. y.0) y)

layer-fine : (y : Layer) (at : ℕ) → FineChecks (kind_step (layer_checks y) at)
layer-fine (ExprKind-F.Literal value) at = by (is_truth value) where
  by : (t : Bool) → Fine (as_values ((λ w. cond t (Ok tt) (value_at at w)) ∷ [])) × Fine (as_conditions ((λ w. cond t (Ok tt) (value_at at w)) ∷ []))
  by true = (tt, tt)
  by false = (tt, tt)
layer-fine (ExprKind-F.List ys) at = (fine-alone _ (all-values ys), tt)
layer-fine (ExprKind-F.Map ys) at = (fine-alone _ (all-parts ys), tt)
layer-fine (ExprKind-F.Call y) at = by (call_fold y.0) y.1 where
  by : (c : Bool × Checked) → Fine c.1 → Fine (as_values ((λ w. cond c.0 c.1 (value_at at w >>= λ _. c.1)) ∷ [])) × Fine (as_conditions ((λ w. cond c.0 c.1 (value_at at w >>= λ _. c.1)) ∷ []))
  by (true, c) h = (fine-alone c h, fine-alone c h)
  by (false, c) h = (fine-alone c h, tt)
layer-fine (ExprKind-F.Path path) at = (tt, tt)
layer-fine (ExprKind-F.Enum name) at = (tt, tt)
layer-fine (ExprKind-F.Sum ys) at = (fine-alone _ (all-terms ys), tt)
layer-fine (ExprKind-F.Product ys) at = (fine-alone _ (all-terms ys), tt)
layer-fine (ExprKind-F.Compare y) at = (tt, fine-alone (sides_fold y.0) y.1)
layer-fine (ExprKind-F.Not y) at = (tt, y.1.1)
layer-fine (ExprKind-F.And ys) at = (tt, fine-alone _ (all-conditions ys))
layer-fine (ExprKind-F.Or ys) at = (tt, fine-alone _ (all-conditions ys))

un-alone : (c : Checked) → Fine (c >>= λ _. Ok tt) → Fine c
un-alone (Ok u) h = tt
un-alone (Err e) h = h

abbrev firsts : Layer → ExprKind-F ExprKind Call Compare Expr MapPart Term
firsts y =
    map-ExprKind ((k : ExprKind) × FineKind k) ((c : Call) × FineCall c) ((c : Compare) × FineSides c) ((e : Expr) × FineExpr e) ((p : MapPart) × FinePart p) ((t : Term) × FineTerm t) ExprKind Call Compare Expr MapPart Term
    (λ y. y.0) (λ y. y.0) (λ y. y.0) (λ y. y.0) (λ y. y.0) (λ y. y.0) y

kind-fine : (y : Layer) → FineKind (roll-ExprKind (firsts y))
unfolding kind_check check
kind-fine y at =
    subst (λ (f : ℕ → Checks). FineChecks (f at)) (sym (fold-roll-ExprKind (ℕ → Checks) (Bool × Checked) Checked Checks Checked Checked kind_step call_step compare_step expr_step part_step term_step (firsts y)))
    (layer-fine y at)

call-fine : (y : Call-F ((k : ExprKind) × FineKind k) ((c : Call) × FineCall c) ((c : Compare) × FineSides c) ((e : Expr) × FineExpr e) ((p : MapPart) × FinePart p) ((t : Term) × FineTerm t)) → FineCall (roll-Call (map-Call ((k : ExprKind) × FineKind k) ((c : Call) × FineCall c) ((c : Compare) × FineSides c) ((e : Expr) × FineExpr e) ((p : MapPart) × FinePart p) ((t : Term) × FineTerm t) ExprKind Call Compare Expr MapPart Term (λ y. y.0) (λ y. y.0) (λ y. y.0) (λ y. y.0) (λ y. y.0) (λ y. y.0) y))
unfolding check
call-fine y =
    subst (λ (c : Bool × Checked). Fine c.1) (sym (fold-roll-Call (ℕ → Checks) (Bool × Checked) Checked Checks Checked Checked kind_step call_step compare_step expr_step part_step term_step (map-Call ((k : ExprKind) × FineKind k) ((c : Call) × FineCall c) ((c : Compare) × FineSides c) ((e : Expr) × FineExpr e) ((p : MapPart) × FinePart p) ((t : Term) × FineTerm t) ExprKind Call Compare Expr MapPart Term (λ y. y.0) (λ y. y.0) (λ y. y.0) (λ y. y.0) (λ y. y.0) (λ y. y.0) y)))
    (all-values y.arguments)

sides-fine : (y : Compare-F ((k : ExprKind) × FineKind k) ((c : Call) × FineCall c) ((c : Compare) × FineSides c) ((e : Expr) × FineExpr e) ((p : MapPart) × FinePart p) ((t : Term) × FineTerm t)) → FineSides (roll-Compare (map-Compare ((k : ExprKind) × FineKind k) ((c : Call) × FineCall c) ((c : Compare) × FineSides c) ((e : Expr) × FineExpr e) ((p : MapPart) × FinePart p) ((t : Term) × FineTerm t) ExprKind Call Compare Expr MapPart Term (λ y. y.0) (λ y. y.0) (λ y. y.0) (λ y. y.0) (λ y. y.0) (λ y. y.0) y))
unfolding check
sides-fine y =
    subst Fine (sym (fold-roll-Compare (ℕ → Checks) (Bool × Checked) Checked Checks Checked Checked kind_step call_step compare_step expr_step part_step term_step (map-Compare ((k : ExprKind) × FineKind k) ((c : Call) × FineCall c) ((c : Compare) × FineSides c) ((e : Expr) × FineExpr e) ((p : MapPart) × FinePart p) ((t : Term) × FineTerm t) ExprKind Call Compare Expr MapPart Term (λ y. y.0) (λ y. y.0) (λ y. y.0) (λ y. y.0) (λ y. y.0) (λ y. y.0) y)))
    (fine-bind _ _ y.left.1.0 (un-alone _ y.right.1.0))

expr-fine : (y : Expr-F ((k : ExprKind) × FineKind k) ((c : Call) × FineCall c) ((c : Compare) × FineSides c) ((e : Expr) × FineExpr e) ((p : MapPart) × FinePart p) ((t : Term) × FineTerm t)) → FineExpr (roll-Expr (map-Expr ((k : ExprKind) × FineKind k) ((c : Call) × FineCall c) ((c : Compare) × FineSides c) ((e : Expr) × FineExpr e) ((p : MapPart) × FinePart p) ((t : Term) × FineTerm t) ExprKind Call Compare Expr MapPart Term (λ y. y.0) (λ y. y.0) (λ y. y.0) (λ y. y.0) (λ y. y.0) (λ y. y.0) y))
unfolding check kind_check
expr-fine y =
    subst FineChecks (sym (fold-roll-Expr (ℕ → Checks) (Bool × Checked) Checked Checks Checked Checked kind_step call_step compare_step expr_step part_step term_step (map-Expr ((k : ExprKind) × FineKind k) ((c : Call) × FineCall c) ((c : Compare) × FineSides c) ((e : Expr) × FineExpr e) ((p : MapPart) × FinePart p) ((t : Term) × FineTerm t) ExprKind Call Compare Expr MapPart Term (λ y. y.0) (λ y. y.0) (λ y. y.0) (λ y. y.0) (λ y. y.0) (λ y. y.0) y)))
    (y.kind.1 y.at)

part-fine : (y : MapPart-F ((k : ExprKind) × FineKind k) ((c : Call) × FineCall c) ((c : Compare) × FineSides c) ((e : Expr) × FineExpr e) ((p : MapPart) × FinePart p) ((t : Term) × FineTerm t)) → FinePart (roll-MapPart (map-MapPart ((k : ExprKind) × FineKind k) ((c : Call) × FineCall c) ((c : Compare) × FineSides c) ((e : Expr) × FineExpr e) ((p : MapPart) × FinePart p) ((t : Term) × FineTerm t) ExprKind Call Compare Expr MapPart Term (λ y. y.0) (λ y. y.0) (λ y. y.0) (λ y. y.0) (λ y. y.0) (λ y. y.0) y))
unfolding check
part-fine y =
    subst Fine (sym (fold-roll-MapPart (ℕ → Checks) (Bool × Checked) Checked Checks Checked Checked kind_step call_step compare_step expr_step part_step term_step (map-MapPart ((k : ExprKind) × FineKind k) ((c : Call) × FineCall c) ((c : Compare) × FineSides c) ((e : Expr) × FineExpr e) ((p : MapPart) × FinePart p) ((t : Term) × FineTerm t) ExprKind Call Compare Expr MapPart Term (λ y. y.0) (λ y. y.0) (λ y. y.0) (λ y. y.0) (λ y. y.0) (λ y. y.0) y)))
    (un-alone _ y.value.1.0)

term-fine : (y : Term-F ((k : ExprKind) × FineKind k) ((c : Call) × FineCall c) ((c : Compare) × FineSides c) ((e : Expr) × FineExpr e) ((p : MapPart) × FinePart p) ((t : Term) × FineTerm t)) → FineTerm (roll-Term (map-Term ((k : ExprKind) × FineKind k) ((c : Call) × FineCall c) ((c : Compare) × FineSides c) ((e : Expr) × FineExpr e) ((p : MapPart) × FinePart p) ((t : Term) × FineTerm t) ExprKind Call Compare Expr MapPart Term (λ y. y.0) (λ y. y.0) (λ y. y.0) (λ y. y.0) (λ y. y.0) (λ y. y.0) y))
unfolding check
term-fine y =
    subst Fine (sym (fold-roll-Term (ℕ → Checks) (Bool × Checked) Checked Checks Checked Checked kind_step call_step compare_step expr_step part_step term_step (map-Term ((k : ExprKind) × FineKind k) ((c : Call) × FineCall c) ((c : Compare) × FineSides c) ((e : Expr) × FineExpr e) ((p : MapPart) × FinePart p) ((t : Term) × FineTerm t) ExprKind Call Compare Expr MapPart Term (λ y. y.0) (λ y. y.0) (λ y. y.0) (λ y. y.0) (λ y. y.0) (λ y. y.0) y)))
    (un-alone _ y.expr.1.0)

fine : (e : Expr) → FineExpr e
fine =
    ind-Expr FineKind FineCall FineSides FineExpr FinePart FineTerm
    (λ x y is. subst (λ (z : ExprKind-F ExprKind Call Compare Expr MapPart Term). FineKind (roll-ExprKind z)) is (kind-fine y))
    (λ x y is. subst (λ (z : Call-F ExprKind Call Compare Expr MapPart Term). FineCall (roll-Call z)) is (call-fine y))
    (λ x y is. subst (λ (z : Compare-F ExprKind Call Compare Expr MapPart Term). FineSides (roll-Compare z)) is (sides-fine y))
    (λ x y is. subst (λ (z : Expr-F ExprKind Call Compare Expr MapPart Term). FineExpr (roll-Expr z)) is (expr-fine y))
    (λ x y is. subst (λ (z : MapPart-F ExprKind Call Compare Expr MapPart Term). FinePart (roll-MapPart z)) is (part-fine y))
    (λ x y is. subst (λ (z : Term-F ExprKind Call Compare Expr MapPart Term). FineTerm (roll-Term z)) is (term-fine y))

fine-then : (c d : Checked) → Fine c → Fine d → Fine (c >>= λ _. d)
fine-then (Ok u) d h g = g
fine-then (Err e) d h g = h

each-fine : (f : Expr → Checked) → ((e : Expr) → Fine (f e)) → (es : List Expr) → Fine (all_well (map f es))
each-fine f each [] = tt
each-fine f each (e ∷ es) = fine-then (f e) (all_well (map f es)) (each e) (each-fine f each es)

pub condition-fine : (c : Condition) → Fine (check_condition c)
condition-fine c = un-alone _ (fine c.expr).1

optional-fine : (c : Option Condition) → Fine (check_optional c)
optional-fine None = tt
optional-fine (Some c) = condition-fine c

pub statement-fine : (s : Statement) → Fine (check_statement s)
statement-fine s =
    fine-then (check_arguments s.call) (check_optional s.condition) (each-fine _ (λ e. un-alone _ (fine e).0) (out-Call s.call).arguments) (optional-fine s.condition)
