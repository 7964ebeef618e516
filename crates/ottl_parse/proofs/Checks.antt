-- The check of an expression, by its kind.
use Rattle.std.proofs.Common.{◌≡◌, ◌∙◌, ℕ, Bool, List, [], ◌∷◌, map, Ok, refl, sym, ap, cond}
use Rattle.ottl_lex.specs.Quoted.{◌>>=◌}
use Rattle.pdata_value.specs.declared.value.Value.{Value}
use Rattle.ottl_parse.specs.Checks.{Checked, Checks, all_well, value_at, condition_at, is_upper, is_truth, kind_step, call_step, compare_step, expr_step, part_step, term_step, check, kind_check, check_sides, check_arguments}
use Rattle.ottl_parse.specs.declared.check.Wanted.{Wanted}
use Rattle.ottl_parse.specs.declared.check.Wanted.TheVariants as wanted
use Rattle.ottl_parse.specs.declared.expr.Call.{Call, out-Call}
use Rattle.ottl_parse.specs.declared.expr.Compare.{Compare}
use Rattle.ottl_parse.specs.declared.expr.Expr.{Expr}
use Rattle.ottl_parse.specs.declared.expr.MapPart.{MapPart}
use Rattle.ottl_parse.specs.declared.expr.Term.{Term}
use Rattle.ottl_parse.specs.declared.path.Path.{Path}
use Rattle.ottl_parse.specs.declared.expr.ExprKind.{ExprKind, roll-ExprKind}
use Rattle.ottl_parse.specs.declared.expr.ExprKind.TheVariants as kinds
use Rattle.ottl_parse.specs.declared.expr.ExprKind.TheOpen.{ExprKind-F}
use Rattle.ottl_parse.specs.declared.expr.ExprKind.TheFolds.{map-ExprKind, fold-ExprKind, fold-Call, fold-Compare, fold-Expr, fold-MapPart, fold-Term, fold-roll-ExprKind, fold_out-Call, fold_out-Compare, fold_out-Expr, fold_out-MapPart, fold_out-Term}

pub check-kind : (e : Expr) (w : Wanted) → check e w ≡ kind_check e.kind e.at w
unfolding check kind_check
check-kind e w = ap (λ (f : Checks). f w) (fold_out-Expr (ℕ → Checks) (Bool × Checked) Checked Checks Checked Checked kind_step call_step compare_step expr_step part_step term_step e)

at_kind : (kind : ExprKind-F ExprKind Call Compare Expr MapPart Term) → fold-ExprKind (ℕ → Checks) (Bool × Checked) Checked Checks Checked Checked kind_step call_step compare_step expr_step part_step term_step (roll-ExprKind kind)
    ≡ kind_step (map-ExprKind ExprKind Call Compare Expr MapPart Term (ℕ → Checks) (Bool × Checked) Checked Checks Checked Checked (fold-ExprKind (ℕ → Checks) (Bool × Checked) Checked Checks Checked Checked kind_step call_step compare_step expr_step part_step term_step) (fold-Call (ℕ → Checks) (Bool × Checked) Checked Checks Checked Checked kind_step call_step compare_step expr_step part_step term_step) (fold-Compare (ℕ → Checks) (Bool × Checked) Checked Checks Checked Checked kind_step call_step compare_step expr_step part_step term_step) (fold-Expr (ℕ → Checks) (Bool × Checked) Checked Checks Checked Checked kind_step call_step compare_step expr_step part_step term_step) (fold-MapPart (ℕ → Checks) (Bool × Checked) Checked Checks Checked Checked kind_step call_step compare_step expr_step part_step term_step) (fold-Term (ℕ → Checks) (Bool × Checked) Checked Checks Checked Checked kind_step call_step compare_step expr_step part_step term_step) kind)
at_kind kind = fold-roll-ExprKind (ℕ → Checks) (Bool × Checked) Checked Checks Checked Checked kind_step call_step compare_step expr_step part_step term_step kind

-- the checks of a list, one by one
all-checked : (w : Wanted) (es : List Expr) → all_well (map (λ (c : Checks). c w) (map check es)) ≡ all_well (map (λ (x : Expr). check x w) es)
all-checked w [] = refl
all-checked w (e ∷ es) = ap (λ (r : Checked). check e w >>= λ _. r) (all-checked w es)

part-is : (p : MapPart) → fold-MapPart (ℕ → Checks) (Bool × Checked) Checked Checks Checked Checked kind_step call_step compare_step expr_step part_step term_step p ≡ check p.value wanted.Value
unfolding check
part-is p = fold_out-MapPart (ℕ → Checks) (Bool × Checked) Checked Checks Checked Checked kind_step call_step compare_step expr_step part_step term_step p

all-parts : (ps : List MapPart) → map (fold-MapPart (ℕ → Checks) (Bool × Checked) Checked Checks Checked Checked kind_step call_step compare_step expr_step part_step term_step) ps ≡ map (λ (p : MapPart). check p.value wanted.Value) ps
all-parts [] = refl
all-parts (p ∷ ps) = ap (λ (r : Checked). r ∷ map (fold-MapPart (ℕ → Checks) (Bool × Checked) Checked Checks Checked Checked kind_step call_step compare_step expr_step part_step term_step) ps) (part-is p) ∙ ap (λ (rs : List Checked). check p.value wanted.Value ∷ rs) (all-parts ps)

term-is : (t : Term) → fold-Term (ℕ → Checks) (Bool × Checked) Checked Checks Checked Checked kind_step call_step compare_step expr_step part_step term_step t ≡ check t.expr wanted.Value
unfolding check
term-is t = fold_out-Term (ℕ → Checks) (Bool × Checked) Checked Checks Checked Checked kind_step call_step compare_step expr_step part_step term_step t

all-terms : (ts : List Term) → map (fold-Term (ℕ → Checks) (Bool × Checked) Checked Checks Checked Checked kind_step call_step compare_step expr_step part_step term_step) ts ≡ map (λ (t : Term). check t.expr wanted.Value) ts
all-terms [] = refl
all-terms (t ∷ ts) = ap (λ (r : Checked). r ∷ map (fold-Term (ℕ → Checks) (Bool × Checked) Checked Checks Checked Checked kind_step call_step compare_step expr_step part_step term_step) ts) (term-is t) ∙ ap (λ (rs : List Checked). check t.expr wanted.Value ∷ rs) (all-terms ts)

call-is : (c : Call) → fold-Call (ℕ → Checks) (Bool × Checked) Checked Checks Checked Checked kind_step call_step compare_step expr_step part_step term_step c ≡ (is_upper (out-Call c).name, check_arguments c)
unfolding check
call-is c = fold_out-Call (ℕ → Checks) (Bool × Checked) Checked Checks Checked Checked kind_step call_step compare_step expr_step part_step term_step c ∙ ap (λ (r : Checked). (is_upper (out-Call c).name, r)) (all-checked wanted.Value (out-Call c).arguments)

sides-are : (c : Compare) → fold-Compare (ℕ → Checks) (Bool × Checked) Checked Checks Checked Checked kind_step call_step compare_step expr_step part_step term_step c ≡ check_sides c
unfolding check
sides-are c = fold_out-Compare (ℕ → Checks) (Bool × Checked) Checked Checks Checked Checked kind_step call_step compare_step expr_step part_step term_step c

pub kind_check-Literal : (value : Value) (at : ℕ) (w : Wanted) → kind_check (kinds.Literal value) at w ≡ (cond (is_truth value) (Ok tt) (value_at at w))
unfolding kind_check check
kind_check-Literal value at w = ap (λ (f : ℕ → Checks). f at w) (ap kind_check (sym (kinds.rolls-Literal value)) ∙ at_kind (ExprKind-F.Literal value))

pub kind_check-List : (exprs : List Expr) (at : ℕ) (w : Wanted) → kind_check (kinds.List exprs) at w ≡ (value_at at w >>= λ _. all_well (map (λ (x : Expr). check x wanted.Value) exprs))
unfolding kind_check check
kind_check-List exprs at w = ap (λ (f : ℕ → Checks). f at w) (ap kind_check (sym (kinds.rolls-List exprs)) ∙ at_kind (ExprKind-F.List exprs)) ∙ ap (λ (r : Checked). value_at at w >>= λ _. r) (all-checked wanted.Value exprs)

pub kind_check-Map : (parts : List MapPart) (at : ℕ) (w : Wanted) → kind_check (kinds.Map parts) at w ≡ (value_at at w >>= λ _. all_well (map (λ (p : MapPart). check p.value wanted.Value) parts))
unfolding kind_check check
kind_check-Map parts at w = ap (λ (f : ℕ → Checks). f at w) (ap kind_check (sym (kinds.rolls-Map parts)) ∙ at_kind (ExprKind-F.Map parts)) ∙ ap (λ (rs : List Checked). value_at at w >>= λ _. all_well rs) (all-parts parts)

pub kind_check-Call : (call : Call) (at : ℕ) (w : Wanted) → kind_check (kinds.Call call) at w ≡ (cond (is_upper (out-Call call).name) (check_arguments call) (value_at at w >>= λ _. check_arguments call))
unfolding kind_check check
kind_check-Call call at w = ap (λ (f : ℕ → Checks). f at w) (ap kind_check (sym (kinds.rolls-Call call)) ∙ at_kind (ExprKind-F.Call call)) ∙ ap (λ (p : Bool × Checked). cond p.0 p.1 (value_at at w >>= λ _. p.1)) (call-is call)

pub kind_check-Path : (path : Path) (at : ℕ) (w : Wanted) → kind_check (kinds.Path path) at w ≡ (value_at at w)
unfolding kind_check check
kind_check-Path path at w = ap (λ (f : ℕ → Checks). f at w) (ap kind_check (sym (kinds.rolls-Path path)) ∙ at_kind (ExprKind-F.Path path))

pub kind_check-Enum : (name : List ℕ) (at : ℕ) (w : Wanted) → kind_check (kinds.Enum name) at w ≡ (value_at at w)
unfolding kind_check check
kind_check-Enum name at w = ap (λ (f : ℕ → Checks). f at w) (ap kind_check (sym (kinds.rolls-Enum name)) ∙ at_kind (ExprKind-F.Enum name))

pub kind_check-Sum : (terms : List Term) (at : ℕ) (w : Wanted) → kind_check (kinds.Sum terms) at w ≡ (value_at at w >>= λ _. all_well (map (λ (t : Term). check t.expr wanted.Value) terms))
unfolding kind_check check
kind_check-Sum terms at w = ap (λ (f : ℕ → Checks). f at w) (ap kind_check (sym (kinds.rolls-Sum terms)) ∙ at_kind (ExprKind-F.Sum terms)) ∙ ap (λ (rs : List Checked). value_at at w >>= λ _. all_well rs) (all-terms terms)

pub kind_check-Product : (terms : List Term) (at : ℕ) (w : Wanted) → kind_check (kinds.Product terms) at w ≡ (value_at at w >>= λ _. all_well (map (λ (t : Term). check t.expr wanted.Value) terms))
unfolding kind_check check
kind_check-Product terms at w = ap (λ (f : ℕ → Checks). f at w) (ap kind_check (sym (kinds.rolls-Product terms)) ∙ at_kind (ExprKind-F.Product terms)) ∙ ap (λ (rs : List Checked). value_at at w >>= λ _. all_well rs) (all-terms terms)

pub kind_check-Compare : (compare : Compare) (at : ℕ) (w : Wanted) → kind_check (kinds.Compare compare) at w ≡ (condition_at at w >>= λ _. check_sides compare)
unfolding kind_check check
kind_check-Compare compare at w = ap (λ (f : ℕ → Checks). f at w) (ap kind_check (sym (kinds.rolls-Compare compare)) ∙ at_kind (ExprKind-F.Compare compare)) ∙ ap (λ (r : Checked). condition_at at w >>= λ _. r) (sides-are compare)

pub kind_check-Not : (operand : Expr) (at : ℕ) (w : Wanted) → kind_check (kinds.Not operand) at w ≡ (condition_at at w >>= λ _. check operand wanted.Condition)
unfolding kind_check check
kind_check-Not operand at w = ap (λ (f : ℕ → Checks). f at w) (ap kind_check (sym (kinds.rolls-Not operand)) ∙ at_kind (ExprKind-F.Not operand))

pub kind_check-And : (exprs : List Expr) (at : ℕ) (w : Wanted) → kind_check (kinds.And exprs) at w ≡ (condition_at at w >>= λ _. all_well (map (λ (x : Expr). check x wanted.Condition) exprs))
unfolding kind_check check
kind_check-And exprs at w = ap (λ (f : ℕ → Checks). f at w) (ap kind_check (sym (kinds.rolls-And exprs)) ∙ at_kind (ExprKind-F.And exprs)) ∙ ap (λ (r : Checked). condition_at at w >>= λ _. r) (all-checked wanted.Condition exprs)

pub kind_check-Or : (exprs : List Expr) (at : ℕ) (w : Wanted) → kind_check (kinds.Or exprs) at w ≡ (condition_at at w >>= λ _. all_well (map (λ (x : Expr). check x wanted.Condition) exprs))
unfolding kind_check check
kind_check-Or exprs at w = ap (λ (f : ℕ → Checks). f at w) (ap kind_check (sym (kinds.rolls-Or exprs)) ∙ at_kind (ExprKind-F.Or exprs)) ∙ ap (λ (r : Checked). condition_at at w >>= λ _. r) (all-checked wanted.Condition exprs)

pub ruleset checks = (kind_check-Literal, kind_check-List, kind_check-Map, kind_check-Call, kind_check-Path, kind_check-Enum, kind_check-Sum, kind_check-Product, kind_check-Compare, kind_check-Not, kind_check-And, kind_check-Or)

pub ruleset whole = (check-kind)
