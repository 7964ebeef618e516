-- What is seen of an expression, by its kind.
use Rattle.std.proofs.Common.{◌≡◌, ◌∙◌, ℕ, List, [], ◌∷◌, map, Option, Some, None, Ok, Err, refl, sym, ap}
use Rattle.pdata_value.specs.declared.pairs.Pairs.{Pairs}
use Rattle.pdata_value.specs.declared.value.Value.{Value, out-Value}
use Rattle.pdata_value.specs.declared.value.Value.TheOpen.{Value-F}
use Rattle.pdata_value.specs.declared.value.Value.TheVariants as value_of
use Rattle.pdata_value.specs.declared.values.Values.{Values}
use Rattle.pdata_tree.specs.declared.place.Context.{Context}
use Rattle.ottl_parse.specs.declared.expr.Call.{Call, out-Call}
use Rattle.ottl_parse.specs.declared.expr.Compare.{Compare, out-Compare}
use Rattle.ottl_parse.specs.declared.expr.Expr.{Expr}
use Rattle.ottl_parse.specs.declared.expr.MapPart.{MapPart}
use Rattle.ottl_parse.specs.declared.expr.Term.{Term}
use Rattle.ottl_parse.specs.declared.path.Path.{Path}
use Rattle.ottl_parse.specs.declared.expr.ExprKind.{ExprKind, out-ExprKind, roll-ExprKind}
use Rattle.ottl_parse.specs.declared.expr.ExprKind.TheVariants as kinds
use Rattle.ottl_parse.specs.declared.expr.ExprKind.TheOpen.{ExprKind-F}
use Rattle.ottl_parse.specs.declared.expr.ExprKind.TheFolds.{map-ExprKind, fold-ExprKind, fold-Call, fold-Compare, fold-Expr, fold-MapPart, fold-Term, fold-roll-ExprKind, fold_out-Call, fold_out-Compare, fold_out-Expr, fold_out-ExprKind, fold_out-MapPart, fold_out-Term}
use Rattle.ottl_plan.specs.Answers.{fault, ◌>>=◌, all_of}
use Rattle.ottl_plan.specs.Paths.{path_of}
use Rattle.ottl_plan.specs.Planning.{Plan, Walk, Seen, text_in, target_of, form_of, literal_form, list_form, texts_in, path, other, numbered, all_in, values_of, seen_as, kind_step, call_step, compare_step, expr_step, part_step, term_step, seen, kind_seen, conversion_in, compare_in, part_in, term_in}
use Rattle.ottl_plan.specs.Severities.{severity_of}
use Rattle.ottl_plan.specs.declared.fault.PlanKind.TheVariants.{WrongKind}
use Rattle.ottl_plan.specs.declared.planned.Conversion.{Conversion}
use Rattle.ottl_plan.specs.declared.planned.PlannedCompare.{PlannedCompare}
use Rattle.ottl_plan.specs.declared.planned.PlannedExpr.{PlannedExpr}
use Rattle.ottl_plan.specs.declared.planned.PlannedExpr.TheVariants as plans
use Rattle.ottl_plan.specs.declared.planned.PlannedPart.{PlannedPart}
use Rattle.ottl_plan.specs.declared.planned.PlannedTerm.{PlannedTerm}

pub seen-kind : (e : Expr) → seen e ≡ kind_seen e.kind e.at
unfolding seen kind_seen
seen-kind e = fold_out-Expr (ℕ → Seen) (Walk Conversion) (Walk PlannedCompare) Seen (Walk PlannedPart) (Walk PlannedTerm) kind_step call_step compare_step expr_step part_step term_step e

at_kind : (kind : ExprKind-F ExprKind Call Compare Expr MapPart Term) → fold-ExprKind (ℕ → Seen) (Walk Conversion) (Walk PlannedCompare) Seen (Walk PlannedPart) (Walk PlannedTerm) kind_step call_step compare_step expr_step part_step term_step (roll-ExprKind kind)
    ≡ kind_step (map-ExprKind ExprKind Call Compare Expr MapPart Term (ℕ → Seen) (Walk Conversion) (Walk PlannedCompare) Seen (Walk PlannedPart) (Walk PlannedTerm) (fold-ExprKind (ℕ → Seen) (Walk Conversion) (Walk PlannedCompare) Seen (Walk PlannedPart) (Walk PlannedTerm) kind_step call_step compare_step expr_step part_step term_step) (fold-Call (ℕ → Seen) (Walk Conversion) (Walk PlannedCompare) Seen (Walk PlannedPart) (Walk PlannedTerm) kind_step call_step compare_step expr_step part_step term_step) (fold-Compare (ℕ → Seen) (Walk Conversion) (Walk PlannedCompare) Seen (Walk PlannedPart) (Walk PlannedTerm) kind_step call_step compare_step expr_step part_step term_step) (fold-Expr (ℕ → Seen) (Walk Conversion) (Walk PlannedCompare) Seen (Walk PlannedPart) (Walk PlannedTerm) kind_step call_step compare_step expr_step part_step term_step) (fold-MapPart (ℕ → Seen) (Walk Conversion) (Walk PlannedCompare) Seen (Walk PlannedPart) (Walk PlannedTerm) kind_step call_step compare_step expr_step part_step term_step) (fold-Term (ℕ → Seen) (Walk Conversion) (Walk PlannedCompare) Seen (Walk PlannedPart) (Walk PlannedTerm) kind_step call_step compare_step expr_step part_step term_step) kind)
at_kind kind = fold-roll-ExprKind (ℕ → Seen) (Walk Conversion) (Walk PlannedCompare) Seen (Walk PlannedPart) (Walk PlannedTerm) kind_step call_step compare_step expr_step part_step term_step kind

part-is : (p : MapPart) → fold-MapPart (ℕ → Seen) (Walk Conversion) (Walk PlannedCompare) Seen (Walk PlannedPart) (Walk PlannedTerm) kind_step call_step compare_step expr_step part_step term_step p ≡ (λ (context : Context). part_in context p)
unfolding seen
part-is p = fold_out-MapPart (ℕ → Seen) (Walk Conversion) (Walk PlannedCompare) Seen (Walk PlannedPart) (Walk PlannedTerm) kind_step call_step compare_step expr_step part_step term_step p

all-parts : (context : Context) (ps : List MapPart) → all_in context (map (fold-MapPart (ℕ → Seen) (Walk Conversion) (Walk PlannedCompare) Seen (Walk PlannedPart) (Walk PlannedTerm) kind_step call_step compare_step expr_step part_step term_step) ps) ≡ all_of (map (part_in context) ps)
all-parts context [] = refl
all-parts context (p ∷ ps) =
    ap (λ (w : Walk PlannedPart). w context >>= λ x. all_in context (map (fold-MapPart (ℕ → Seen) (Walk Conversion) (Walk PlannedCompare) Seen (Walk PlannedPart) (Walk PlannedTerm) kind_step call_step compare_step expr_step part_step term_step) ps) >>= λ xs. Ok (x ∷ xs)) (part-is p)
    ∙ ap (λ (r : Plan (List PlannedPart)). part_in context p >>= λ x. r >>= λ xs. Ok (x ∷ xs)) (all-parts context ps)

term-is : (t : Term) → fold-Term (ℕ → Seen) (Walk Conversion) (Walk PlannedCompare) Seen (Walk PlannedPart) (Walk PlannedTerm) kind_step call_step compare_step expr_step part_step term_step t ≡ (λ (context : Context). term_in context t)
unfolding seen
term-is t = fold_out-Term (ℕ → Seen) (Walk Conversion) (Walk PlannedCompare) Seen (Walk PlannedPart) (Walk PlannedTerm) kind_step call_step compare_step expr_step part_step term_step t

all-terms : (context : Context) (ts : List Term) → all_in context (map (fold-Term (ℕ → Seen) (Walk Conversion) (Walk PlannedCompare) Seen (Walk PlannedPart) (Walk PlannedTerm) kind_step call_step compare_step expr_step part_step term_step) ts) ≡ all_of (map (term_in context) ts)
all-terms context [] = refl
all-terms context (t ∷ ts) =
    ap (λ (w : Walk PlannedTerm). w context >>= λ x. all_in context (map (fold-Term (ℕ → Seen) (Walk Conversion) (Walk PlannedCompare) Seen (Walk PlannedPart) (Walk PlannedTerm) kind_step call_step compare_step expr_step part_step term_step) ts) >>= λ xs. Ok (x ∷ xs)) (term-is t)
    ∙ ap (λ (r : Plan (List PlannedTerm)). term_in context t >>= λ x. r >>= λ xs. Ok (x ∷ xs)) (all-terms context ts)

call-is : (c : Call) → fold-Call (ℕ → Seen) (Walk Conversion) (Walk PlannedCompare) Seen (Walk PlannedPart) (Walk PlannedTerm) kind_step call_step compare_step expr_step part_step term_step c ≡ (λ (context : Context). conversion_in context c)
unfolding seen
call-is c = fold_out-Call (ℕ → Seen) (Walk Conversion) (Walk PlannedCompare) Seen (Walk PlannedPart) (Walk PlannedTerm) kind_step call_step compare_step expr_step part_step term_step c

sides-are : (c : Compare) → fold-Compare (ℕ → Seen) (Walk Conversion) (Walk PlannedCompare) Seen (Walk PlannedPart) (Walk PlannedTerm) kind_step call_step compare_step expr_step part_step term_step c ≡ (λ (context : Context). compare_in context c)
unfolding seen
sides-are c = fold_out-Compare (ℕ → Seen) (Walk Conversion) (Walk PlannedCompare) Seen (Walk PlannedPart) (Walk PlannedTerm) kind_step call_step compare_step expr_step part_step term_step c

pub value-Literal : (value : Value) (at : ℕ) (context : Context) → (kind_seen (kinds.Literal value) at).value context ≡ (Ok (plans.Literal value))
unfolding kind_seen seen
value-Literal value at context = ap (λ (f : ℕ → Seen). (f at).value context) (ap kind_seen (sym (kinds.rolls-Literal value)) ∙ at_kind (ExprKind-F.Literal value))

pub value-List : (exprs : List Expr) (at : ℕ) (context : Context) → (kind_seen (kinds.List exprs) at).value context ≡ (values_of context (map seen exprs) >>= λ values. Ok (plans.List values))
unfolding kind_seen seen
value-List exprs at context = ap (λ (f : ℕ → Seen). (f at).value context) (ap kind_seen (sym (kinds.rolls-List exprs)) ∙ at_kind (ExprKind-F.List exprs))

pub value-Map : (parts : List MapPart) (at : ℕ) (context : Context) → (kind_seen (kinds.Map parts) at).value context ≡ (all_of (map (part_in context) parts) >>= λ planned. Ok (plans.Map planned))
unfolding kind_seen seen
value-Map parts at context = ap (λ (f : ℕ → Seen). (f at).value context) (ap kind_seen (sym (kinds.rolls-Map parts)) ∙ at_kind (ExprKind-F.Map parts)) ∙ ap (λ (r : Plan (List PlannedPart)). r >>= λ planned. Ok (plans.Map planned)) (all-parts context parts)

pub value-Call : (call : Call) (at : ℕ) (context : Context) → (kind_seen (kinds.Call call) at).value context ≡ (conversion_in context call >>= λ conversion. Ok (plans.Convert conversion))
unfolding kind_seen seen
value-Call call at context = ap (λ (f : ℕ → Seen). (f at).value context) (ap kind_seen (sym (kinds.rolls-Call call)) ∙ at_kind (ExprKind-F.Call call)) ∙ ap (λ (w : Walk Conversion). w context >>= λ conversion. Ok (plans.Convert conversion)) (call-is call)

pub value-Path : (p : Path) (at : ℕ) (context : Context) → (kind_seen (kinds.Path p) at).value context ≡ (path_of context at p >>= λ planned. Ok (plans.Path planned))
unfolding kind_seen seen
value-Path p at context = ap (λ (f : ℕ → Seen). (f at).value context) (ap kind_seen (sym (kinds.rolls-Path p)) ∙ at_kind (ExprKind-F.Path p))

pub value-Enum : (name : List ℕ) (at : ℕ) (context : Context) → (kind_seen (kinds.Enum name) at).value context ≡ (numbered at (severity_of name) >>= λ n. Ok (plans.Literal (value_of.Int n)))
unfolding kind_seen seen
value-Enum name at context = ap (λ (f : ℕ → Seen). (f at).value context) (ap kind_seen (sym (kinds.rolls-Enum name)) ∙ at_kind (ExprKind-F.Enum name))

pub value-Sum : (terms : List Term) (at : ℕ) (context : Context) → (kind_seen (kinds.Sum terms) at).value context ≡ (all_of (map (term_in context) terms) >>= λ planned. Ok (plans.Sum planned))
unfolding kind_seen seen
value-Sum terms at context = ap (λ (f : ℕ → Seen). (f at).value context) (ap kind_seen (sym (kinds.rolls-Sum terms)) ∙ at_kind (ExprKind-F.Sum terms)) ∙ ap (λ (r : Plan (List PlannedTerm)). r >>= λ planned. Ok (plans.Sum planned)) (all-terms context terms)

pub value-Product : (terms : List Term) (at : ℕ) (context : Context) → (kind_seen (kinds.Product terms) at).value context ≡ (all_of (map (term_in context) terms) >>= λ planned. Ok (plans.Product planned))
unfolding kind_seen seen
value-Product terms at context = ap (λ (f : ℕ → Seen). (f at).value context) (ap kind_seen (sym (kinds.rolls-Product terms)) ∙ at_kind (ExprKind-F.Product terms)) ∙ ap (λ (r : Plan (List PlannedTerm)). r >>= λ planned. Ok (plans.Product planned)) (all-terms context terms)

pub value-Compare : (compare : Compare) (at : ℕ) (context : Context) → (kind_seen (kinds.Compare compare) at).value context ≡ (compare_in context compare >>= λ planned. Ok (plans.Compare planned))
unfolding kind_seen seen
value-Compare compare at context = ap (λ (f : ℕ → Seen). (f at).value context) (ap kind_seen (sym (kinds.rolls-Compare compare)) ∙ at_kind (ExprKind-F.Compare compare)) ∙ ap (λ (w : Walk PlannedCompare). w context >>= λ planned. Ok (plans.Compare planned)) (sides-are compare)

pub value-Not : (operand : Expr) (at : ℕ) (context : Context) → (kind_seen (kinds.Not operand) at).value context ≡ ((seen operand).value context >>= λ planned. Ok (plans.Not planned))
unfolding kind_seen seen
value-Not operand at context = ap (λ (f : ℕ → Seen). (f at).value context) (ap kind_seen (sym (kinds.rolls-Not operand)) ∙ at_kind (ExprKind-F.Not operand))

pub value-And : (exprs : List Expr) (at : ℕ) (context : Context) → (kind_seen (kinds.And exprs) at).value context ≡ (values_of context (map seen exprs) >>= λ values. Ok (plans.And values))
unfolding kind_seen seen
value-And exprs at context = ap (λ (f : ℕ → Seen). (f at).value context) (ap kind_seen (sym (kinds.rolls-And exprs)) ∙ at_kind (ExprKind-F.And exprs))

pub value-Or : (exprs : List Expr) (at : ℕ) (context : Context) → (kind_seen (kinds.Or exprs) at).value context ≡ (values_of context (map seen exprs) >>= λ values. Ok (plans.Or values))
unfolding kind_seen seen
value-Or exprs at context = ap (λ (f : ℕ → Seen). (f at).value context) (ap kind_seen (sym (kinds.rolls-Or exprs)) ∙ at_kind (ExprKind-F.Or exprs))

layer-form : (l : ExprKind-F (ℕ → Seen) (Walk Conversion) (Walk PlannedCompare) Seen (Walk PlannedPart) (Walk PlannedTerm)) (a b : ℕ) → (kind_step l a).form ≡ (kind_step l b).form
layer-form (ExprKind-F.Literal v) a b = refl
layer-form (ExprKind-F.List es) a b = refl
layer-form (ExprKind-F.Map ps) a b = refl
layer-form (ExprKind-F.Call c) a b = refl
layer-form (ExprKind-F.Path p) a b = refl
layer-form (ExprKind-F.Enum n) a b = refl
layer-form (ExprKind-F.Sum ts) a b = refl
layer-form (ExprKind-F.Product ts) a b = refl
layer-form (ExprKind-F.Compare c) a b = refl
layer-form (ExprKind-F.Not e) a b = refl
layer-form (ExprKind-F.And es) a b = refl
layer-form (ExprKind-F.Or es) a b = refl

same-form : (kind : ExprKind) (a b : ℕ) → (kind_seen kind a).form ≡ (kind_seen kind b).form
unfolding kind_seen
same-form kind a b =
    ap (λ (f : ℕ → Seen). (f a).form) (fold_out-ExprKind (ℕ → Seen) (Walk Conversion) (Walk PlannedCompare) Seen (Walk PlannedPart) (Walk PlannedTerm) kind_step call_step compare_step expr_step part_step term_step kind)
    ∙ layer-form (map-ExprKind ExprKind Call Compare Expr MapPart Term (ℕ → Seen) (Walk Conversion) (Walk PlannedCompare) Seen (Walk PlannedPart) (Walk PlannedTerm) (fold-ExprKind (ℕ → Seen) (Walk Conversion) (Walk PlannedCompare) Seen (Walk PlannedPart) (Walk PlannedTerm) kind_step call_step compare_step expr_step part_step term_step) (fold-Call (ℕ → Seen) (Walk Conversion) (Walk PlannedCompare) Seen (Walk PlannedPart) (Walk PlannedTerm) kind_step call_step compare_step expr_step part_step term_step) (fold-Compare (ℕ → Seen) (Walk Conversion) (Walk PlannedCompare) Seen (Walk PlannedPart) (Walk PlannedTerm) kind_step call_step compare_step expr_step part_step term_step) (fold-Expr (ℕ → Seen) (Walk Conversion) (Walk PlannedCompare) Seen (Walk PlannedPart) (Walk PlannedTerm) kind_step call_step compare_step expr_step part_step term_step) (fold-MapPart (ℕ → Seen) (Walk Conversion) (Walk PlannedCompare) Seen (Walk PlannedPart) (Walk PlannedTerm) kind_step call_step compare_step expr_step part_step term_step) (fold-Term (ℕ → Seen) (Walk Conversion) (Walk PlannedCompare) Seen (Walk PlannedPart) (Walk PlannedTerm) kind_step call_step compare_step expr_step part_step term_step) (out-ExprKind kind)) a b
    ∙ sym (ap (λ (f : ℕ → Seen). (f b).form) (fold_out-ExprKind (ℕ → Seen) (Walk Conversion) (Walk PlannedCompare) Seen (Walk PlannedPart) (Walk PlannedTerm) kind_step call_step compare_step expr_step part_step term_step kind))

layer-at : (l : ExprKind-F (ℕ → Seen) (Walk Conversion) (Walk PlannedCompare) Seen (Walk PlannedPart) (Walk PlannedTerm)) (a : ℕ) → (kind_step l a).at ≡ a
layer-at (ExprKind-F.Literal v) a = refl
layer-at (ExprKind-F.List es) a = refl
layer-at (ExprKind-F.Map ps) a = refl
layer-at (ExprKind-F.Call c) a = refl
layer-at (ExprKind-F.Path p) a = refl
layer-at (ExprKind-F.Enum n) a = refl
layer-at (ExprKind-F.Sum ts) a = refl
layer-at (ExprKind-F.Product ts) a = refl
layer-at (ExprKind-F.Compare c) a = refl
layer-at (ExprKind-F.Not e) a = refl
layer-at (ExprKind-F.And es) a = refl
layer-at (ExprKind-F.Or es) a = refl

kind-at : (kind : ExprKind) (a : ℕ) → (kind_seen kind a).at ≡ a
unfolding kind_seen
kind-at kind a =
    ap (λ (f : ℕ → Seen). (f a).at) (fold_out-ExprKind (ℕ → Seen) (Walk Conversion) (Walk PlannedCompare) Seen (Walk PlannedPart) (Walk PlannedTerm) kind_step call_step compare_step expr_step part_step term_step kind)
    ∙ layer-at (map-ExprKind ExprKind Call Compare Expr MapPart Term (ℕ → Seen) (Walk Conversion) (Walk PlannedCompare) Seen (Walk PlannedPart) (Walk PlannedTerm) (fold-ExprKind (ℕ → Seen) (Walk Conversion) (Walk PlannedCompare) Seen (Walk PlannedPart) (Walk PlannedTerm) kind_step call_step compare_step expr_step part_step term_step) (fold-Call (ℕ → Seen) (Walk Conversion) (Walk PlannedCompare) Seen (Walk PlannedPart) (Walk PlannedTerm) kind_step call_step compare_step expr_step part_step term_step) (fold-Compare (ℕ → Seen) (Walk Conversion) (Walk PlannedCompare) Seen (Walk PlannedPart) (Walk PlannedTerm) kind_step call_step compare_step expr_step part_step term_step) (fold-Expr (ℕ → Seen) (Walk Conversion) (Walk PlannedCompare) Seen (Walk PlannedPart) (Walk PlannedTerm) kind_step call_step compare_step expr_step part_step term_step) (fold-MapPart (ℕ → Seen) (Walk Conversion) (Walk PlannedCompare) Seen (Walk PlannedPart) (Walk PlannedTerm) kind_step call_step compare_step expr_step part_step term_step) (fold-Term (ℕ → Seen) (Walk Conversion) (Walk PlannedCompare) Seen (Walk PlannedPart) (Walk PlannedTerm) kind_step call_step compare_step expr_step part_step term_step) (out-ExprKind kind)) a

pub seen-at : (e : Expr) → (seen e).at ≡ e.at
seen-at e = ap (λ (s : Seen). s.at) (seen-kind e) ∙ kind-at e.kind e.at

pub seen-form : (e : Expr) → (seen e).form ≡ form_of e.kind
seen-form e = ap (λ (s : Seen). s.form) (seen-kind e) ∙ same-form e.kind e.at 0

pub no-text-in-list : (texts : Option (List (List ℕ))) → text_in (list_form texts) ≡ None
no-text-in-list (Some texts) = refl
no-text-in-list None = refl

literal-no-path : (context : Context) (at : ℕ) (l : Value-F Value Pairs Values) → target_of context at (literal_form l) ≡ Err (fault WrongKind at)
literal-no-path context at Value-F.Empty = refl
literal-no-path context at (Value-F.Text x) = refl
literal-no-path context at (Value-F.Truth x) = refl
literal-no-path context at (Value-F.Int x) = refl
literal-no-path context at (Value-F.Double x) = refl
literal-no-path context at (Value-F.Bytes x) = refl
literal-no-path context at (Value-F.List x) = refl
literal-no-path context at (Value-F.Map x) = refl

pub no-path-in-literal : (context : Context) (at : ℕ) (value : Value) → target_of context at (literal_form (out-Value value)) ≡ Err (fault WrongKind at)
no-path-in-literal context at value = literal-no-path context at (out-Value value)

pub no-path-in-list : (context : Context) (at : ℕ) (texts : Option (List (List ℕ))) → target_of context at (list_form texts) ≡ Err (fault WrongKind at)
no-path-in-list context at (Some texts) = refl
no-path-in-list context at None = refl

pub form-Literal : (value : Value) → form_of (kinds.Literal value) ≡ literal_form (out-Value value)
unfolding kind_seen seen
form-Literal value = ap (λ (f : ℕ → Seen). (f 0).form) (ap kind_seen (sym (kinds.rolls-Literal value)) ∙ at_kind (ExprKind-F.Literal value))

pub form-List : (exprs : List Expr) → form_of (kinds.List exprs) ≡ list_form (texts_in (map (λ (s : Seen). s.form) (map seen exprs)))
unfolding kind_seen seen
form-List exprs = ap (λ (f : ℕ → Seen). (f 0).form) (ap kind_seen (sym (kinds.rolls-List exprs)) ∙ at_kind (ExprKind-F.List exprs))

pub form-Map : (parts : List MapPart) → form_of (kinds.Map parts) ≡ other
unfolding kind_seen seen
form-Map parts = ap (λ (f : ℕ → Seen). (f 0).form) (ap kind_seen (sym (kinds.rolls-Map parts)) ∙ at_kind (ExprKind-F.Map parts))

pub form-Call : (call : Call) → form_of (kinds.Call call) ≡ other
unfolding kind_seen seen
form-Call call = ap (λ (f : ℕ → Seen). (f 0).form) (ap kind_seen (sym (kinds.rolls-Call call)) ∙ at_kind (ExprKind-F.Call call))

pub form-Path : (p : Path) → form_of (kinds.Path p) ≡ path p
unfolding kind_seen seen
form-Path p = ap (λ (f : ℕ → Seen). (f 0).form) (ap kind_seen (sym (kinds.rolls-Path p)) ∙ at_kind (ExprKind-F.Path p))

pub form-Enum : (name : List ℕ) → form_of (kinds.Enum name) ≡ other
unfolding kind_seen seen
form-Enum name = ap (λ (f : ℕ → Seen). (f 0).form) (ap kind_seen (sym (kinds.rolls-Enum name)) ∙ at_kind (ExprKind-F.Enum name))

pub form-Sum : (terms : List Term) → form_of (kinds.Sum terms) ≡ other
unfolding kind_seen seen
form-Sum terms = ap (λ (f : ℕ → Seen). (f 0).form) (ap kind_seen (sym (kinds.rolls-Sum terms)) ∙ at_kind (ExprKind-F.Sum terms))

pub form-Product : (terms : List Term) → form_of (kinds.Product terms) ≡ other
unfolding kind_seen seen
form-Product terms = ap (λ (f : ℕ → Seen). (f 0).form) (ap kind_seen (sym (kinds.rolls-Product terms)) ∙ at_kind (ExprKind-F.Product terms))

pub form-Compare : (compare : Compare) → form_of (kinds.Compare compare) ≡ other
unfolding kind_seen seen
form-Compare compare = ap (λ (f : ℕ → Seen). (f 0).form) (ap kind_seen (sym (kinds.rolls-Compare compare)) ∙ at_kind (ExprKind-F.Compare compare))

pub form-Not : (operand : Expr) → form_of (kinds.Not operand) ≡ other
unfolding kind_seen seen
form-Not operand = ap (λ (f : ℕ → Seen). (f 0).form) (ap kind_seen (sym (kinds.rolls-Not operand)) ∙ at_kind (ExprKind-F.Not operand))

pub form-And : (exprs : List Expr) → form_of (kinds.And exprs) ≡ other
unfolding kind_seen seen
form-And exprs = ap (λ (f : ℕ → Seen). (f 0).form) (ap kind_seen (sym (kinds.rolls-And exprs)) ∙ at_kind (ExprKind-F.And exprs))

pub form-Or : (exprs : List Expr) → form_of (kinds.Or exprs) ≡ other
unfolding kind_seen seen
form-Or exprs = ap (λ (f : ℕ → Seen). (f 0).form) (ap kind_seen (sym (kinds.rolls-Or exprs)) ∙ at_kind (ExprKind-F.Or exprs))

pub ruleset values = (value-Literal, value-List, value-Map, value-Call, value-Path, value-Enum, value-Sum, value-Product, value-Compare, value-Not, value-And, value-Or)

pub ruleset forms = (form-Literal, form-List, form-Map, form-Call, form-Path, form-Enum, form-Sum, form-Product, form-Compare, form-Not, form-And, form-Or, no-text-in-list, no-path-in-list, no-path-in-literal)

pub ruleset whole = (seen-kind)

pub ruleset whole_form = (seen-form, seen-at)
