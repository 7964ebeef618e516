-- What is printed of an expression, by its kind.
use Rattle.std.proofs.Common.{◌≡◌, ◌∙◌, ℕ, List, [], ◌∷◌, ◌++◌, map, Result, Ok, Err, append_assoc, refl, sym, ap}
use Rattle.std.specs.Prelude.{codes, OnOk}
use Rattle.pdata_value.specs.declared.value.Value.{Value}
use Rattle.ottl_parse.specs.Printing.{Printed, Piece, piece, at_level, listed, exprs_text, terms_text, separated, literal_text, path_text, sign_text, kind_step, call_step, compare_step, expr_step, part_step, term_step, printed, kind_printed, expr_text, call_text, compare_text, part_text}
use Rattle.ottl_parse.specs.declared.sign.Sign.{Sign}
use Rattle.ottl_parse.specs.declared.expr.Call.{Call, out-Call}
use Rattle.ottl_parse.specs.declared.expr.Compare.{Compare}
use Rattle.ottl_parse.specs.declared.expr.Expr.{Expr}
use Rattle.ottl_parse.specs.declared.expr.MapPart.{MapPart}
use Rattle.ottl_parse.specs.declared.expr.Term.{Term}
use Rattle.ottl_parse.specs.declared.path.Path.{Path}
use Rattle.ottl_parse.specs.declared.expr.ExprKind.{ExprKind, roll-ExprKind}
use Rattle.ottl_parse.specs.declared.expr.ExprKind.TheVariants as kinds
use Rattle.ottl_parse.specs.declared.expr.ExprKind.TheOpen.{ExprKind-F}
use Rattle.ottl_parse.specs.declared.expr.ExprKind.TheFolds.{map-ExprKind, fold-ExprKind, fold-Call, fold-Compare, fold-Expr, fold-MapPart, fold-Term, fold-roll-ExprKind, fold_out-Call, fold_out-Compare, fold_out-Expr, fold_out-MapPart, fold_out-Term}

pub printed-kind : (e : Expr) → printed e ≡ kind_printed e.kind
unfolding printed kind_printed
printed-kind e = fold_out-Expr Printed (List ℕ) (List ℕ) Printed (List ℕ) (Sign × Printed) kind_step call_step compare_step expr_step part_step term_step e

at_kind : (kind : ExprKind-F ExprKind Call Compare Expr MapPart Term) → fold-ExprKind Printed (List ℕ) (List ℕ) Printed (List ℕ) (Sign × Printed) kind_step call_step compare_step expr_step part_step term_step (roll-ExprKind kind)
    ≡ kind_step (map-ExprKind ExprKind Call Compare Expr MapPart Term Printed (List ℕ) (List ℕ) Printed (List ℕ) (Sign × Printed) (fold-ExprKind Printed (List ℕ) (List ℕ) Printed (List ℕ) (Sign × Printed) kind_step call_step compare_step expr_step part_step term_step) (fold-Call Printed (List ℕ) (List ℕ) Printed (List ℕ) (Sign × Printed) kind_step call_step compare_step expr_step part_step term_step) (fold-Compare Printed (List ℕ) (List ℕ) Printed (List ℕ) (Sign × Printed) kind_step call_step compare_step expr_step part_step term_step) (fold-Expr Printed (List ℕ) (List ℕ) Printed (List ℕ) (Sign × Printed) kind_step call_step compare_step expr_step part_step term_step) (fold-MapPart Printed (List ℕ) (List ℕ) Printed (List ℕ) (Sign × Printed) kind_step call_step compare_step expr_step part_step term_step) (fold-Term Printed (List ℕ) (List ℕ) Printed (List ℕ) (Sign × Printed) kind_step call_step compare_step expr_step part_step term_step) kind)
at_kind kind = fold-roll-ExprKind Printed (List ℕ) (List ℕ) Printed (List ℕ) (Sign × Printed) kind_step call_step compare_step expr_step part_step term_step kind

-- what is printed of a list, one by one
same-exprs : (separator : List ℕ) (level : ℕ) (es : List Expr)
    → map (λ (p : Printed). piece separator (at_level level p)) (map printed es) ≡ map (λ (x : Expr). piece separator (expr_text level x)) es
same-exprs separator level [] = refl
same-exprs separator level (e ∷ es) = ap (λ (ts : List Piece). piece separator (expr_text level e) ∷ ts) (same-exprs separator level es)

all-exprs : (separator : List ℕ) (level : ℕ) (es : List Expr) → exprs_text separator level (map printed es) ≡ listed (map (λ (x : Expr). piece separator (expr_text level x)) es)
all-exprs separator level es = ap listed (same-exprs separator level es)

part-is : (p : MapPart) → fold-MapPart Printed (List ℕ) (List ℕ) Printed (List ℕ) (Sign × Printed) kind_step call_step compare_step expr_step part_step term_step p ≡ part_text p
unfolding printed
part-is p = fold_out-MapPart Printed (List ℕ) (List ℕ) Printed (List ℕ) (Sign × Printed) kind_step call_step compare_step expr_step part_step term_step p

same-parts : (ps : List MapPart) → map (λ (t : List ℕ). piece (codes ", ") t) (map (fold-MapPart Printed (List ℕ) (List ℕ) Printed (List ℕ) (Sign × Printed) kind_step call_step compare_step expr_step part_step term_step) ps) ≡ map (λ (p : MapPart). piece (codes ", ") (part_text p)) ps
same-parts [] = refl
same-parts (p ∷ ps) =
    ap (λ (t : List ℕ). piece (codes ", ") t ∷ map (λ (u : List ℕ). piece (codes ", ") u) (map (fold-MapPart Printed (List ℕ) (List ℕ) Printed (List ℕ) (Sign × Printed) kind_step call_step compare_step expr_step part_step term_step) ps)) (part-is p)
    ∙ ap (λ (ts : List Piece). piece (codes ", ") (part_text p) ∷ ts) (same-parts ps)

all-parts : (ps : List MapPart) → separated (codes ", ") (map (fold-MapPart Printed (List ℕ) (List ℕ) Printed (List ℕ) (Sign × Printed) kind_step call_step compare_step expr_step part_step term_step) ps) ≡ listed (map (λ (p : MapPart). piece (codes ", ") (part_text p)) ps)
all-parts ps = ap listed (same-parts ps)

term-is : (t : Term) → fold-Term Printed (List ℕ) (List ℕ) Printed (List ℕ) (Sign × Printed) kind_step call_step compare_step expr_step part_step term_step t ≡ (t.sign, printed t.expr)
unfolding printed
term-is t = fold_out-Term Printed (List ℕ) (List ℕ) Printed (List ℕ) (Sign × Printed) kind_step call_step compare_step expr_step part_step term_step t

same-terms : (level : ℕ) (ts : List Term) → map (λ (t : Sign × Printed). piece (sign_text t.0) (at_level level t.1)) (map (fold-Term Printed (List ℕ) (List ℕ) Printed (List ℕ) (Sign × Printed) kind_step call_step compare_step expr_step part_step term_step) ts) ≡ map (λ (t : Term). piece (sign_text t.sign) (expr_text level t.expr)) ts
same-terms level [] = refl
same-terms level (t ∷ ts) =
    ap (λ (u : Sign × Printed). piece (sign_text u.0) (at_level level u.1) ∷ map (λ (v : Sign × Printed). piece (sign_text v.0) (at_level level v.1)) (map (fold-Term Printed (List ℕ) (List ℕ) Printed (List ℕ) (Sign × Printed) kind_step call_step compare_step expr_step part_step term_step) ts)) (term-is t)
    ∙ ap (λ (us : List Piece). piece (sign_text t.sign) (expr_text level t.expr) ∷ us) (same-terms level ts)

all-terms : (level : ℕ) (ts : List Term) → terms_text level (map (fold-Term Printed (List ℕ) (List ℕ) Printed (List ℕ) (Sign × Printed) kind_step call_step compare_step expr_step part_step term_step) ts) ≡ listed (map (λ (t : Term). piece (sign_text t.sign) (expr_text level t.expr)) ts)
all-terms level ts = ap listed (same-terms level ts)

pub call_text-out : (c : Call) → call_text c ≡ (out-Call c).name ++ codes "(" ++ listed (map (λ (x : Expr). piece (codes ", ") (expr_text 0 x)) (out-Call c).arguments) ++ codes ")"
unfolding call_text printed
call_text-out c = fold_out-Call Printed (List ℕ) (List ℕ) Printed (List ℕ) (Sign × Printed) kind_step call_step compare_step expr_step part_step term_step c ∙ ap (λ (t : List ℕ). (out-Call c).name ++ codes "(" ++ t ++ codes ")") (all-exprs (codes ", ") 0 (out-Call c).arguments)

sides-are : (c : Compare) → fold-Compare Printed (List ℕ) (List ℕ) Printed (List ℕ) (Sign × Printed) kind_step call_step compare_step expr_step part_step term_step c ≡ compare_text c
unfolding printed
sides-are c = fold_out-Compare Printed (List ℕ) (List ℕ) Printed (List ℕ) (Sign × Printed) kind_step call_step compare_step expr_step part_step term_step c

pub kind_printed-Literal : (value : Value) → kind_printed (kinds.Literal value) ≡ (6, literal_text value)
unfolding kind_printed printed call_text
kind_printed-Literal value = ap kind_printed (sym (kinds.rolls-Literal value)) ∙ at_kind (ExprKind-F.Literal value)

pub kind_printed-List : (exprs : List Expr) → kind_printed (kinds.List exprs) ≡ (6, codes "[" ++ listed (map (λ (x : Expr). piece (codes ", ") (expr_text 0 x)) exprs) ++ codes "]")
unfolding kind_printed printed call_text
kind_printed-List exprs = ap kind_printed (sym (kinds.rolls-List exprs)) ∙ at_kind (ExprKind-F.List exprs) ∙ ap (λ (t : List ℕ). (6, codes "[" ++ t ++ codes "]")) (all-exprs (codes ", ") 0 exprs)

pub kind_printed-Map : (parts : List MapPart) → kind_printed (kinds.Map parts) ≡ (6, codes "{" ++ listed (map (λ (p : MapPart). piece (codes ", ") (part_text p)) parts) ++ codes "}")
unfolding kind_printed printed call_text
kind_printed-Map parts = ap kind_printed (sym (kinds.rolls-Map parts)) ∙ at_kind (ExprKind-F.Map parts) ∙ ap (λ (t : List ℕ). (6, codes "{" ++ t ++ codes "}")) (all-parts parts)

pub kind_printed-Call : (call : Call) → kind_printed (kinds.Call call) ≡ (6, call_text call)
unfolding kind_printed printed call_text
kind_printed-Call call = ap kind_printed (sym (kinds.rolls-Call call)) ∙ at_kind (ExprKind-F.Call call)

pub kind_printed-Path : (path : Path) → kind_printed (kinds.Path path) ≡ (6, path_text path)
unfolding kind_printed printed call_text
kind_printed-Path path = ap kind_printed (sym (kinds.rolls-Path path)) ∙ at_kind (ExprKind-F.Path path)

pub kind_printed-Enum : (name : List ℕ) → kind_printed (kinds.Enum name) ≡ (6, name)
unfolding kind_printed printed call_text
kind_printed-Enum name = ap kind_printed (sym (kinds.rolls-Enum name)) ∙ at_kind (ExprKind-F.Enum name)

pub kind_printed-Sum : (terms : List Term) → kind_printed (kinds.Sum terms) ≡ (4, listed (map (λ (t : Term). piece (sign_text t.sign) (expr_text 5 t.expr)) terms))
unfolding kind_printed printed call_text
kind_printed-Sum terms = ap kind_printed (sym (kinds.rolls-Sum terms)) ∙ at_kind (ExprKind-F.Sum terms) ∙ ap (λ (t : List ℕ). (4, t)) (all-terms 5 terms)

pub kind_printed-Product : (terms : List Term) → kind_printed (kinds.Product terms) ≡ (5, listed (map (λ (t : Term). piece (sign_text t.sign) (expr_text 6 t.expr)) terms))
unfolding kind_printed printed call_text
kind_printed-Product terms = ap kind_printed (sym (kinds.rolls-Product terms)) ∙ at_kind (ExprKind-F.Product terms) ∙ ap (λ (t : List ℕ). (5, t)) (all-terms 6 terms)

pub kind_printed-Compare : (compare : Compare) → kind_printed (kinds.Compare compare) ≡ (3, compare_text compare)
unfolding kind_printed printed call_text
kind_printed-Compare compare = ap kind_printed (sym (kinds.rolls-Compare compare)) ∙ at_kind (ExprKind-F.Compare compare) ∙ ap (λ (t : List ℕ). (3, t)) (sides-are compare)

pub kind_printed-Not : (operand : Expr) → kind_printed (kinds.Not operand) ≡ (2, codes "not " ++ expr_text 2 operand)
unfolding kind_printed printed call_text
kind_printed-Not operand = ap kind_printed (sym (kinds.rolls-Not operand)) ∙ at_kind (ExprKind-F.Not operand)

pub kind_printed-And : (exprs : List Expr) → kind_printed (kinds.And exprs) ≡ (1, listed (map (λ (x : Expr). piece (codes " and ") (expr_text 2 x)) exprs))
unfolding kind_printed printed call_text
kind_printed-And exprs = ap kind_printed (sym (kinds.rolls-And exprs)) ∙ at_kind (ExprKind-F.And exprs) ∙ ap (λ (t : List ℕ). (1, t)) (all-exprs (codes " and ") 2 exprs)

pub kind_printed-Or : (exprs : List Expr) → kind_printed (kinds.Or exprs) ≡ (0, listed (map (λ (x : Expr). piece (codes " or ") (expr_text 1 x)) exprs))
unfolding kind_printed printed call_text
kind_printed-Or exprs = ap kind_printed (sym (kinds.rolls-Or exprs)) ∙ at_kind (ExprKind-F.Or exprs) ∙ ap (λ (t : List ℕ). (0, t)) (all-exprs (codes " or ") 1 exprs)

pub ruleset kinds_printed = (kind_printed-Literal, kind_printed-List, kind_printed-Map, kind_printed-Call, kind_printed-Path, kind_printed-Enum, kind_printed-Sum, kind_printed-Product, kind_printed-Compare, kind_printed-Not, kind_printed-And, kind_printed-Or)

pub ruleset wholes = (printed-kind, call_text-out)

-- what two pieces and what three appended, where the last was appended
pub followed : {A E : Type 0} (r : Result A E) (start first_end last_end first last text : List ℕ) → first_end ≡ start ++ first → OnOk r (last_end ≡ first_end ++ last)
    → first ++ last ≡ text → OnOk r (last_end ≡ start ++ text)
followed (Ok x) start first_end last_end first last text begun grown is =
    grown ∙ ap (λ (t : List ℕ). t ++ last) begun ∙ append_assoc start first last ∙ ap (λ (t : List ℕ). start ++ t) is
followed (Err e) start first_end last_end first last text begun grown is = tt

pub enclosed : {A E : Type 0} (r : Result A E) (start first_end middle_end last_end first middle last text : List ℕ) → first_end ≡ start ++ first
    → middle_end ≡ first_end ++ middle → OnOk r (last_end ≡ middle_end ++ last) → first ++ middle ++ last ≡ text → OnOk r (last_end ≡ start ++ text)
enclosed r start first_end middle_end last_end first middle last text begun filled grown is =
    followed r start middle_end last_end (first ++ middle) last text (filled ∙ ap (λ (t : List ℕ). t ++ middle) begun ∙ append_assoc start first middle) grown is
