use Rattle.std.proofs.Common.{◌≡◌, ◌∙◌, ◌++◌, ◌<◌, ℕ, List, map, true, refl, sym, ap, append_assoc, arith}
use Rattle.std.specs.Prelude.{codes, nat_lt, string_bytes}
use Rattle.std.proofs.lemmas.Bool.Decides.{nat_tests}
use Rattle.ottl_parse.specs.Printing.{Printed, piece, listed, at_level, expr_text, call_text, kind_printed, part_text}
use Rattle.ottl_parse.specs.declared.expr.Call.{out-Call}
use Rattle.ottl_parse.specs.declared.expr.Expr.{Expr}
use Rattle.ottl_parse.specs.declared.expr.MapPart.{MapPart}
use Rattle.ottl_parse.proofs.Printed.{printed-kind, call_text-out, kind_printed-List, kind_printed-Map, kind_printed-Not, followed, enclosed}
use Rattle.ottl_parse.proofs.print.+print.Goals as goal

pub push_call-returns : goal.push_call-returns
push_call-returns t c =
    let call = c.args.call.now in
    let start = string_bytes c.args.out.now in
    let name = (out-Call call).name in
    let named : string_bytes c.push.new.out ≡ start ++ name = c.in_ok-push.ensures ∙ ap (λ (xs : List ℕ). start ++ xs) c.as_str.ensures.value in
    enclosed c.push-3.result start (string_bytes c.push-2.new.out) (string_bytes c.push_exprs.new.out) (string_bytes c.push-3.new.out) (name ++ codes "(")
    (listed (map (λ (x : Expr). piece (codes ", ") (expr_text 0 x)) (out-Call call).arguments)) (codes ")") (call_text call)
    (c.in_ok-push-2.ensures ∙ ap (λ (xs : List ℕ). xs ++ codes "(") named ∙ append_assoc start name (codes "("))
    (c.in_ok-push_exprs.ensures ∙ ap (λ (es : List Expr). string_bytes c.push-2.new.out ++ listed (map (λ (x : Expr). piece (codes ", ") (expr_text 0 x)) es)) c.as_slice.ensures)
    c.push-3.ensures (sym (call_text-out call))

-- an expression that needs its parentheses
in_parentheses : (level : ℕ) (p : Printed) → p.0 < level → codes "(" ++ p.1 ++ codes ")" ≡ at_level level p
in_parentheses level p looser = let is : nat_lt p.0 level ≡ true = grind (arith, nat_tests) in rw is refl

pub push_expr-returns : goal.push_expr-returns
push_expr-returns t c =
    let expr = c.args.expr.now in
    let kind = kind_printed expr.kind in
    let looser : kind.0 < c.args.level = omega (arith, c.strength_of.ensures, c.if-level-strength_of.false) in
    enclosed c.push-2.result (string_bytes c.args.out.now) (string_bytes c.push.new.out) (string_bytes c.push_kind-2.new.out) (string_bytes c.push-2.new.out) (codes "(") kind.1 (codes ")") (expr_text c.args.level expr)
    c.in_ok-push.ensures c.in_ok-push_kind.ensures c.push-2.ensures (in_parentheses c.args.level kind looser ∙ ap (at_level c.args.level) (sym (printed-kind expr)))

pub push_kind-returns-in_ok-push_exprs-in-List : goal.push_kind-returns-in_ok-push_exprs-in-List
push_kind-returns-in_ok-push_exprs-in-List t c =
    let exprs = c.in-List.exprs in
    let inside = listed (map (λ (x : Expr). piece (codes ", ") (expr_text 0 x)) exprs) in
    enclosed c.push-in-List.result (string_bytes c.args.out.now) (string_bytes c.push.new.out) (string_bytes c.push_exprs.new.out) (string_bytes c.push-in-List.new.out) (codes "[") inside (codes "]") (kind_printed c.args.kind.now).1
    c.in_ok-push-in-List.ensures
    (c.in_ok-push_exprs-in-List.ensures ∙ ap (λ (es : List Expr). string_bytes c.push.new.out ++ listed (map (λ (x : Expr). piece (codes ", ") (expr_text 0 x)) es)) c.as_slice.ensures)
    c.push-in-List.ensures (ap (λ (p : Printed). p.1) (sym (ap kind_printed c.in-List.is ∙ kind_printed-List exprs)))

pub push_kind-returns-in_ok-push_parts-in-Map : goal.push_kind-returns-in_ok-push_parts-in-Map
push_kind-returns-in_ok-push_parts-in-Map t c =
    let parts = c.in-Map.parts in
    let inside = listed (map (λ (p : MapPart). piece (codes ", ") (part_text p)) parts) in
    enclosed c.push-in-Map-2.result (string_bytes c.args.out.now) (string_bytes c.push-in-Map.new.out) (string_bytes c.push_parts.new.out) (string_bytes c.push-in-Map-2.new.out) (codes "{") inside (codes "}") (kind_printed c.args.kind.now).1
    c.in_ok-push-in-Map.ensures
    (c.in_ok-push_parts-in-Map.ensures ∙ ap (λ (ps : List MapPart). string_bytes c.push-in-Map.new.out ++ listed (map (λ (p : MapPart). piece (codes ", ") (part_text p)) ps)) c.as_slice-in-Map.ensures)
    c.push-in-Map-2.ensures (ap (λ (p : Printed). p.1) (sym (ap kind_printed c.in-Map.is ∙ kind_printed-Map parts)))

pub push_kind-returns-in_ok-push-in-Not : goal.push_kind-returns-in_ok-push-in-Not
push_kind-returns-in_ok-push-in-Not t c =
    let operand = c.in-Not.operand in
    followed c.push_expr.result (string_bytes c.args.out.now) (string_bytes c.push-in-Not.new.out) (string_bytes c.push_expr.new.out) (codes "not ") (expr_text 2 c.get.result.now) (kind_printed c.args.kind.now).1
    c.in_ok-push-in-Not.ensures c.push_expr.ensures
    (ap (λ (e : Expr). codes "not " ++ expr_text 2 e) c.get.ensures ∙ ap (λ (p : Printed). p.1) (sym (ap kind_printed c.in-Not.is ∙ kind_printed-Not operand)))
