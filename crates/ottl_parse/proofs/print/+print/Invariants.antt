use Rattle.std.proofs.Common.{◌≡◌, ◌++◌, drop, map}
use Rattle.std.specs.Prelude.{codes, string_bytes}
use Rattle.ottl_parse.specs.Printing.{piece, further, expr_text, sign_text, part_text}
use Rattle.ottl_parse.specs.declared.expr.Expr.{Expr}
use Rattle.ottl_parse.specs.declared.expr.MapPart.{MapPart}
use Rattle.ottl_parse.specs.declared.expr.Term.{Term}
use Rattle.ottl_parse.proofs.print.+print.Given as goal

abbrev pub invariant-push_exprs-loop-expr : goal.invariant-push_exprs-loop-expr
invariant-push_exprs-loop-expr l =
    string_bytes l.out ++ further (map (λ (e : Expr). piece l.separator (expr_text l.level e)) (drop l.expr-index l.rest))
    ≡ string_bytes l.initial.out ++ further (map (λ (e : Expr). piece l.separator (expr_text l.level e)) l.rest)

abbrev pub invariant-push_terms-loop-term : goal.invariant-push_terms-loop-term
invariant-push_terms-loop-term l =
    string_bytes l.out ++ further (map (λ (t : Term). piece (sign_text t.sign) (expr_text l.level t.expr)) (drop l.term-index l.rest))
    ≡ string_bytes l.initial.out ++ further (map (λ (t : Term). piece (sign_text t.sign) (expr_text l.level t.expr)) l.rest)

abbrev pub invariant-push_parts-loop-part : goal.invariant-push_parts-loop-part
invariant-push_parts-loop-part l =
    string_bytes l.out ++ further (map (λ (p : MapPart). piece (codes ", ") (part_text p)) (drop l.part-index l.rest))
    ≡ string_bytes l.initial.out ++ further (map (λ (p : MapPart). piece (codes ", ") (part_text p)) l.rest)
