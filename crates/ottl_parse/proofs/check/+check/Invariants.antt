use Rattle.std.proofs.Common.{◌≡◌, drop, map}
use Rattle.ottl_parse.specs.Checks.{all_well, check}
use Rattle.ottl_parse.specs.declared.check.Wanted.TheVariants.{Value}
use Rattle.ottl_parse.specs.declared.expr.Expr.{Expr}
use Rattle.ottl_parse.specs.declared.expr.MapPart.{MapPart}
use Rattle.ottl_parse.specs.declared.expr.Term.{Term}
use Rattle.ottl_parse.proofs.check.+check.Given as goal

abbrev pub invariant-check_all-loop-expr : goal.invariant-check_all-loop-expr
invariant-check_all-loop-expr l = all_well (map (λ (e : Expr). check e l.wanted) (drop l.expr-index l.exprs)) ≡ all_well (map (λ (e : Expr). check e l.wanted) l.exprs)

abbrev pub invariant-check_parts-loop-part : goal.invariant-check_parts-loop-part
invariant-check_parts-loop-part l = all_well (map (λ (p : MapPart). check p.value Value) (drop l.part-index l.parts)) ≡ all_well (map (λ (p : MapPart). check p.value Value) l.parts)

abbrev pub invariant-check_terms-loop-term : goal.invariant-check_terms-loop-term
invariant-check_terms-loop-term l = all_well (map (λ (t : Term). check t.expr Value) (drop l.term-index l.terms)) ≡ all_well (map (λ (t : Term). check t.expr Value) l.terms)
