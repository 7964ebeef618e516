use Rattle.std.proofs.Common.{◌≡◌, drop, map}
use Rattle.ottl_plan.proofs.Lists.{all_from, arguments_from}
use Rattle.ottl_plan.specs.Answers.{all_of}
use Rattle.ottl_plan.specs.Planning.{Seen, seen, values_of, part_in, term_in, arguments_of}
use Rattle.ottl_plan.proofs.plan.+plan.Given as goal

-- the values so far, then those of the rest, are all values; the maker refused nothing
abbrev pub invariant-plan_values-loop-expr : goal.invariant-plan_values-loop-expr
invariant-plan_values-loop-expr g l =
    (all_from l.planned (map (λ (s : Seen). s.value l.context) (map seen (drop l.expr-index l.exprs))) ≡ values_of l.context (map seen l.exprs))
    × (g.P.PatternMaker.refusals l.maker ≡ g.P.PatternMaker.refusals l.initial.maker)

-- the same of pairs
abbrev pub invariant-plan_parts-loop-part : goal.invariant-plan_parts-loop-part
invariant-plan_parts-loop-part g l =
    (all_from l.planned (map (part_in l.context) (drop l.part-index l.parts)) ≡ all_of (map (part_in l.context) l.parts))
    × (g.P.PatternMaker.refusals l.maker ≡ g.P.PatternMaker.refusals l.initial.maker)

-- the same of terms
abbrev pub invariant-plan_terms-loop-term : goal.invariant-plan_terms-loop-term
invariant-plan_terms-loop-term g l =
    (all_from l.planned (map (term_in l.context) (drop l.term-index l.terms)) ≡ all_of (map (term_in l.context) l.terms))
    × (g.P.PatternMaker.refusals l.maker ≡ g.P.PatternMaker.refusals l.initial.maker)

-- the same of arguments, by what is still wanted
abbrev pub invariant-plan_arguments-loop-expr : goal.invariant-plan_arguments-loop-expr
invariant-plan_arguments-loop-expr g l =
    (arguments_from l.context l.rest (map seen (drop l.expr-index l.exprs)) l.values l.literals ≡ arguments_of l.context l.kinds (map seen l.exprs))
    × (g.P.PatternMaker.refusals l.maker ≡ g.P.PatternMaker.refusals l.initial.maker)
