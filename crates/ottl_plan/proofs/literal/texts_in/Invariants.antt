use Rattle.std.proofs.Common.{◌≡◌, drop, map}
use Rattle.ottl_plan.proofs.Lists.{texts_from}
use Rattle.ottl_plan.specs.Planning.{Seen, seen, texts_in}
use Rattle.ottl_plan.proofs.literal.texts_in.Given as goal

-- the texts so far, then those of the rest, are all texts
abbrev pub invariant-loop-expr : goal.invariant-loop-expr
invariant-loop-expr l =
    texts_from l.texts (map (λ (s : Seen). s.form) (map seen (drop l.expr-index l.exprs)))
    ≡ texts_in (map (λ (s : Seen). s.form) (map seen l.exprs))
