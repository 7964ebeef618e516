use Rattle.std.proofs.Common.{◌≡◌, ◌∙◌, ◌<◌, List, false, nat_le, length, Err, sym, ap, subst, arith, rules}
use Rattle.std.proofs.lemmas.Bool.Decides.{nat_tests}
use Rattle.graph_build.specs.declared.leg.Leg.{Leg}
use Rattle.graph_build.specs.Exits.{exits_of}
use Rattle.graph_build.specs.Growing.{Grows}
use Rattle.graph_build.specs.Legs.{children, legs_below, max_legs}
use Rattle.graph_build.proofs.Growing.{children-whole, legs_below-first}
use Rattle.graph_build.proofs.legs.+walk.Goals as goal

not_full : (legs : List Leg) → false ≡ nat_le max_legs (length legs) → length legs < max_legs
not_full legs is = grind (arith, nat_tests)

pub add_children-returns-in_err-add_leg : goal.add_children-returns-in_err-add_leg
add_children-returns-in_err-add_leg t c =
    let is : c.from_residual-in_err-add_leg.result ≡ Err c.in_err-add_leg.field-0.0 = search rules in
    subst (λ r. Grows c.args.legs.now c.add_leg.new.legs r (children c.args.draft.now (legs_below c.args.draft.now c.args.levels) c.args.parent (length c.args.legs.now) c.args.exits.now)) (sym is)
    (children-whole c.args.draft.now (legs_below c.args.draft.now c.args.levels) c.args.parent _ c.args.legs.now c.loop-exit.legs c.add_leg.new.legs c.add_leg.new.legs
    c.args.exits.now c.loop-exit.exit-index c.exit-item.result c.in_ok-leg.leg c.loop-exit-test.true c.exit-item.is c.in_ok-leg.ensures c.loop-exit.invariant.0 c.in_err-add_leg.ensures)

pub add_leg-returns : goal.add_leg-returns
add_leg-returns t c =
    legs_below-first c.args.draft.now c.args.levels c.len-number.result c.add_children.result c.args.legs.now c.push.new.self c.add_children.new.legs c.args.leg c.as_slice.result.now
    (omega (arith, c.if-levels-eq0.false)) (not_full c.args.legs.now c.if-is_full.ensures) c.in_ok-push.ensures.ok c.len-number.ensures
    (c.as_slice.ensures ∙ c.in_ok-exits.ensures ∙ ap (exits_of c.args.draft.now) c.as_str.ensures.value) c.add_children.ensures
