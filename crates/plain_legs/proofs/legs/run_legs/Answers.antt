use Rattle.std.proofs.Common.{rules}
use Rattle.plain_legs.specs.Plans.{conf_in}
use Rattle.plain_legs.proofs.Going.{by_first, legs_turn}
use Rattle.plain_legs.proofs.legs.run_legs.Goals as goal

-- the leg's outcome is what is meant, since those before it are
pub loop-parts-preserved : goal.loop-parts-preserved
loop-parts-preserved c =
    legs_turn (conf_in c.args.plan.now) c.requires.order c.args.tree c.loop-parts.tree c.entry_of.new.tree c.in_ok-entry.entry
    c.loop-parts.left c.push.new.self c.leg-item.result c.loop-parts.legs.now _
    c.own-item.result c.loop-parts.parts.now _ c.in_ok-run_leg.field-0
    (by_first c.loop-parts.legs.now c.leg-item.result c.in-len1-up-legs.len_at_least c.leg-item.is)
    (by_first c.loop-parts.parts.now c.own-item.result c.in-len1-up.len_at_least c.own-item.is)
    (search rules)
    (search rules)
    (search rules)
    (search rules)
    c.loop-parts.invariant
