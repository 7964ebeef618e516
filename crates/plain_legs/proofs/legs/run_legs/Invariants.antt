use Rattle.std.proofs.Common.{length}
use Rattle.plain_legs.proofs.Going.{IsGoing}
use Rattle.plain_legs.specs.Plans.{conf_in}
use Rattle.plain_legs.proofs.legs.run_legs.Given as goal

-- the legs before left what is meant
abbrev pub invariant-loop-parts : goal.invariant-loop-parts
invariant-loop-parts l = IsGoing (conf_in l.plan) l.fn.tree l.tree l.left l.legs l.parts

abbrev pub decreases-loop-parts : goal.decreases-loop-parts
decreases-loop-parts l = length l.parts
