use Rattle.std.proofs.Common.{◌≡◌, ◌++◌, drop, map}
use Rattle.leg_model.specs.Parts as spec
use Rattle.plain_legs.specs.Views.{meant_by, parts_in}
use Rattle.plain_legs.proofs.planning.parts_of.Given as goal

-- the parts that were found, then those of the legs that are left, are all
abbrev pub invariant-loop-leg : goal.invariant-loop-leg
invariant-loop-leg l =
    map parts_in l.parts ++ map (λ leg. spec.parts_of (meant_by l.draft l.planned) leg.pipeline) (drop l.leg-index l.legs)
    ≡ map (λ leg. spec.parts_of (meant_by l.draft l.planned) leg.pipeline) l.legs
