use Rattle.std.proofs.Common.{◌≡◌, drop}
use Rattle.plain_legs.specs.Views.{has_root}
use Rattle.plain_legs.proofs.legs.has_root.Given as goal

-- those left answer as all of them do
abbrev pub invariant-loop-leg : goal.invariant-loop-leg
invariant-loop-leg l = has_root (drop l.leg-index l.legs) ≡ has_root l.legs
