use Rattle.std.proofs.Common.{take}
use Rattle.share_cow.specs.Owning.{Raises}
use Rattle.share_cow.proofs.owning.raise_all.Given as goal

-- the places so far are raised
abbrev pub invariant-loop-place : goal.invariant-loop-place
invariant-loop-place g l = Raises (take l.place-index l.places) l.initial.shelf l.shelf
