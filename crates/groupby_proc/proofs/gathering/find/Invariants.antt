use Rattle.std.proofs.Common.{◌≡◌, drop}
use Rattle.groupby_proc.specs.Indexing.{found}
use Rattle.groupby_proc.proofs.gathering.find.Given as goal

-- the place is among those left
abbrev pub invariant-loop-place : goal.invariant-loop-place
invariant-loop-place g l = found g.K.GroupKey.alike l.groups l.key (drop l.place-index l.places) ≡ found g.K.GroupKey.alike l.groups l.key l.places
