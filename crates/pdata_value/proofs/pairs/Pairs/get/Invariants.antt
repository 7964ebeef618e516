use Rattle.std.proofs.Common.{◌≡◌, drop}
use Rattle.pdata_value.specs.Pairs.{get}
use Rattle.pdata_value.proofs.pairs.Pairs.get.Given as goal

-- the pairs left answer as all of them do
abbrev pub invariant-loop-pair : goal.invariant-loop-pair
invariant-loop-pair l = get (drop l.pair-index l.pair-items) l.key ≡ get l.pair-items l.key
