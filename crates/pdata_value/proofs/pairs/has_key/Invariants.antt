use Rattle.std.proofs.Common.{◌≡◌, drop}
use Rattle.pdata_value.specs.Pairs.{has_key}
use Rattle.pdata_value.proofs.pairs.has_key.Given as goal

-- the pairs left answer as all of them do
abbrev pub invariant-loop-pair : goal.invariant-loop-pair
invariant-loop-pair l = has_key (drop l.pair-index l.list) l.key ≡ has_key l.list l.key
