use Rattle.std.proofs.Common.{◌≡◌, drop}
use Rattle.pdata_value.specs.Places.{keys_within}
use Rattle.pdata_value.proofs.same.has_keys.Given as goal

-- the pairs left answer as all of them do
abbrev pub invariant-loop-pair : goal.invariant-loop-pair
invariant-loop-pair l = keys_within (drop l.pair-index l.others) l.pairs ≡ keys_within l.others l.pairs
