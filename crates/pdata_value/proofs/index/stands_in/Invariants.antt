use Rattle.std.proofs.Common.{◌≡◌, drop}
use Rattle.pdata_value.specs.Pairs.{is_listed}
use Rattle.pdata_value.proofs.index.stands_in.Given as goal

-- the keys left answer as all of them do
abbrev pub invariant-loop-listed : goal.invariant-loop-listed
invariant-loop-listed l = is_listed (drop l.listed-index l.keys) l.key ≡ is_listed l.keys l.key
