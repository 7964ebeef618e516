use Rattle.std.proofs.Common.{◌≡◌, drop}
use Rattle.pdata_value.specs.Pairs.{has_key}
use Rattle.groupby_proc.proofs.code.has_key.Given as goal

-- a pair with the key is left where there is one
abbrev pub invariant-loop-pair : goal.invariant-loop-pair
invariant-loop-pair l = has_key (drop l.pair-index l.pairs) l.key ≡ has_key l.pairs l.key
