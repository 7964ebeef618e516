use Rattle.std.proofs.Common.{take}
use Rattle.pdata_value.specs.Index.{Lists}
use Rattle.pdata_value.proofs.index.listing_of.Given as goal

-- the index has the keys so far
abbrev pub invariant-loop-key : goal.invariant-loop-key
invariant-loop-key l = Lists l.index (take l.key-index l.keys)
