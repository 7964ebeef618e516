use Rattle.std.proofs.Common.{take}
use Rattle.pdata_value.specs.Index.{Knows}
use Rattle.pdata_value.proofs.index.index_of.Given as goal

-- the index has the places of the pairs so far
abbrev pub invariant-loop-i : goal.invariant-loop-i
invariant-loop-i l = Knows l.index (take l.i l.list)
