use Rattle.std.proofs.Common.{◌≡◌, ◌++◌, length}
use Rattle.pdata_value.specs.Value.{pairs}
use Rattle.func_map.specs.Edits.{unmatched}
use Rattle.func_map.proofs.matching.unmatched.Given as goal

-- the pairs so far and those that stay of the rest are all that stay
abbrev pub invariant-loop-rest : goal.invariant-loop-rest
invariant-loop-rest l = record {
  matcher : l.matcher ≡ l.fn.matcher;
  pairs : pairs l.map ++ unmatched l.fn.matcher l.rest ≡ unmatched l.fn.matcher l.fn.list;
}

abbrev pub decreases-loop-rest : goal.decreases-loop-rest
decreases-loop-rest l = length l.rest
