use Rattle.std.proofs.Common.{◌≡◌, ◌++◌, length, map}
use Rattle.pdata_value.specs.Value.{pairs}
use Rattle.func_map.specs.Edits.{replaced_value}
use Rattle.func_map.proofs.replacing.with_values_replaced.Given as goal

-- the pairs so far and those of the rest are all pairs
abbrev pub invariant-loop-rest : goal.invariant-loop-rest
invariant-loop-rest l = record {
  matcher : l.matcher ≡ l.fn.matcher;
  pairs :
      pairs l.new ++ map (replaced_value l.fn.matcher l.fn.template) l.rest
      ≡ map (replaced_value l.fn.matcher l.fn.template) l.fn.list;
}

abbrev pub decreases-loop-rest : goal.decreases-loop-rest
decreases-loop-rest l = length l.rest
