use Rattle.std.proofs.Common.{◌≡◌, [], length, map}
use Rattle.pdata_value.specs.Pairs.{put_all}
use Rattle.pdata_value.specs.Value.{pairs}
use Rattle.func_map.specs.Edits.{replaced_key}
use Rattle.func_map.proofs.replacing.with_keys_replaced.Given as goal

-- the rest put into the pairs so far is all put into the empty map
abbrev pub invariant-loop-rest : goal.invariant-loop-rest
invariant-loop-rest l = record {
  matcher : l.matcher ≡ l.fn.matcher;
  pairs :
      put_all (pairs l.new) (map (replaced_key l.fn.matcher l.fn.template) l.rest)
      ≡ put_all [] (map (replaced_key l.fn.matcher l.fn.template) l.fn.list);
}

abbrev pub decreases-loop-rest : goal.decreases-loop-rest
decreases-loop-rest l = length l.rest
