use Rattle.std.proofs.Common.{◌≡◌, ◌++◌, length, take, drop}
use Rattle.pdata_value.specs.Pairs.{put_all}
use Rattle.pdata_value.specs.Places.{places_of}
use Rattle.pdata_value.specs.Index.{Knows}
use Rattle.pdata_value.proofs.merge.plan.Given as goal

-- the index has the places of what the pairs so far leave, and the rest are put into that
abbrev pub invariant-loop-pair : goal.invariant-loop-pair
invariant-loop-pair l = record {
  knows : Knows l.index (put_all l.list (take l.pair-index l.others));
  end : l.end ≡ length (put_all l.list (take l.pair-index l.others));
  places : l.places.items ++ places_of (put_all l.list (take l.pair-index l.others)) (drop l.pair-index l.others)
      ≡ places_of l.list l.others;
}
