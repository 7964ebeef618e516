use Rattle.std.proofs.Common.{◌≡◌, ◌+◌, ◌≤◌, vec_len}
use Rattle.std.specs.Vec.{vec_capacity}
use Rattle.std.specs.Vec.Iter.{into_iter_items, into_iter_len}
use Rattle.pdata_value.specs.Pairs.{put_all}
use Rattle.pdata_value.specs.Places.{IsPlan}
use Rattle.pdata_value.proofs.merge.put_all.Given as goal

-- the pairs left give what all of them give, there is room for them, and their places are planned
abbrev pub invariant-loop-pair : goal.invariant-loop-pair
invariant-loop-pair l = record {
  gives : put_all l.list.items (into_iter_items l.pair-iterator) ≡ put_all l.fn.list.items l.fn.pairs.items;
  room : vec_len l.list + into_iter_len l.pair-iterator ≤ vec_capacity l.list;
  places : IsPlan l.planned l.list.items (into_iter_items l.pair-iterator);
}
