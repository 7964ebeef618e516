use Rattle.std.proofs.Common.{◌≡◌, ◌+◌, ◌≤◌, drop}
use Rattle.pdata_value.specs.Measure.{depth_of_items, depth_of_pairs, weight_of_items, weight_of_pairs}
use Rattle.pdata_value.proofs.measure.+room.Given as goal

-- what is left is for the values left, and those before them aren't too deep
abbrev pub invariant-room_after_items-loop-value : goal.invariant-room_after_items-loop-value
invariant-room_after_items-loop-value l = record {
  weight : l.left + weight_of_items l.values ≡ l.room + weight_of_items (drop l.value-index l.values);
  back : depth_of_items (drop l.value-index l.values) ≤ depth_of_items l.values;
  front : depth_of_items (drop l.value-index l.values) ≤ l.levels → depth_of_items l.values ≤ l.levels;
}

abbrev pub invariant-room_after_pairs-loop-pair : goal.invariant-room_after_pairs-loop-pair
invariant-room_after_pairs-loop-pair l = record {
  weight : l.left + weight_of_pairs l.pairs ≡ l.room + weight_of_pairs (drop l.pair-index l.pairs);
  back : depth_of_pairs (drop l.pair-index l.pairs) ≤ depth_of_pairs l.pairs;
  front : depth_of_pairs (drop l.pair-index l.pairs) ≤ l.levels → depth_of_pairs l.pairs ≤ l.levels;
}
