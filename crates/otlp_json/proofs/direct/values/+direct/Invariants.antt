use Rattle.std.proofs.Common.{◌+◌, ◌*◌, ◌-◌, [], length}
use Rattle.pdata_value.specs.declared.value.Value.TheVariants as variants
use Rattle.otlp_json.specs.Values.{value_in, pair_in, pair_table, array_table, map_table}
use Rattle.otlp_json.specs.Direct.{kind_slot}
use Rattle.otlp_json.proofs.Passing.{Passed, Listed}
use Rattle.otlp_json.proofs.ObjectsPassed.{ObjectSoFar}
use Rattle.otlp_json.proofs.OneKind.{kinds_meant}
use Rattle.otlp_json.proofs.direct.values.+direct.Given as goal

abbrev pub decreases-value : goal.decreases-value
decreases-value l = 2 * l.depth

abbrev pub decreases-value_member : goal.decreases-value_member
decreases-value_member l = 2 * l.depth + 1

abbrev pub decreases-array : goal.decreases-array
decreases-array l = 2 * l.depth

abbrev pub decreases-array_member : goal.decreases-array_member
decreases-array_member l = 2 * l.depth + 1

abbrev pub decreases-values : goal.decreases-values
decreases-values l = 2 * l.depth

abbrev pub decreases-map : goal.decreases-map
decreases-map l = 2 * l.depth

abbrev pub decreases-map_member : goal.decreases-map_member
decreases-map_member l = 2 * l.depth + 1

abbrev pub decreases-pairs : goal.decreases-pairs
decreases-pairs l = 2 * l.depth

abbrev pub decreases-pair : goal.decreases-pair
decreases-pair l = 2 * l.depth

abbrev pub decreases-pair_member : goal.decreases-pair_member
decreases-pair_member l = 2 * l.depth + 1

-- the members passed, each kind at most once, give what was read
abbrev pub invariant-value-loop-more : goal.invariant-value-loop-more
invariant-value-loop-more l =
    Passed (kinds_meant (l.levels - 1) (value_in (l.levels - 1)) l.initial.direct.counts) kind_slot l.depth l.fn.direct.cursor l.value l.taken l.more l.direct

abbrev pub decreases-value-loop-more : goal.decreases-value-loop-more
decreases-value-loop-more l = length l.direct.cursor.left

-- the members passed, each known key once, give what was read
abbrev pub invariant-array-loop-more : goal.invariant-array-loop-more
invariant-array-loop-more l = ObjectSoFar (array_table (value_in l.levels)) (record { items = [] }) l.initial.direct.counts l.depth l.fn.direct.cursor l.list l.taken l.more l.direct

abbrev pub decreases-array-loop-more : goal.decreases-array-loop-more
decreases-array-loop-more l = length l.direct.cursor.left

abbrev pub invariant-map-loop-more : goal.invariant-map-loop-more
invariant-map-loop-more l = ObjectSoFar (map_table l.levels (value_in l.levels)) (record { items = [] }) l.initial.direct.counts l.depth l.fn.direct.cursor l.map l.taken l.more l.direct

abbrev pub decreases-map-loop-more : goal.decreases-map-loop-more
decreases-map-loop-more l = length l.direct.cursor.left

abbrev pub invariant-pair-loop-more : goal.invariant-pair-loop-more
invariant-pair-loop-more l = ObjectSoFar (pair_table (value_in l.levels)) ([], variants.Empty) l.initial.direct.counts l.depth l.fn.direct.cursor l.pair l.taken l.more l.direct

abbrev pub decreases-pair-loop-more : goal.decreases-pair-loop-more
decreases-pair-loop-more l = length l.direct.cursor.left

-- the elements passed give what was read
abbrev pub invariant-values-loop-more : goal.invariant-values-loop-more
invariant-values-loop-more l = Listed (value_in l.levels) l.depth l.fn.direct l.initial.direct.counts l.list l.more l.direct

abbrev pub decreases-values-loop-more : goal.decreases-values-loop-more
decreases-values-loop-more l = length l.direct.cursor.left

abbrev pub invariant-pairs-loop-more : goal.invariant-pairs-loop-more
invariant-pairs-loop-more l = Listed (pair_in l.levels) l.depth l.fn.direct l.initial.direct.counts l.list l.more l.direct

abbrev pub decreases-pairs-loop-more : goal.decreases-pairs-loop-more
decreases-pairs-loop-more l = length l.direct.cursor.left
