use Rattle.std.proofs.Common.{◌≡◌, ◌+◌, ◌*◌, [], drop, length}
use Rattle.otlp_json.specs.Objects.{fields}
use Rattle.otlp_json.specs.Reads.{each}
use Rattle.otlp_json.specs.Values.{value_in, pair_in, pair_table, array_table, map_table}
use Rattle.otlp_json.proofs.value.+value.Given as goal

abbrev pub decreases-value_of : goal.decreases-value_of
decreases-value_of l = 5 * l.levels

abbrev pub decreases-pair_of : goal.decreases-pair_of
decreases-pair_of l = 5 * l.levels + 1

abbrev pub decreases-pairs_of : goal.decreases-pairs_of
decreases-pairs_of l = 5 * l.levels + 2

abbrev pub decreases-values_of : goal.decreases-values_of
decreases-values_of l = 5 * l.levels + 1

abbrev pub decreases-map_of : goal.decreases-map_of
decreases-map_of l = 5 * l.levels + 3

abbrev pub decreases-array_of : goal.decreases-array_of
decreases-array_of l = 5 * l.levels + 2

abbrev pub decreases-value_by : goal.decreases-value_by
decreases-value_by l = 5 * l.levels + 4

-- the members left, behind what was read, give what all of them give
abbrev pub invariant-array_of-loop-rest : goal.invariant-array_of-loop-rest
invariant-array_of-loop-rest l =
    fields (array_table (value_in l.levels)) l.rest l.list l.counts ≡ fields (array_table (value_in l.levels)) l.initial.rest l.initial.list l.initial.counts

abbrev pub decreases-array_of-loop-rest : goal.decreases-array_of-loop-rest
decreases-array_of-loop-rest l = length l.rest

abbrev pub invariant-map_of-loop-rest : goal.invariant-map_of-loop-rest
invariant-map_of-loop-rest l =
    fields (map_table l.levels (value_in l.levels)) l.rest l.map l.counts ≡ fields (map_table l.levels (value_in l.levels)) l.initial.rest l.initial.map l.initial.counts

abbrev pub decreases-map_of-loop-rest : goal.decreases-map_of-loop-rest
decreases-map_of-loop-rest l = length l.rest

abbrev pub invariant-pair_of-loop-rest : goal.invariant-pair_of-loop-rest
invariant-pair_of-loop-rest l =
    fields (pair_table (value_in l.levels)) l.rest (l.key, l.value) l.counts ≡ fields (pair_table (value_in l.levels)) l.initial.rest (l.initial.key, l.initial.value) l.initial.counts

abbrev pub decreases-pair_of-loop-rest : goal.decreases-pair_of-loop-rest
decreases-pair_of-loop-rest l = length l.rest

-- the elements left, behind those read, give what all of them give
abbrev pub invariant-values_of-loop-item : goal.invariant-values_of-loop-item
invariant-values_of-loop-item l =
    each (value_in l.levels) l.list (drop l.item-index l.items) l.counts ≡ each (value_in l.levels) [] l.items l.initial.counts

abbrev pub invariant-pairs_of-loop-item : goal.invariant-pairs_of-loop-item
invariant-pairs_of-loop-item l =
    each (pair_in l.levels) l.list (drop l.item-index l.items) l.counts ≡ each (pair_in l.levels) [] l.items l.initial.counts
