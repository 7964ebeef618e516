use Rattle.std.proofs.Common.{◌≡◌, ◌++◌, drop, map}
use Rattle.pdata_value.specs.Value.{items, pairs}
use Rattle.func_code.specs.Json.{value_of, member_of}
use Rattle.func_code.proofs.parsing.+value.Given as goal

-- the values so far and those of the rest are all values
abbrev pub invariant-values_of-loop-item : goal.invariant-values_of-loop-item
invariant-values_of-loop-item l =
    items l.values ++ map value_of (drop l.item-index l.item-items) ≡ map value_of l.item-items

-- the pairs so far and those of the rest are all pairs
abbrev pub invariant-pairs_of-loop-member : goal.invariant-pairs_of-loop-member
invariant-pairs_of-loop-member l =
    pairs l.listed ++ map member_of (drop l.member-index l.member-items) ≡ map member_of l.member-items
