use Rattle.std.proofs.Common.{◌≡◌, ◌++◌, map, not}
use Rattle.std.specs.Vec.Iter.{into_iter_items}
use Rattle.pdata_tree.specs.Selecting.{flagged}
use Rattle.tree_parts.proofs.flags.split.Given as goal

-- the items so far and those of the rest are all
abbrev pub invariant-loop-item : goal.invariant-loop-item
invariant-loop-item g l = record {
  taken : l.taken ++ flagged l.rest (into_iter_items l.item-iterator) ≡ flagged l.fn.flags l.fn.items;
  left :
      l.left ++ flagged (map not l.rest) (into_iter_items l.item-iterator)
      ≡ flagged (map not l.fn.flags) l.fn.items;
}
