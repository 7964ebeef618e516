use Rattle.std.proofs.Common.{◌≡◌, ◌++◌}
use Rattle.std.specs.Vec.Iter.{into_iter_items}
use Rattle.pdata_tree.specs.Selecting.{flagged}
use Rattle.tree_parts.proofs.flags.keep.Given as goal

-- the items so far and those flagged of the rest are all that are flagged
abbrev pub invariant-loop-item : goal.invariant-loop-item
invariant-loop-item g l = l.kept ++ flagged l.rest (into_iter_items l.item-iterator) ≡ flagged l.fn.flags l.fn.items
