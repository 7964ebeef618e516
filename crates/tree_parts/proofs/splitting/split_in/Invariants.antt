use Rattle.std.proofs.Common.{◌≡◌, ◌++◌, map, not}
use Rattle.std.specs.Vec.Iter.{into_iter_items}
use Rattle.pdata_tree.specs.Selecting.{kept_in}
use Rattle.tree_parts.proofs.splitting.split_in.Given as goal

-- the parts so far and those of the rest are all
abbrev pub invariant-loop-resource : goal.invariant-loop-resource
invariant-loop-resource l = record {
  taken : l.parts.0 ++ kept_in l.rest (into_iter_items l.resource-iterator) ≡ kept_in l.fn.flags l.fn.resources;
  left :
      l.parts.1 ++ kept_in (map not l.rest) (into_iter_items l.resource-iterator)
      ≡ kept_in (map not l.fn.flags) l.fn.resources;
}
