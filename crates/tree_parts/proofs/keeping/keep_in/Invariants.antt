use Rattle.std.proofs.Common.{◌≡◌, ◌++◌}
use Rattle.std.specs.Vec.Iter.{into_iter_items}
use Rattle.pdata_tree.specs.Selecting.{kept_in}
use Rattle.tree_parts.proofs.keeping.keep_in.Given as goal

-- what is kept so far and of the rest is all that is kept
abbrev pub invariant-loop-resource : goal.invariant-loop-resource
invariant-loop-resource l = l.part ++ kept_in l.rest (into_iter_items l.resource-iterator) ≡ kept_in l.fn.flags l.fn.resources
