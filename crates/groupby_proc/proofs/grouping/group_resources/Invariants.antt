use Rattle.std.proofs.Common.{◌≡◌, ◌++◌, map}
use Rattle.std.specs.Vec.Iter.{into_iter_items}
use Rattle.pdata_tree.specs.Grouping.{same_resource}
use Rattle.groupby_proc.specs.Gathering.{gathered}
use Rattle.groupby_proc.specs.Placing.{resource_tree}
use Rattle.groupby_proc.proofs.grouping.group_resources.Given as goal

-- the resources so far, then those left, are all
abbrev pub invariant-loop-node : goal.invariant-loop-node
invariant-loop-node l =
    l.resources ++ map resource_tree (into_iter_items l.node-iterator) ≡ map resource_tree (gathered same_resource l.fn.records)
