use Rattle.std.proofs.Common.{◌≡◌, ◌++◌, map}
use Rattle.std.specs.Vec.Iter.{into_iter_items}
use Rattle.pdata_tree.specs.Grouping.{same_scope}
use Rattle.groupby_proc.specs.Gathering.{gathered}
use Rattle.groupby_proc.specs.Placing.{scope_tree}
use Rattle.groupby_proc.proofs.grouping.group_scopes.Given as goal

-- the scopes so far, then those left, are all
abbrev pub invariant-loop-node : goal.invariant-loop-node
invariant-loop-node l =
    l.scopes ++ map scope_tree (into_iter_items l.node-iterator) ≡ map scope_tree (gathered same_scope l.fn.records)
