use Rattle.std.proofs.Common.{◌≡◌, ◌++◌}
use Rattle.std.specs.Vec.Iter.{into_iter_items}
use Rattle.groupby_proc.specs.Placing.{placed_scopes}
use Rattle.groupby_proc.proofs.placing.place_scopes.Given as goal

-- the records so far, then those of the scopes left, are all
abbrev pub invariant-loop-node : goal.invariant-loop-node
invariant-loop-node l =
    l.records ++ placed_scopes l.keys l.resource (into_iter_items l.node-iterator)
    ≡ l.fn.records ++ placed_scopes l.keys l.resource l.fn.scopes
