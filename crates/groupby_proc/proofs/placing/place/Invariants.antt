use Rattle.std.proofs.Common.{◌≡◌, ◌++◌}
use Rattle.std.specs.Vec.Iter.{into_iter_items}
use Rattle.groupby_proc.specs.Placing.{placed_in}
use Rattle.groupby_proc.proofs.placing.place.Given as goal

-- the records so far, then those of the resources left, are all
abbrev pub invariant-loop-node : goal.invariant-loop-node
invariant-loop-node l = l.records ++ placed_in l.keys (into_iter_items l.node-iterator) ≡ placed_in l.keys l.fn.resources
