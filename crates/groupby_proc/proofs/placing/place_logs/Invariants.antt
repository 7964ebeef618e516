use Rattle.std.proofs.Common.{◌≡◌, ◌++◌}
use Rattle.std.specs.Vec.Iter.{into_iter_items}
use Rattle.groupby_proc.specs.Placing.{placed_logs}
use Rattle.groupby_proc.proofs.placing.place_logs.Given as goal

-- the records so far, then those left, are all
abbrev pub invariant-loop-log : goal.invariant-loop-log
invariant-loop-log l =
    l.records ++ placed_logs l.keys l.resource l.scope (into_iter_items l.log-iterator)
    ≡ l.fn.records ++ placed_logs l.keys l.resource l.scope l.fn.logs
