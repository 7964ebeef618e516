use Rattle.std.proofs.Common.{◌≡◌, ◌++◌, drop}
use Rattle.pdata_tree.specs.Places.{log_places}
use Rattle.proc_targets.proofs.places.push_logs.Given as goal

-- the places so far, then those of the log records left, are all of them
abbrev pub invariant-loop-number : goal.invariant-loop-number
invariant-loop-number l =
    l.places ++ log_places l.resource l.scope l.number (drop l.number l.logs)
    ≡ l.initial.places ++ log_places l.resource l.scope 0 l.logs
