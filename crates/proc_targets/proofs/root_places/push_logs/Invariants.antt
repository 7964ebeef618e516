use Rattle.std.proofs.Common.{◌≡◌, ◌++◌, ◌≤◌, ◌-◌, drop, length}
use Rattle.pdata_tree.specs.Places.{log_places}
use Rattle.share_cow.specs.Views.{logs_in}
use Rattle.proc_targets.proofs.root_places.push_logs.Given as goal

-- the places so far, then those of the log records left, are all of them
abbrev pub invariant-logs : goal.invariant-logs
invariant-logs l = record {
  whole :
      l.places ++ log_places l.resource l.scope l.log (drop l.log (logs_in l.view l.resource l.scope))
      ≡ l.initial.places ++ log_places l.resource l.scope 0 (logs_in l.view l.resource l.scope);
  within : l.log ≤ length (logs_in l.view l.resource l.scope);
}

abbrev pub decreases-logs : goal.decreases-logs
decreases-logs l = length (logs_in l.view l.resource l.scope) - l.log
