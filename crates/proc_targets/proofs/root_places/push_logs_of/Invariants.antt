use Rattle.std.proofs.Common.{◌≡◌, ◌++◌, ◌≤◌, ◌-◌, drop, length}
use Rattle.pdata_tree.specs.Places.{logs_of_scopes}
use Rattle.share_cow.specs.Views.{scopes_in}
use Rattle.proc_targets.proofs.root_places.push_logs_of.Given as goal

-- the places so far, then those in the scopes left, are all of them
abbrev pub invariant-scopes : goal.invariant-scopes
invariant-scopes l = record {
  whole :
      l.places ++ logs_of_scopes l.resource l.scope (drop l.scope (scopes_in l.view l.resource))
      ≡ l.initial.places ++ logs_of_scopes l.resource 0 (scopes_in l.view l.resource);
  within : l.scope ≤ length (scopes_in l.view l.resource);
}

abbrev pub decreases-scopes : goal.decreases-scopes
decreases-scopes l = length (scopes_in l.view l.resource) - l.scope
