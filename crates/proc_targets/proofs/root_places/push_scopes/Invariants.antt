use Rattle.std.proofs.Common.{◌≡◌, ◌++◌, ◌≤◌, ◌-◌, drop, length}
use Rattle.pdata_tree.specs.Places.{scope_places}
use Rattle.share_cow.specs.Views.{scopes_in}
use Rattle.proc_targets.proofs.root_places.push_scopes.Given as goal

-- the places so far, then those of the scopes left, are all of them
abbrev pub invariant-scopes : goal.invariant-scopes
invariant-scopes l = record {
  whole :
      l.places ++ scope_places l.resource l.scope (drop l.scope (scopes_in l.view l.resource))
      ≡ l.initial.places ++ scope_places l.resource 0 (scopes_in l.view l.resource);
  within : l.scope ≤ length (scopes_in l.view l.resource);
}

abbrev pub decreases-scopes : goal.decreases-scopes
decreases-scopes l = length (scopes_in l.view l.resource) - l.scope
