use Rattle.std.proofs.Common.{◌≡◌, ◌++◌, drop}
use Rattle.pdata_tree.specs.Places.{scope_places}
use Rattle.proc_targets.proofs.places.push_scopes.Given as goal

-- the places so far, then those of the scopes left, are all of them
abbrev pub invariant-loop-number : goal.invariant-loop-number
invariant-loop-number l =
    l.places ++ scope_places l.resource l.number (drop l.number l.scopes)
    ≡ l.initial.places ++ scope_places l.resource 0 l.scopes
