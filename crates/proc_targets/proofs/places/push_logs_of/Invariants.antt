use Rattle.std.proofs.Common.{◌≡◌, ◌++◌, drop}
use Rattle.pdata_tree.specs.Places.{logs_of_scopes}
use Rattle.proc_targets.proofs.places.push_logs_of.Given as goal

-- the places so far, then those of the scopes left, are all of them
abbrev pub invariant-loop-number : goal.invariant-loop-number
invariant-loop-number l =
    l.places ++ logs_of_scopes l.resource l.number (drop l.number l.scopes)
    ≡ l.initial.places ++ logs_of_scopes l.resource 0 l.scopes
