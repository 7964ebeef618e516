use Rattle.std.proofs.Common.{◌≡◌, ◌++◌, drop}
use Rattle.pdata_tree.specs.Places.{targets, targets_from}
use Rattle.proc_targets.proofs.places.list_targets.Given as goal

-- the places so far, then those in the resources left, are all of them
abbrev pub invariant-loop-number : goal.invariant-loop-number
invariant-loop-number l =
    l.places ++ targets_from l.context l.number (drop l.number l.tree.resources) ≡ targets l.tree l.context
