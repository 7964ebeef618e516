use Rattle.std.proofs.Common.{◌≡◌, ◌++◌, ◌≤◌, ◌-◌, drop, length}
use Rattle.pdata_tree.specs.Places.{targets, targets_from}
use Rattle.proc_targets.proofs.root_places.list_targets_of.Given as goal

-- the places so far, then those in the resources left, are all of them
abbrev pub invariant-resources : goal.invariant-resources
invariant-resources l = record {
  whole : l.places ++ targets_from l.context l.resource (drop l.resource l.view.resources) ≡ targets l.view l.context;
  within : l.resource ≤ length l.view.resources;
}

abbrev pub decreases-resources : goal.decreases-resources
decreases-resources l = length l.view.resources - l.resource
