use Rattle.std.proofs.Common.{◌≡◌, ◌+◌, drop}
use Rattle.pdata_tree.specs.Tree.{records_of_resources}
use Rattle.plain_legs.proofs.counting.count_in.Given as goal

-- those that were counted, and those that are left, are all
abbrev pub invariant-loop-resource : goal.invariant-loop-resource
invariant-loop-resource l = l.count + records_of_resources (drop l.resource-index l.resources) ≡ records_of_resources l.resources
