use Rattle.std.proofs.Common.{◌≡◌, take}
use Rattle.pdata_tree.proofs.batch.Batch.copy.Given as goal

abbrev pub invariant-loop-resource : goal.invariant-loop-resource
invariant-loop-resource l = l.resources ≡ take l.resource-index l.resource-items
