use Rattle.std.proofs.Common.{◌≡◌, ◌+◌, drop}
use Rattle.pdata_tree.specs.Tree.{nodes_of_resources}
use Rattle.pdata_tree.proofs.batch.Batch.count_nodes.Given as goal

-- those counted and those left are all
abbrev pub invariant-loop-resource : goal.invariant-loop-resource
invariant-loop-resource l = l.count + nodes_of_resources (drop l.resource-index l.resource-items) ≡ 1 + nodes_of_resources l.resource-items
