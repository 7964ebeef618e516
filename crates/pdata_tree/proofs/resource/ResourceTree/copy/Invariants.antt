use Rattle.std.proofs.Common.{◌≡◌, take}
use Rattle.pdata_tree.proofs.resource.ResourceTree.copy.Given as goal

abbrev pub invariant-loop-scope : goal.invariant-loop-scope
invariant-loop-scope l = l.scopes ≡ take l.scope-index l.scope-items
