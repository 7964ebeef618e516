use Rattle.std.proofs.Common.{◌≡◌, take}
use Rattle.pdata_tree.proofs.scope.ScopeTree.copy.Given as goal

abbrev pub invariant-loop-log : goal.invariant-loop-log
invariant-loop-log l = l.logs ≡ take l.log-index l.log-items
