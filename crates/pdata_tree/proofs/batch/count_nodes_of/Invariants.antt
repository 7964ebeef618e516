use Rattle.std.proofs.Common.{◌≡◌, ◌+◌, drop}
use Rattle.pdata_tree.specs.Tree.{nodes_of_scopes}
use Rattle.pdata_tree.proofs.batch.count_nodes_of.Given as goal

-- those counted and those left are all
abbrev pub invariant-loop-scope : goal.invariant-loop-scope
invariant-loop-scope l = l.count + nodes_of_scopes (drop l.scope-index l.scopes) ≡ nodes_of_scopes l.scopes
