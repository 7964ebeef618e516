use Rattle.std.proofs.Common.{◌≡◌, ◌++◌, drop, length}
use Rattle.pdata_tree.specs.Selecting.{kept_scopes}
use Rattle.pdata_tree.specs.Tree.{records_of_scopes}
use Rattle.tree_parts.proofs.copying.copy_scopes.Given as goal

-- what is kept so far and of the rest is all that is kept
abbrev pub invariant-loop-left : goal.invariant-loop-left
invariant-loop-left l = record {
  copy : l.copy ++ kept_scopes l.rest l.left ≡ kept_scopes l.fn.flags l.fn.scopes;
  rest : drop (records_of_scopes l.left) l.rest ≡ drop (records_of_scopes l.fn.scopes) l.fn.flags;
}

abbrev pub decreases-loop-left : goal.decreases-loop-left
decreases-loop-left l = length l.left
