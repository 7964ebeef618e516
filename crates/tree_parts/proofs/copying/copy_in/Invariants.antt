use Rattle.std.proofs.Common.{◌≡◌, ◌++◌, length}
use Rattle.pdata_tree.specs.Selecting.{kept_in}
use Rattle.tree_parts.proofs.copying.copy_in.Given as goal

-- what is kept so far and of the rest is all that is kept
abbrev pub invariant-loop-left : goal.invariant-loop-left
invariant-loop-left l = l.copy ++ kept_in l.rest l.left ≡ kept_in l.fn.flags l.fn.resources

abbrev pub decreases-loop-left : goal.decreases-loop-left
decreases-loop-left l = length l.left
