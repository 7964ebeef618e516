use Rattle.std.proofs.Common.{◌≡◌, ◌++◌, length}
use Rattle.pdata_tree.specs.Selecting.{flagged}
use Rattle.tree_parts.proofs.copying.copy_logs.Given as goal

-- the copies so far and those flagged of the rest are all that are flagged
abbrev pub invariant-loop-left : goal.invariant-loop-left
invariant-loop-left l = l.copy ++ flagged l.rest l.left ≡ flagged l.fn.flags l.fn.logs

abbrev pub decreases-loop-left : goal.decreases-loop-left
decreases-loop-left l = length l.left
