use Rattle.std.proofs.Common.{◌≡◌, ◌++◌, length}
use Rattle.pdata_tree.specs.Selecting.{flagged}
use Rattle.share_cow.proofs.parting.flagged_places.Given as goal

-- the places so far and those flagged of the rest are all that are flagged
abbrev pub invariant-loop-left : goal.invariant-loop-left
invariant-loop-left l = l.kept ++ flagged l.rest l.left ≡ flagged l.fn.flags l.fn.places

abbrev pub decreases-loop-left : goal.decreases-loop-left
decreases-loop-left l = length l.left
