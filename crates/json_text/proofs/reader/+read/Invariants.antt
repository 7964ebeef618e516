use Rattle.std.proofs.Common.{◌≤◌, ◌<◌, ◌+◌, ◌*◌, ℕ, length}
use Rattle.json_text.specs.Reading.{value, member}
use Rattle.json_text.proofs.Turns.{ElementsSoFar}
use Rattle.json_text.proofs.reader.+read.Given as goal

abbrev pub decreases-value_of : goal.decreases-value_of
decreases-value_of l = 3 * l.depth

abbrev pub decreases-items_of : goal.decreases-items_of
decreases-items_of l = 3 * l.depth + 1

abbrev pub decreases-member_of : goal.decreases-member_of
decreases-member_of l = 3 * l.depth + 1

abbrev pub decreases-members_of : goal.decreases-members_of
decreases-members_of l = 3 * l.depth + 2

abbrev pub invariant-items_of-items : goal.invariant-items_of-items
invariant-items_of-items l = (length l.cursor.left ≤ length l.fn.cursor.left)
    × ((n : ℕ) → length l.fn.cursor.left < n → ElementsSoFar (value l.depth) 93 n l.fn.cursor l.found l.cursor)

abbrev pub decreases-items_of-items : goal.decreases-items_of-items
decreases-items_of-items l = length l.cursor.left

abbrev pub invariant-members_of-members : goal.invariant-members_of-members
invariant-members_of-members l = (length l.cursor.left ≤ length l.fn.cursor.left)
    × ((n : ℕ) → length l.fn.cursor.left < n → ElementsSoFar (member (value l.depth)) 125 n l.fn.cursor l.found l.cursor)

abbrev pub decreases-members_of-members : goal.decreases-members_of-members
decreases-members_of-members l = length l.cursor.left
