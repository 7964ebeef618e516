use Rattle.std.proofs.Common.{◌+◌, ◌*◌, length}
use Rattle.pdata_tree.proofs.putting.+below.Given as goal

-- each call for the keys left, and before it those that lead to it

abbrev pub decreases-put_below : goal.decreases-put_below
decreases-put_below l = 3 * length l.keys.now

abbrev pub decreases-put_name : goal.decreases-put_name
decreases-put_name l = 3 * length l.keys.now + 2

abbrev pub decreases-put_in_map : goal.decreases-put_in_map
decreases-put_in_map l = 3 * length l.keys.now + 1

abbrev pub decreases-put_index : goal.decreases-put_index
decreases-put_index l = 3 * length l.keys.now + 1
