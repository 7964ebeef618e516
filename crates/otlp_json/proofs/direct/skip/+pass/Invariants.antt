use Rattle.std.proofs.Common.{◌+◌, ◌*◌, length}
use Rattle.otlp_json.proofs.Skipping.{ItemsSkipped, MembersSkipped}
use Rattle.otlp_json.proofs.direct.skip.+pass.Given as goal

abbrev pub decreases-pass : goal.decreases-pass
decreases-pass l = 2 * l.depth + 1

abbrev pub decreases-pass_object : goal.decreases-pass_object
decreases-pass_object l = 2 * l.depth

abbrev pub decreases-pass_list : goal.decreases-pass_list
decreases-pass_list l = 2 * l.depth

-- what was passed stands in the container
abbrev pub invariant-pass_object-loop-more : goal.invariant-pass_object-loop-more
invariant-pass_object-loop-more l = MembersSkipped l.depth l.fn.direct l.more l.direct

abbrev pub decreases-pass_object-loop-more : goal.decreases-pass_object-loop-more
decreases-pass_object-loop-more l = length l.direct.cursor.left

abbrev pub invariant-pass_list-loop-more : goal.invariant-pass_list-loop-more
invariant-pass_list-loop-more l = ItemsSkipped l.depth l.fn.direct l.more l.direct

abbrev pub decreases-pass_list-loop-more : goal.decreases-pass_list-loop-more
decreases-pass_list-loop-more l = length l.direct.cursor.left
