use Rattle.std.proofs.Common.{◌≡◌, drop}
use Rattle.serde_json.specs.View.{members_view}
use Rattle.conf_shape.specs.Path.{pointer_of}
use Rattle.conf_shape.specs.Rows.{rows_in}
use Rattle.conf_shape.specs.Shape.{absent_fault}
use Rattle.conf_shape.proofs.shape.check_present.Given as goal

-- the rows left answer as all of them do
abbrev pub invariant-loop-row : goal.invariant-loop-row
invariant-loop-row l =
    absent_fault (rows_in (drop l.row-index l.listed)) (pointer_of l.path) (members_view l.members.entries)
    ≡ absent_fault (rows_in l.listed) (pointer_of l.path) (members_view l.members.entries)
