use Rattle.std.proofs.Common.{◌≡◌}
use Rattle.serde_json.specs.View.{members_view}
use Rattle.conf_shape.specs.Path.{pointer_of}
use Rattle.conf_shape.specs.Rows.{rows_in}
use Rattle.conf_shape.specs.Shape.{unknown_fault}
use Rattle.conf_shape.proofs.shape.check_listed.Given as goal

-- the members left answer as all of them do
abbrev pub invariant-loop-name : goal.invariant-loop-name
invariant-loop-name l =
    unknown_fault (rows_in l.listed) (pointer_of l.path) (members_view l.name-iterator)
    ≡ unknown_fault (rows_in l.listed) (pointer_of l.path) (members_view l.members.entries)
