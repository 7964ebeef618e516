use Rattle.std.proofs.Common.{◌≡◌, drop}
use Rattle.conf_shape.specs.Path.{pointer_of}
use Rattle.conf_draft.specs.References.{rows_fault}
use Rattle.conf_draft.proofs.references.check_rows.Given as goal

-- the rows left answer as all of them do
abbrev pub invariant-loop-index : goal.invariant-loop-index
invariant-loop-index l =
    rows_fault l.draft l.connector (pointer_of l.path) l.index (drop l.index l.rows)
    ≡ rows_fault l.draft l.connector (pointer_of l.path) 0 l.rows
