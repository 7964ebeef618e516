use Rattle.std.proofs.Common.{◌≡◌, drop}
use Rattle.conf_shape.specs.Path.{pointer_of}
use Rattle.conf_draft.specs.References.{connectors_fault}
use Rattle.conf_draft.proofs.references.check_connectors.Given as goal

-- those left answer as all of them do
abbrev pub invariant-loop-connector : goal.invariant-loop-connector
invariant-loop-connector l =
    connectors_fault l.draft (pointer_of l.path) (drop l.connector-index l.connectors)
    ≡ connectors_fault l.draft (pointer_of l.path) l.connectors
