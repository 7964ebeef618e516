use Rattle.std.proofs.Common.{◌≡◌, ℕ, List, [], take, drop}
use Rattle.conf_shape.specs.Path.{pointer_of}
use Rattle.conf_draft.specs.References.{is_among, names_fault}
use Rattle.conf_draft.specs.Roles.{allows, unknown_kind}
use Rattle.conf_draft.specs.Seen.{has}
use Rattle.conf_draft.proofs.names.check_names.Given as goal

-- the names left answer as all of them do, and those before them were seen
abbrev pub invariant-loop-index : goal.invariant-loop-index
invariant-loop-index l =
    (names_fault (allows l.draft l.role) (unknown_kind l.role) (pointer_of l.path) (take l.index l.names) (drop l.index l.names)
    ≡ names_fault (allows l.draft l.role) (unknown_kind l.role) (pointer_of l.path) [] l.names)
    × ((q : List ℕ) → has l.seen q ≡ is_among q (take l.index l.names))
