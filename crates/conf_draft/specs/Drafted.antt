-- What a configuration spells, or its first fault apart from those of its statements and legs.
use Rattle.std.specs.Prelude.{ℕ, List, Result}
use Rattle.conf_shape.specs.declared.fault.PointedFault.{PointedFault}
use Rattle.conf_shape.specs.Fault.{first_of, unless, ◌>>=◌}
use Rattle.conf_shape.specs.Shaped.{shaped}
use Rattle.conf_draft.specs.declared.draft.Draft.{Draft}
use Rattle.conf_draft.specs.Draft.{draft_of}
use Rattle.conf_draft.specs.References.{references_fault}
use Rattle.conf_draft.specs.Limits.{limits_fault}

-- its JSON and its shape come first, then the names that are cited, then numbers and paths
unfoldable pub drafted : List ℕ → Result Draft PointedFault
drafted bytes =
    shaped bytes >>= λ d.
    unless (first_of (references_fault (draft_of d)) (limits_fault (draft_of d))) (draft_of d)
