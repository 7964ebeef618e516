use Rattle.std.proofs.Common.{◌≡◌, ◌++◌, drop, map}
use Rattle.export_sink.specs.Left.{notes_by}
use Rattle.plain_legs.specs.Views.{outcome_of}
use Rattle.export_sink.proofs.notes.push_notes.Given as goal

-- what was noted, then what is left to note, is the whole
abbrev pub invariant-loop-index : goal.invariant-loop-index
invariant-loop-index l =
    l.notes.items ++ notes_by l.draft l.number l.index (drop l.index l.legs) (map outcome_of l.left)
    ≡ l.initial.notes.items ++ notes_by l.draft l.number 0 l.legs (map outcome_of l.fn.left)
