use Rattle.std.proofs.Common.{◌≡◌, ◌++◌, drop}
use Rattle.leg_model.specs.Course.{numbered}
use Rattle.plain_legs.proofs.course.push_notes.Given as goal

-- what was put, then what is left, is the whole
abbrev pub invariant-loop-note : goal.invariant-loop-note
invariant-loop-note l =
    l.notes ++ numbered l.component (drop l.note-index l.more) ≡ l.initial.notes ++ numbered l.component l.more
