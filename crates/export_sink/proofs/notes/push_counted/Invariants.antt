use Rattle.std.proofs.Common.{◌≡◌, ◌++◌, drop, map}
use Rattle.leg_model.specs.Notes.{counted_text}
use Rattle.export_sink.proofs.notes.push_counted.Given as goal

-- what was noted, then what is left to note, is the whole
abbrev pub invariant-loop-error : goal.invariant-loop-error
invariant-loop-error l =
    l.notes.items ++ counted_text l.head (map (λ name. name.now) l.names) (drop l.error-index l.errors)
    ≡ l.initial.notes.items ++ counted_text l.head (map (λ name. name.now) l.names) l.errors
