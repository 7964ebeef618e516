use Rattle.std.proofs.Common.{◌≡◌, take}
use Rattle.conf_json.proofs.account.NoteBook.copy.Given as goal

-- the notes so far are copied
abbrev pub invariant-loop-note : goal.invariant-loop-note
invariant-loop-note l = l.kept.items ≡ take l.note-index l.notes
