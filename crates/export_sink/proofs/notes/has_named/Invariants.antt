use Rattle.std.proofs.Common.{◌≡◌, drop, map}
use Rattle.conf_draft.specs.References.{is_among}
use Rattle.export_sink.proofs.notes.has_named.Given as goal

-- those left answer as all of them do
abbrev pub invariant-loop-item : goal.invariant-loop-item
invariant-loop-item g l =
    is_among l.name (map g.N.Named.name_of (drop l.item-index l.known)) ≡ is_among l.name (map g.N.Named.name_of l.known)
