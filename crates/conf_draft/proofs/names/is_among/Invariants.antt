use Rattle.std.proofs.Common.{◌≡◌, drop}
use Rattle.conf_draft.specs.References.{is_among}
use Rattle.conf_draft.proofs.names.is_among.Given as goal

-- the names left answer as all of them do
abbrev pub invariant-loop-other : goal.invariant-loop-other
invariant-loop-other l =
    is_among l.name (drop l.other-index l.names) ≡ is_among l.name l.names
