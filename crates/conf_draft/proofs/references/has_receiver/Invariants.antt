use Rattle.std.proofs.Common.{◌≡◌, drop}
use Rattle.std.specs.List.{list_any}
use Rattle.conf_draft.specs.References.{is_among}
use Rattle.conf_draft.proofs.references.has_receiver.Given as goal

-- those left answer as all of them do
abbrev pub invariant-loop-name : goal.invariant-loop-name
invariant-loop-name l = list_any (λ name. is_among name l.draft.receivers) (drop l.name-index l.names) ≡ list_any (λ name. is_among name l.draft.receivers) l.names
