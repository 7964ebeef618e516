use Rattle.std.proofs.Common.{◌≡◌, drop}
use Rattle.std.specs.List.{list_any}
use Rattle.conf_draft.specs.References.{is_among}
use Rattle.conf_draft.proofs.references.is_received_from.Given as goal

-- those left answer as all of them do
abbrev pub invariant-loop-pipeline : goal.invariant-loop-pipeline
invariant-loop-pipeline l = list_any (λ p. is_among l.connector p.receivers) (drop l.pipeline-index l.pipelines) ≡ list_any (λ p. is_among l.connector p.receivers) l.pipelines
