use Rattle.std.proofs.Common.{◌≡◌, drop}
use Rattle.std.specs.List.{list_any}
use Rattle.conf_draft.specs.References.{is_among}
use Rattle.conf_draft.proofs.references.is_fed.Given as goal

-- the pipelines left answer as all of them do
abbrev pub invariant-loop-pipeline : goal.invariant-loop-pipeline
invariant-loop-pipeline l =
    list_any (λ p. list_any (λ name. is_among name l.draft.receivers) p.receivers) (drop l.pipeline-index l.pipeline-items)
    ≡ list_any (λ p. list_any (λ name. is_among name l.draft.receivers) p.receivers) l.draft.pipelines
