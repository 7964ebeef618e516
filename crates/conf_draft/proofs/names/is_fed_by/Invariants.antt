use Rattle.std.proofs.Common.{◌≡◌, ◌&&◌, drop}
use Rattle.std.specs.List.{list_any}
use Rattle.std.specs.Str.{bytes_eq}
use Rattle.conf_draft.specs.References.{is_among}
use Rattle.conf_draft.proofs.names.is_fed_by.Given as goal

-- those left answer as all of them do
abbrev pub invariant-loop-pipeline : goal.invariant-loop-pipeline
invariant-loop-pipeline l = list_any (λ p. bytes_eq l.name p.name && is_among l.connector p.receivers) (drop l.pipeline-index l.pipelines) ≡ list_any (λ p. bytes_eq l.name p.name && is_among l.connector p.receivers) l.pipelines
