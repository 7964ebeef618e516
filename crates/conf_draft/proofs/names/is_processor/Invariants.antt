use Rattle.std.proofs.Common.{◌≡◌, drop}
use Rattle.std.specs.List.{list_any}
use Rattle.std.specs.Str.{bytes_eq}
use Rattle.conf_draft.proofs.names.is_processor.Given as goal

-- those left answer as all of them do
abbrev pub invariant-loop-processor : goal.invariant-loop-processor
invariant-loop-processor l = list_any (λ p. bytes_eq l.name p.name) (drop l.processor-index l.processors) ≡ list_any (λ p. bytes_eq l.name p.name) l.processors
