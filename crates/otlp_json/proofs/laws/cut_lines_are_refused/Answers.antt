use Rattle.std.proofs.Common.{ap}
use Rattle.json_text.proofs.CutObjects.{cut_refused, bad_utf8}
use Rattle.otlp_json.specs.Limits.{most_containers}
use Rattle.otlp_json.specs.Payload.{payload_of, payload}
use Rattle.otlp_json.proofs.laws.cut_lines_are_refused.Goals as goal

pub returns-clause-between : goal.returns-clause-between
unfolding payload
returns-clause-between c = λ front rest value members read some utf8. ap payload_of (cut_refused front rest most_containers value members some read utf8)

pub returns-clause-within : goal.returns-clause-within
unfolding payload
returns-clause-within c = λ front at valid. ap payload_of (bad_utf8 front most_containers at valid)
