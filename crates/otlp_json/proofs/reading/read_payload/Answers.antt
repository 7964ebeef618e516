use Rattle.std.proofs.Common.{◌∙◌, ap}
use Rattle.json_text.proofs.Values.{json_text-utf8}
use Rattle.otlp_json.specs.Limits.{most_containers}
use Rattle.otlp_json.specs.Payload.{payload_of, payload}
use Rattle.otlp_json.proofs.reading.read_payload.Goals as goal

pub returns-in-Ok-read_direct : goal.returns-in-Ok-read_direct
unfolding payload
returns-in-Ok-read_direct c = record {
  value = ap payload_of (json_text-utf8 c.in-Ok.text.now c.args.line.now c.in-Ok.ensures.cases.0 c.in-Ok.ensures.cases.1 most_containers) ∙ c.in-Ok-read_direct.ensures;
}
