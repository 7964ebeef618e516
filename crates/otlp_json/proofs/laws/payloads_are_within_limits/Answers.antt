use Rattle.otlp_json.proofs.TreesMeasured.{payload-within}
use Rattle.otlp_json.proofs.laws.payloads_are_within_limits.Goals as goal

pub returns : goal.returns
returns c = payload-within
