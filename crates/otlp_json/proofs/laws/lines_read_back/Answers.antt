use Rattle.otlp_json.proofs.ReadBack.{line-back}
use Rattle.otlp_json.proofs.laws.lines_read_back.Goals as goal

pub returns : goal.returns
returns c = line-back
