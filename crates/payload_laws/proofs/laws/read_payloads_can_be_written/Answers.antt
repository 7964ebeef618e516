use Rattle.otlp_json.specs.Limits.{most_containers}
use Rattle.payload_laws.proofs.ReadTrees.{read-is}
use Rattle.payload_laws.proofs.laws.read_payloads_can_be_written.Goals as goal

-- what is read as JSON is writable
pub returns-clause-writable : goal.returns-clause-writable
returns-clause-writable c = read-is (λ line json is.
    let w = c.read_json_can_be_written.ensures.writable line most_containers json is in
    record { numerals = w.numerals; texts = w.texts })

pub returns-clause-again : goal.returns-clause-again
returns-clause-again c = λ text batch is. c.lines_read_back.ensures batch (returns-clause-writable c text batch is)
