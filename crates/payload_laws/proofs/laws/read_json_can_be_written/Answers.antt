use Rattle.payload_laws.proofs.JsonWritable.{spelled_writable}
use Rattle.payload_laws.proofs.ReadUtf8.{read_utf8}
use Rattle.payload_laws.proofs.laws.read_json_can_be_written.Goals as goal

-- what is read is spelled, by UTF-8
pub returns-clause-writable : goal.returns-clause-writable
returns-clause-writable c = λ bytes depth value is.
    spelled_writable depth bytes value (c.spelled_value_is_read.ensures.read_is_spelled bytes depth value is) (read_utf8 bytes depth value is)

pub returns-clause-again : goal.returns-clause-again
returns-clause-again c = λ bytes depth value is.
    let w = returns-clause-writable c bytes depth value is in
    c.written_is_read.ensures value depth w.nesting w.numerals w.texts
