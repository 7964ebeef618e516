use Rattle.json_text.proofs.Utf8.{written_read}
use Rattle.json_text.proofs.laws.written_is_read.Goals as goal

pub returns : goal.returns
returns c = written_read
