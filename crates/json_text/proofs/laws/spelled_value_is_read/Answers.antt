use Rattle.json_text.proofs.ValueRead.{value_back}
use Rattle.json_text.proofs.ValueSpelled.{value_spelled}
use Rattle.json_text.proofs.laws.spelled_value_is_read.Goals as goal

pub returns-clause-read_is_spelled : goal.returns-clause-read_is_spelled
returns-clause-read_is_spelled c = value_spelled

pub returns-clause-spelled_is_read : goal.returns-clause-spelled_is_read
returns-clause-spelled_is_read c = value_back
