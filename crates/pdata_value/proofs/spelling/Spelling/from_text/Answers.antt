use Rattle.pdata_value.proofs.Numerals.{spelled_is}
use Rattle.pdata_value.proofs.spelling.Spelling.from_text.Goals as goal

pub invariant_of-result : goal.invariant_of-result
invariant_of-result c = spelled_is c.args.text c.requires
