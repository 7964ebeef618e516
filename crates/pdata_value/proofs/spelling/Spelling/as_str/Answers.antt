use Rattle.std.proofs.Common.{subst}
use Rattle.pdata_value.specs.Numeral.{IsSpelling}
use Rattle.pdata_value.proofs.Numerals.{is_spelled}
use Rattle.pdata_value.proofs.spelling.Spelling.as_str.Goals as goal

pub returns-clause-spelling : goal.returns-clause-spelling
returns-clause-spelling c = subst IsSpelling c.self.view_is (is_spelled c.self.inside.text c.self.invariant)
