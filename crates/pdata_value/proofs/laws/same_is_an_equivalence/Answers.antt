use Rattle.pdata_value.proofs.Equivalence.{same_itself, same_back, same_on}
use Rattle.pdata_value.proofs.laws.same_is_an_equivalence.Goals as goal

pub returns-clause-itself : goal.returns-clause-itself
returns-clause-itself c = same_itself

pub returns-clause-back : goal.returns-clause-back
returns-clause-back c = same_back

pub returns-clause-on : goal.returns-clause-on
returns-clause-on c = same_on
