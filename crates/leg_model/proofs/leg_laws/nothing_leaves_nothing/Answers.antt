use Rattle.leg_model.proofs.Handing.{empty_leaves_nothing, under_empty}
use Rattle.leg_model.proofs.leg_laws.nothing_leaves_nothing.Goals as goal

pub returns-clause-own : goal.returns-clause-own
returns-clause-own c = empty_leaves_nothing

pub returns-clause-below : goal.returns-clause-below
returns-clause-below c = under_empty
