use Rattle.leg_model.proofs.Balances.{leg-fails}
use Rattle.leg_model.proofs.Handing.{failed_hands_empty, under_failed}
use Rattle.leg_model.proofs.leg_laws.failed_legs_hand_on_nothing.Goals as goal

pub returns-clause-whole : goal.returns-clause-whole
returns-clause-whole c = leg-fails

pub returns-clause-hands : goal.returns-clause-hands
returns-clause-hands c = failed_hands_empty

pub returns-clause-below : goal.returns-clause-below
returns-clause-below c = under_failed
