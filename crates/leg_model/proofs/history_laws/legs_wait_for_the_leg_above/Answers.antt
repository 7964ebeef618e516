use Rattle.leg_model.proofs.Replaying.{waits}
use Rattle.leg_model.proofs.history_laws.legs_wait_for_the_leg_above.Goals as goal

pub returns : goal.returns
returns c = waits
