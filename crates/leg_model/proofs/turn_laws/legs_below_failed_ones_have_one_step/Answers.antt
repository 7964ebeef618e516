use Rattle.leg_model.proofs.Lengths.{length_under_failed}
use Rattle.leg_model.proofs.turn_laws.legs_below_failed_ones_have_one_step.Goals as goal

pub returns : goal.returns
returns c = length_under_failed
