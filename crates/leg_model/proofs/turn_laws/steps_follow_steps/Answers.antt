use Rattle.leg_model.proofs.Lengths.{steps_go_on}
use Rattle.leg_model.proofs.turn_laws.steps_follow_steps.Goals as goal

pub returns : goal.returns
returns c = steps_go_on
