use Rattle.leg_model.proofs.Replaying.{may_have_turn}
use Rattle.leg_model.proofs.history_laws.legs_may_have_their_turn.Goals as goal

pub returns : goal.returns
returns c = may_have_turn
