use Rattle.leg_model.proofs.Replaying.{replay-event, replay-others}
use Rattle.leg_model.proofs.history_laws.events_count_for_their_leg.Goals as goal

pub returns-clause-own : goal.returns-clause-own
returns-clause-own c = replay-event

pub returns-clause-others : goal.returns-clause-others
returns-clause-others c = replay-others
