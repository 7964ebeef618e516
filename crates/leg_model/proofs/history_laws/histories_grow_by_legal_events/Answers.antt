use Rattle.leg_model.proofs.Replaying.{before_legal, burst_left, one_more}
use Rattle.leg_model.proofs.history_laws.histories_grow_by_legal_events.Goals as goal

pub returns-clause-event : goal.returns-clause-event
returns-clause-event c = one_more

pub returns-clause-burst : goal.returns-clause-burst
returns-clause-burst c = burst_left

pub returns-clause-front : goal.returns-clause-front
returns-clause-front c = before_legal
