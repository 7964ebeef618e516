use Rattle.leg_model.proofs.Replaying.{replay-swap, swapped}
use Rattle.leg_model.proofs.history_laws.events_may_change_places.Goals as goal

pub returns-clause-replay : goal.returns-clause-replay
returns-clause-replay c = replay-swap

pub returns-clause-legal : goal.returns-clause-legal
returns-clause-legal c = λ conf tree before after a b legal apart. swapped conf tree before after a b legal apart
