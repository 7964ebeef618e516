use Rattle.leg_model.proofs.Replaying.{nothing_legal}
use Rattle.leg_model.proofs.history_laws.histories_begin_empty.Goals as goal
use Rattle.std.proofs.Common.{refl}

pub returns-clause-legal : goal.returns-clause-legal
returns-clause-legal c = nothing_legal

pub returns-clause-replay : goal.returns-clause-replay
returns-clause-replay c = λ number. refl
