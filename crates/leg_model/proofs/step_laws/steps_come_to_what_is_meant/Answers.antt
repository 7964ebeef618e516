use Rattle.leg_model.proofs.Ending.{has_length, length_leaves, step_leaves}
use Rattle.leg_model.proofs.step_laws.steps_come_to_what_is_meant.Goals as goal

pub returns-clause-ends : goal.returns-clause-ends
returns-clause-ends c = has_length

pub returns-clause-end : goal.returns-clause-end
returns-clause-end c = length_leaves

pub returns-clause-step : goal.returns-clause-step
returns-clause-step c = step_leaves
