use Rattle.leg_model.proofs.Stating.{states_even, states_long}
use Rattle.leg_model.proofs.turn_laws.statements_take_a_step_for_each_target.Goals as goal

pub returns-clause-long : goal.returns-clause-long
returns-clause-long c = states_long

pub returns-clause-even : goal.returns-clause-even
returns-clause-even c = states_even
