use Rattle.leg_model.proofs.Turning.{one_step_burst, stops_behind_filter, stops_behind_transform}
use Rattle.leg_model.proofs.turn_laws.bursts_end_with_their_part.Goals as goal

pub returns-clause-one_step : goal.returns-clause-one_step
returns-clause-one_step c = one_step_burst

pub returns-clause-transform : goal.returns-clause-transform
returns-clause-transform c = stops_behind_transform

pub returns-clause-filter : goal.returns-clause-filter
returns-clause-filter c = stops_behind_filter
