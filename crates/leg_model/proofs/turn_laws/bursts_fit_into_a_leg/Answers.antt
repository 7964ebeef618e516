use Rattle.leg_model.proofs.Turning.{burst_fits, burst_unique, has_burst, short_within_whole}
use Rattle.leg_model.proofs.turn_laws.bursts_fit_into_a_leg.Goals as goal
use Rattle.leg_model.specs.Steps.{state_alone}

pub returns-clause-some : goal.returns-clause-some
returns-clause-some c = has_burst

pub returns-clause-one : goal.returns-clause-one
returns-clause-one c = burst_unique

pub returns-clause-fits : goal.returns-clause-fits
returns-clause-fits c = burst_fits

pub returns-clause-short : goal.returns-clause-short
returns-clause-short c = λ most conf tree leg done a b. short_within_whole most (state_alone conf tree leg) done a b
