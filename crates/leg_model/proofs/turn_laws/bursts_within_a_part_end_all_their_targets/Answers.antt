use Rattle.leg_model.proofs.Counting.{filter_burst_counts, transform_burst_counts}
use Rattle.leg_model.proofs.turn_laws.bursts_within_a_part_end_all_their_targets.Goals as goal

pub returns-clause-transform : goal.returns-clause-transform
returns-clause-transform c = transform_burst_counts

pub returns-clause-filter : goal.returns-clause-filter
returns-clause-filter c = filter_burst_counts
