use Rattle.leg_model.proofs.Replaying.{end_is_meant, over_is_end}
use Rattle.leg_model.proofs.history_laws.legs_end_with_what_is_meant.Goals as goal

pub returns-clause-end : goal.returns-clause-end
returns-clause-end c = over_is_end

pub returns-clause-result : goal.returns-clause-result
returns-clause-result c = end_is_meant
