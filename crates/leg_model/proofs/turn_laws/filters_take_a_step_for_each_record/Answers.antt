use Rattle.leg_model.proofs.Filtering.{judges_300, judges_many, judges_rest}
use Rattle.leg_model.proofs.turn_laws.filters_take_a_step_for_each_record.Goals as goal

pub returns-clause-many : goal.returns-clause-many
returns-clause-many c = λ conf tree leg done most s run c at here is. judges_many conf tree leg done s run c at here is most

pub returns-clause-rest : goal.returns-clause-rest
returns-clause-rest c = λ conf tree leg done most s run c at here is. judges_rest conf tree leg done s run c at here is most

pub returns-clause-short : goal.returns-clause-short
returns-clause-short c = judges_300
