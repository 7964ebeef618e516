use Rattle.ottl_parse.proofs.Spelled.{statement-faults, condition-faults}
use Rattle.ottl_parse.proofs.laws.faults_stand_behind_viable_prefixes.Goals as goal

pub returns-clause-statements : goal.returns-clause-statements
returns-clause-statements c = statement-faults

pub returns-clause-conditions : goal.returns-clause-conditions
returns-clause-conditions c = condition-faults
