use Rattle.statement_laws.proofs.Law.{statement-fronts, condition-fronts}
use Rattle.statement_laws.proofs.laws.unexpected_stands_behind_the_longest_prefix.Goals as goal

pub returns-clause-statements : goal.returns-clause-statements
returns-clause-statements c = statement-fronts

pub returns-clause-conditions : goal.returns-clause-conditions
returns-clause-conditions c = condition-fronts
