use Rattle.statement_laws.proofs.Law.{statements-parsed, conditions-parsed}
use Rattle.statement_laws.proofs.laws.what_is_spelled_is_parsed.Goals as goal

pub returns-clause-statements : goal.returns-clause-statements
returns-clause-statements c = statements-parsed

pub returns-clause-conditions : goal.returns-clause-conditions
returns-clause-conditions c = conditions-parsed
