use Rattle.leg_model.proofs.Lengths.{length_of_bare, length_of_nothing, length_some, length_unique, over_from, over_not_before}
use Rattle.leg_model.proofs.turn_laws.legs_have_a_length.Goals as goal

pub returns-clause-one : goal.returns-clause-one
returns-clause-one c = length_unique

pub returns-clause-some : goal.returns-clause-some
returns-clause-some c = length_some

pub returns-clause-nothing : goal.returns-clause-nothing
returns-clause-nothing c = length_of_nothing

pub returns-clause-bare : goal.returns-clause-bare
returns-clause-bare c = length_of_bare

pub returns-clause-over : goal.returns-clause-over
returns-clause-over c = over_from

pub returns-clause-before : goal.returns-clause-before
returns-clause-before c = over_not_before
