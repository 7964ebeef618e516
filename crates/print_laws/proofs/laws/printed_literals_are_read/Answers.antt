use Rattle.print_laws.proofs.Literals.{texts_stay, numbers_stay, bytes_stay}
use Rattle.print_laws.proofs.laws.printed_literals_are_read.Goals as goal

pub returns-clause-texts : goal.returns-clause-texts
returns-clause-texts c = texts_stay

pub returns-clause-numbers : goal.returns-clause-numbers
returns-clause-numbers c = numbers_stay

pub returns-clause-bytes : goal.returns-clause-bytes
returns-clause-bytes c = bytes_stay
