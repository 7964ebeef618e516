-- What is parsed of a word is its number where it is how that number is printed.
use Rattle.std.proofs.Common.{rules}
use Rattle.std.specs.declared.num.ParseIntError.{ParseIntError}
use Rattle.collector.proofs.Numbers.{number_high, number_low, number_there, number_unparsed, number_unprinted}
use Rattle.collector.proofs.words.number_in.Goals as goal

pub returns-in-Err-clause-number : goal.returns-in-Err-clause-number
returns-in-Err-clause-number c =
    number_unparsed c.args.word.now c.args.least c.args.most c.in-Err.field-0 (search rules) c.in-Err.ensures.value.0

pub returns-then-not-is_printed-clause-number : goal.returns-then-not-is_printed-clause-number
returns-then-not-is_printed-clause-number c =
    number_unprinted ParseIntError c.args.word.now c.args.least c.args.most c.in-Ok.number (search rules) c.in-Ok.ensures.value.0 (search rules)

pub returns-then-number-least-clause-number : goal.returns-then-number-least-clause-number
returns-then-number-least-clause-number c =
    number_low c.args.word.now c.args.least c.args.most c.in-Ok.number (search rules) (search rules) (search rules)

pub returns-then-most-number-clause-number : goal.returns-then-most-number-clause-number
returns-then-most-number-clause-number c =
    number_high c.args.word.now c.args.least c.args.most c.in-Ok.number (search rules) (search rules) (search rules)

pub returns-clause-number : goal.returns-clause-number
returns-clause-number c =
    number_there c.args.word.now c.args.least c.args.most c.in-Ok.number (search rules) (search rules) (search rules) (search rules)
