-- The value that is looked at, wherever it stands.
use Rattle.std.specs.Prelude.{Result}
use Rattle.contract_words.specs.Gives.{Gives}
use Rattle.pdata_tree.specs.declared.seen.Seen.{Seen}
use Rattle.pdata_tree.specs.declared.seen.Seen.TheVariants.{Lent, Text, Made}
use Rattle.pdata_value.specs.Errors.{eval_fault}
use Rattle.pdata_value.specs.declared.error.EvalErr.{EvalErr}
use Rattle.pdata_value.specs.declared.error.EvalStop.{EvalStop}
use Rattle.pdata_value.specs.declared.value.Value.{Value}
use Rattle.pdata_value.specs.declared.value.Value.TheVariants as kind

-- the value
abbrev pub seen : Seen → Value
seen (Lent value) = value.now
seen (Text text) = kind.Text text.now
seen (Made value) = value

-- what is seen is what is meant, unless memory ran out
abbrev pub Sees : Result Seen EvalStop → Result Value EvalErr → Type 0
Sees result meant = Gives seen eval_fault result meant
