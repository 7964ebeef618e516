-- The errors of evaluation and their printed names.
use Rattle.std.specs.Prelude.{ℕ, List, codes, Option, Some, None}
use Rattle.pdata_value.specs.declared.error.EvalErr.{EvalErr}
use Rattle.pdata_value.specs.declared.error.EvalErr.TheVariants.{NilArgument, KindOf, Double, Range, DivideByZero, Overflow, BadText, Large}
use Rattle.pdata_value.specs.declared.error.EvalStop.{EvalStop}
use Rattle.pdata_value.specs.declared.error.EvalStop.TheVariants as stop

-- the name that is printed
abbrev pub error_name : EvalErr → List ℕ
error_name NilArgument = codes "NilArgument"
error_name KindOf = codes "KindOf"
error_name Double = codes "Double"
error_name Range = codes "Range"
error_name DivideByZero = codes "DivideByZero"
error_name Overflow = codes "Overflow"
error_name BadText = codes "BadText"
error_name Large = codes "Large"

-- the error, where it isn't want of memory
abbrev pub eval_fault : EvalStop → Option EvalErr
eval_fault (stop.Err error) = Some error
eval_fault stop.NoMemory = None
