-- What a call that writes leaves.
use Rattle.std.specs.Prelude.{◌≡◌, IfSome, Result, Ok, Err}
use Rattle.pdata_value.specs.Errors.{eval_fault}
use Rattle.pdata_value.specs.declared.error.EvalErr.{EvalErr}
use Rattle.pdata_value.specs.declared.error.EvalStop.{EvalStop}

-- a thing became what is meant, or stayed as it was where that is an error, or memory ran out
abbrev pub Changes : {X Y : Type 0} → Result X EvalErr → X → X → Result Y EvalStop → Type 0
Changes meant old new (Ok done) = meant ≡ Ok new
Changes meant old new (Err stop) =
    (new ≡ old) × IfSome (eval_fault stop) (λ error. meant ≡ Err error)
