-- What calls on values answer: a value or an error. Want of memory is free.
use Rattle.std.specs.Prelude.{Result, Ok, Err}
use Rattle.contract_words.specs.Gives.{Gives}
use Rattle.pdata_value.specs.Errors.{eval_fault}
use Rattle.pdata_value.specs.declared.error.EvalErr.{EvalErr}
use Rattle.pdata_value.specs.declared.error.EvalStop.{EvalStop}

-- what was answered is what is meant, unless memory ran out
abbrev pub Answers : {X : Type 0} → Result X EvalStop → Result X EvalErr → Type 0
Answers result meant = Gives (λ x. x) eval_fault result meant

-- one thing after another; the first error counts
infixl 10 ◌>>=◌
abbrev pub ◌>>=◌ : {A B : Type 0} → Result A EvalErr → (A → Result B EvalErr) → Result B EvalErr
(Ok x) >>= f = f x
(Err e) >>= f = Err e
