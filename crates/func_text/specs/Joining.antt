-- Texts as they are joined, one after another.
use Rattle.std.specs.Prelude.{ℕ, List, [], ◌++◌, Option, unwrap_or, Result, Ok}
use Rattle.pdata_value.specs.declared.error.EvalErr.{EvalErr}
use Rattle.pdata_value.specs.declared.value.Value.{Value}
use Rattle.pdata_value.specs.Answers.{◌>>=◌}
use Rattle.func_text.specs.Texts.{all_shown, each_after, joined}

-- a text with the text of a value behind it
abbrev pub behind : List ℕ → Result (Option (List ℕ)) EvalErr → Result (List ℕ) EvalErr
behind front shown = shown >>= λ text. Ok (front ++ unwrap_or text [])

-- a text with the texts of values behind it, each after the separator
abbrev pub each_behind : List ℕ → List ℕ → List Value → Result (List ℕ) EvalErr
each_behind separator front vs = all_shown vs >>= λ texts. Ok (front ++ each_after separator texts)

-- the texts of values, joined
abbrev pub joined_of : List ℕ → List Value → Result (List ℕ) EvalErr
joined_of separator vs = all_shown vs >>= λ texts. Ok (joined separator texts)
