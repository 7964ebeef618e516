-- One text more behind others.
use Rattle.std.proofs.Common.{◌≡◌, ℕ, List, [], ◌∷◌, ◌++◌, Option, refl, ap, append_assoc}
use Rattle.std.specs.Prelude.{unwrap_or, Result, Ok, Err}
use Rattle.pdata_value.specs.declared.error.EvalErr.{EvalErr}
use Rattle.pdata_value.specs.declared.value.Value.{Value}
use Rattle.pdata_value.specs.Answers.{◌>>=◌}
use Rattle.pdata_value.specs.Shown.{shown}
use Rattle.func_text.specs.Texts.{all_shown, each_after}
use Rattle.func_text.specs.Joining.{behind, each_behind}

-- what stands behind a front, by its rest
regrouped : (front separator t : List ℕ) (rest : Result (List (List ℕ)) EvalErr)
    → ((rest >>= λ texts. Ok (t ∷ texts)) >>= λ texts. Ok (front ++ each_after separator texts))
    ≡ (rest >>= λ texts. Ok (((front ++ separator) ++ t) ++ each_after separator texts))
regrouped front separator t (Ok texts) = ap (λ (text : List ℕ). Ok text) (simp append_assoc)
regrouped front separator t (Err e) = refl

step : (separator front : List ℕ) (s : Result (Option (List ℕ)) EvalErr) (rest : Result (List (List ℕ)) EvalErr)
    → ((s >>= λ text. rest >>= λ texts. Ok (unwrap_or text [] ∷ texts)) >>= λ texts. Ok (front ++ each_after separator texts))
    ≡ (behind (front ++ separator) s >>= λ text. rest >>= λ texts. Ok (text ++ each_after separator texts))
step separator front (Ok o) rest = regrouped front separator (unwrap_or o []) rest
step separator front (Err e) rest = refl

-- the first value's text comes after the separator, and then those of the others
pub each_behind-cons : (separator front : List ℕ) (v : Value) (vs : List Value)
    → each_behind separator front (v ∷ vs) ≡ (behind (front ++ separator) (shown v) >>= λ text. each_behind separator text vs)
each_behind-cons separator front v vs = step separator front (shown v) (all_shown vs)
