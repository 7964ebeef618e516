-- One turn of a loop over a list of expressions.
use Rattle.std.proofs.Common.{◌≡◌, List, [], ◌∷◌, ◌++◌, ℕ, Result, Ok, Err, refl, ap, append_assoc}
use Rattle.ottl_eval.specs.Values.{parts_put}
use Rattle.pdata_value.specs.Answers.{◌>>=◌}
use Rattle.pdata_value.specs.Pairs.{put}
use Rattle.pdata_value.specs.declared.error.EvalErr.{EvalErr}
use Rattle.pdata_value.specs.declared.value.Value.{Value}

-- values behind none are all of them
pub behind_none : (rest : Result (List Value) EvalErr) → (rest >>= λ vs. Ok ([] ++ vs)) ≡ rest
behind_none (Ok vs) = refl
behind_none (Err e) = refl

-- values behind those so far and one more
pub behind_more : (front : List Value) (v : Value) (rest : Result (List Value) EvalErr)
    → (rest >>= λ vs. Ok ((front ++ v ∷ []) ++ vs)) ≡ ((rest >>= λ vs. Ok (v ∷ vs)) >>= λ vs. Ok (front ++ vs))
behind_more front v (Ok vs) = ap (λ (ws : List Value). Ok ws) (append_assoc front (v ∷ []) vs)
behind_more front v (Err e) = refl

-- pairs that are put behind those so far and one more
pub parts_more : (front : List (List ℕ × Value)) (key : List ℕ) (v : Value) (rest : Result (List (List ℕ × Value)) EvalErr)
    → parts_put (put front key v) rest ≡ parts_put front (rest >>= λ ps. Ok ((key, v) ∷ ps))
parts_more front key v (Ok ps) = refl
parts_more front key v (Err e) = refl

pub ruleset values_turn = (behind_none, behind_more)
