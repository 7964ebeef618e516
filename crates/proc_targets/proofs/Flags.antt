-- Flags that a loop gathers from the front, and what they are as a whole.
use Rattle.std.proofs.Common.{◌≡◌, Bool, List, [], ◌∷◌, ◌++◌, append_assoc, ap, refl, Result, Ok, Err}
use Rattle.conf_json.specs.Account.{Account}
use Rattle.conf_json.specs.declared.account.Note.{Note}
use Rattle.proc_targets.specs.Judging.{◌>>=◌}

-- flags before others
abbrev pub behind : List Bool → Result (List Bool × Account) Note → Result (List Bool × Account) Note
behind front rest = rest >>= λ u. Ok (front ++ u.0, u.1)

pub behind_none : (rest : Result (List Bool × Account) Note) → behind [] rest ≡ rest
behind_none (Ok u) = refl
behind_none (Err note) = refl

pub behind_more : (front : List Bool) (flag : Bool) (rest : Result (List Bool × Account) Note)
    → behind (front ++ flag ∷ []) rest ≡ behind front (rest >>= λ u. Ok (flag ∷ u.0, u.1))
behind_more front flag (Ok u) = ap (λ (flags : List Bool). Ok (flags, u.1)) (append_assoc front (flag ∷ []) u.0)
behind_more front flag (Err note) = refl

pub ruleset flags_turn = (behind_none, behind_more)
