-- One turn over the rows of a table.
use Rattle.std.proofs.Common.{◌≡◌, List, [], ◌∷◌, ◌++◌, Result, Ok, Err, refl, ap, append_assoc}
use Rattle.conf_json.specs.Account.{Account}
use Rattle.conf_json.specs.declared.account.Note.{Note}
use Rattle.pdata_tree.specs.declared.batch.Batch.{Batch}
use Rattle.proc_targets.specs.Judging.{◌>>=◌}
use Rattle.routing_conn.specs.Meaning.{Routed}

-- trees before those of other rows
abbrev pub trees_before : List Batch → Result (Routed Batch × Account) Note → Result (Routed Batch × Account) Note
trees_before front rest =
    rest >>= λ others. Ok (record { rows = front ++ others.0.rows; rest = others.0.rest }, others.1)

pub trees_none : (rest : Result (Routed Batch × Account) Note) → trees_before [] rest ≡ rest
trees_none (Ok others) = refl
trees_none (Err note) = refl

pub trees_more : (front : List Batch) (tree : Batch) (rest : Result (Routed Batch × Account) Note)
    → trees_before (front ++ tree ∷ []) rest
    ≡ trees_before front (rest >>= λ others. Ok (record { rows = tree ∷ others.0.rows; rest = others.0.rest }, others.1))
trees_more front tree (Ok others) =
    ap (λ (rows : List Batch). Ok (record { rows = rows; rest = others.0.rest }, others.1)) (append_assoc front (tree ∷ []) others.0.rows)
trees_more front tree (Err note) = refl

pub ruleset trees_turn = (trees_none, trees_more)
