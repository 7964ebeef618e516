use Rattle.std.proofs.Common.{take, ◌∷◌, []}
use Rattle.share_cow.specs.Lowering.{Lowers, Thins}
use Rattle.share_cow.specs.Store.{log_level, scope_level}
use Rattle.share_cow.proofs.lowering.lower_scopes.Given as goal

-- the places so far are lowered
abbrev pub invariant-loop-place : goal.invariant-loop-place
invariant-loop-place l =
    Lowers (take l.place-index l.places) (scope_level l.initial.scopes) (scope_level l.scopes)
    (log_level l.initial.logs ∷ []) (log_level l.logs ∷ [])
    × Thins l.initial.scopes l.scopes × Thins l.initial.logs l.logs
