use Rattle.std.proofs.Common.{take, ◌∷◌, []}
use Rattle.share_cow.specs.Lowering.{Lowers, Thins}
use Rattle.share_cow.specs.Store.{log_level, resource_level, scope_level}
use Rattle.share_cow.proofs.lowering.lower_resources.Given as goal

-- the places so far are lowered
abbrev pub invariant-loop-place : goal.invariant-loop-place
invariant-loop-place l =
    Lowers (take l.place-index l.places) (resource_level l.initial.resources) (resource_level l.resources)
    (scope_level l.initial.scopes ∷ log_level l.initial.logs ∷ []) (scope_level l.scopes ∷ log_level l.logs ∷ [])
    × Thins l.initial.resources l.resources × Thins l.initial.scopes l.scopes × Thins l.initial.logs l.logs
