use Rattle.std.proofs.Common.{◌∷◌, [], refl, ◌∙◌}
use Rattle.share_cow.specs.Store.{log_level, scope_level}
use Rattle.share_cow.proofs.Falling.{lowers_next, lowers_none, next_live}
use Rattle.share_cow.proofs.lowering.lower_scopes.Goals as goal

pub lower_scope-requires-clause-live : goal.lower_scope-requires-clause-live
lower_scope-requires-clause-live c =
    next_live c.args.places.now c.loop-place.place-index (scope_level c.args.scopes.now) (scope_level c.loop-place.scopes) (log_level c.args.logs.now ∷ []) (log_level c.loop-place.logs ∷ [])
    c.loop-place-test.true c.requires.named c.loop-place.invariant.0

pub loop-place-init : goal.loop-place-init
loop-place-init c = (
  lowers_none (scope_level c.args.scopes.now) (log_level c.args.logs.now ∷ []) c.requires.counts,
  record { kept = c.requires.scopes; added = refl },
  record { kept = c.requires.logs; added = refl },
)

pub loop-place-preserved : goal.loop-place-preserved
loop-place-preserved c = (
  lowers_next c.args.places.now c.loop-place.place-index (scope_level c.args.scopes.now) (scope_level c.loop-place.scopes) (scope_level c.lower_scope.new.scopes) (log_level c.args.logs.now ∷ []) (log_level c.loop-place.logs ∷ []) (log_level c.lower_scope.new.logs ∷ [])
      c.loop-place-test.true c.loop-place.invariant.0 c.lower_scope.ensures.steps,
  record { kept = c.lower_scope.ensures.scopes.kept; added = c.lower_scope.ensures.scopes.added ∙ c.loop-place.invariant.1.added },
  record { kept = c.lower_scope.ensures.logs.kept; added = c.lower_scope.ensures.logs.added ∙ c.loop-place.invariant.2.added },
)
