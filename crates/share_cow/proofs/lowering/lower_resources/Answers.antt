use Rattle.std.proofs.Common.{◌∷◌, [], refl, ◌∙◌}
use Rattle.share_cow.specs.Store.{log_level, resource_level, scope_level}
use Rattle.share_cow.proofs.Falling.{lowers_next, lowers_none, next_live}
use Rattle.share_cow.proofs.lowering.lower_resources.Goals as goal

pub lower_resource-requires-clause-live : goal.lower_resource-requires-clause-live
lower_resource-requires-clause-live c =
    next_live c.args.places.now c.loop-place.place-index (resource_level c.args.resources.now) (resource_level c.loop-place.resources) (scope_level c.args.scopes.now ∷ log_level c.args.logs.now ∷ []) (scope_level c.loop-place.scopes ∷ log_level c.loop-place.logs ∷ [])
    c.loop-place-test.true c.requires.named c.loop-place.invariant.0

pub loop-place-init : goal.loop-place-init
loop-place-init c = (
  lowers_none (resource_level c.args.resources.now) (scope_level c.args.scopes.now ∷ log_level c.args.logs.now ∷ []) c.requires.counts,
  record { kept = c.requires.resources; added = refl },
  record { kept = c.requires.scopes; added = refl },
  record { kept = c.requires.logs; added = refl },
)

pub loop-place-preserved : goal.loop-place-preserved
loop-place-preserved c = (
  lowers_next c.args.places.now c.loop-place.place-index (resource_level c.args.resources.now) (resource_level c.loop-place.resources) (resource_level c.lower_resource.new.resources) (scope_level c.args.scopes.now ∷ log_level c.args.logs.now ∷ []) (scope_level c.loop-place.scopes ∷ log_level c.loop-place.logs ∷ []) (scope_level c.lower_resource.new.scopes ∷ log_level c.lower_resource.new.logs ∷ [])
      c.loop-place-test.true c.loop-place.invariant.0 c.lower_resource.ensures.steps,
  record { kept = c.lower_resource.ensures.resources.kept; added = c.lower_resource.ensures.resources.added ∙ c.loop-place.invariant.1.added },
  record { kept = c.lower_resource.ensures.scopes.kept; added = c.lower_resource.ensures.scopes.added ∙ c.loop-place.invariant.2.added },
  record { kept = c.lower_resource.ensures.logs.kept; added = c.lower_resource.ensures.logs.added ∙ c.loop-place.invariant.3.added },
)
