use Rattle.std.proofs.Common.{◌∷◌, [], sym, ◌∙◌}
use Rattle.share_cow.specs.Store.{resource_made, log_level, scope_level}
use Rattle.share_cow.proofs.Falling.{holds_children, step_gone, step_kept}
use Rattle.share_cow.proofs.Lowered.{lower_thins}
use Rattle.share_cow.proofs.lowering.lower_resource.Goals as goal

pub lower_scopes-requires-clause-named : goal.lower_scopes-requires-clause-named
lower_scopes-requires-clause-named c =
    let given = sym c.lower.ensures.item ∙ c.in-Some.is in
    rw c.as_slice.ensures (holds_children resource_made c.args.resources.now c.args.place c.requires.live (scope_level c.args.scopes.now) (log_level c.args.logs.now ∷ []) c.requires.counts c.in-Some.resource given)

pub returns-in-Some-clause-steps : goal.returns-in-Some-clause-steps
returns-in-Some-clause-steps c =
    let given = sym c.lower.ensures.item ∙ c.in-Some.is in
    let gone = rw c.as_slice.ensures at c.lower_scopes.ensures.steps in
    rw c.lower.ensures.slot (step_gone resource_made c.args.resources.now c.args.place c.requires.live (scope_level c.args.scopes.now) (log_level c.args.logs.now ∷ []) c.requires.counts c.in-Some.resource given (scope_level c.lower_scopes.new.scopes) (log_level c.lower_scopes.new.logs ∷ []) gone)

pub returns-in-Some-clause-resources : goal.returns-in-Some-clause-resources
returns-in-Some-clause-resources c = rw c.lower.ensures.slot (lower_thins c.args.resources.now c.args.place c.requires.live c.requires.resources)

pub returns-in_default-clause-steps : goal.returns-in_default-clause-steps
returns-in_default-clause-steps c = rw c.lower.ensures.slot (step_kept resource_made c.args.resources.now c.args.place c.requires.live (scope_level c.args.scopes.now) (log_level c.args.logs.now ∷ []) c.requires.counts (sym c.lower.ensures.item ∙ c.in_default.is))

pub returns-in_default-clause-resources : goal.returns-in_default-clause-resources
returns-in_default-clause-resources c = rw c.lower.ensures.slot (lower_thins c.args.resources.now c.args.place c.requires.live c.requires.resources)
