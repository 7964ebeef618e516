use Rattle.std.proofs.Common.{◌∷◌, [], sym, ◌∙◌}
use Rattle.share_cow.specs.Store.{batch_made, log_level, resource_level, scope_level}
use Rattle.share_cow.proofs.Falling.{holds_children, step_gone, step_kept}
use Rattle.share_cow.proofs.Lowered.{lower_thins}
use Rattle.share_cow.proofs.lowering.lower_batch.Goals as goal

pub lower_resources-requires-clause-named : goal.lower_resources-requires-clause-named
lower_resources-requires-clause-named c =
    let given = sym c.lower.ensures.item ∙ c.in-Some.is in
    rw c.as_slice.ensures (holds_children batch_made c.args.batches.now c.args.place c.requires.live (resource_level c.args.resources.now) (scope_level c.args.scopes.now ∷ log_level c.args.logs.now ∷ []) c.requires.counts c.in-Some.batch given)

pub returns-in-Some-clause-steps : goal.returns-in-Some-clause-steps
returns-in-Some-clause-steps c =
    let given = sym c.lower.ensures.item ∙ c.in-Some.is in
    let gone = rw c.as_slice.ensures at c.lower_resources.ensures.steps in
    rw c.lower.ensures.slot (step_gone batch_made c.args.batches.now c.args.place c.requires.live (resource_level c.args.resources.now) (scope_level c.args.scopes.now ∷ log_level c.args.logs.now ∷ []) c.requires.counts c.in-Some.batch given (resource_level c.lower_resources.new.resources) (scope_level c.lower_resources.new.scopes ∷ log_level c.lower_resources.new.logs ∷ []) gone)

pub returns-in-Some-clause-batches : goal.returns-in-Some-clause-batches
returns-in-Some-clause-batches c = rw c.lower.ensures.slot (lower_thins c.args.batches.now c.args.place c.requires.live c.requires.batches)

pub returns-in_default-clause-steps : goal.returns-in_default-clause-steps
returns-in_default-clause-steps c = rw c.lower.ensures.slot (step_kept batch_made c.args.batches.now c.args.place c.requires.live (resource_level c.args.resources.now) (scope_level c.args.scopes.now ∷ log_level c.args.logs.now ∷ []) c.requires.counts (sym c.lower.ensures.item ∙ c.in_default.is))

pub returns-in_default-clause-batches : goal.returns-in_default-clause-batches
returns-in_default-clause-batches c = rw c.lower.ensures.slot (lower_thins c.args.batches.now c.args.place c.requires.live c.requires.batches)
