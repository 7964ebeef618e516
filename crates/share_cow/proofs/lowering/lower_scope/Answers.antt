use Rattle.std.proofs.Common.{[], sym, ◌∙◌}
use Rattle.share_cow.specs.Store.{scope_made, log_level}
use Rattle.share_cow.proofs.Falling.{holds_children, step_gone, step_kept}
use Rattle.share_cow.proofs.Lowered.{lower_thins}
use Rattle.share_cow.proofs.lowering.lower_scope.Goals as goal

pub lower_logs-requires-clause-named : goal.lower_logs-requires-clause-named
lower_logs-requires-clause-named c =
    let given = sym c.lower.ensures.item ∙ c.in-Some.is in
    rw c.as_slice.ensures (holds_children scope_made c.args.scopes.now c.args.place c.requires.live (log_level c.args.logs.now) ([]) c.requires.counts c.in-Some.scope given)

pub returns-in-Some-clause-steps : goal.returns-in-Some-clause-steps
returns-in-Some-clause-steps c =
    let given = sym c.lower.ensures.item ∙ c.in-Some.is in
    let gone = rw c.as_slice.ensures at c.lower_logs.ensures.steps in
    rw c.lower.ensures.slot (step_gone scope_made c.args.scopes.now c.args.place c.requires.live (log_level c.args.logs.now) ([]) c.requires.counts c.in-Some.scope given (log_level c.lower_logs.new.logs) ([]) gone)

pub returns-in-Some-clause-scopes : goal.returns-in-Some-clause-scopes
returns-in-Some-clause-scopes c = rw c.lower.ensures.slot (lower_thins c.args.scopes.now c.args.place c.requires.live c.requires.scopes)

pub returns-in_default-clause-steps : goal.returns-in_default-clause-steps
returns-in_default-clause-steps c = rw c.lower.ensures.slot (step_kept scope_made c.args.scopes.now c.args.place c.requires.live (log_level c.args.logs.now) ([]) c.requires.counts (sym c.lower.ensures.item ∙ c.in_default.is))

pub returns-in_default-clause-scopes : goal.returns-in_default-clause-scopes
returns-in_default-clause-scopes c = rw c.lower.ensures.slot (lower_thins c.args.scopes.now c.args.place c.requires.live c.requires.scopes)
