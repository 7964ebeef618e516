use Rattle.std.proofs.Common.{◌∙◌, ap, length}
use Rattle.share_cow.specs.Views.{logs_in}
use Rattle.share_cow.proofs.Found.{log_at_is, r_live, resource_in, resource_of_scope, s_live, scope_in, tested}
use Rattle.share_cow.proofs.Views.{logs_count, resource_within, scope_within, tree}
use Rattle.share_cow.proofs.view.RootView.has_log.Goals as goal

pub child_at-resource-requires-clause-there : goal.child_at-resource-requires-clause-there
child_at-resource-requires-clause-there c =
    let at = rw (← c.self.view_is) at c.has_scope.ensures in
    resource_within c.self.inside.batches.now c.self.inside.resources.now c.self.inside.scopes.now c.self.inside.logs.now c.self.inside.batch c.self.invariant.0 c.self.invariant.1 c.args.place.resource (resource_in (tree c.self.inside.batches.now c.self.inside.resources.now c.self.inside.scopes.now c.self.inside.logs.now c.self.inside.batch c.self.invariant.0 c.self.invariant.1) c.args.place (resource_of_scope (tree c.self.inside.batches.now c.self.inside.resources.now c.self.inside.scopes.now c.self.inside.logs.now c.self.inside.batch c.self.invariant.0 c.self.invariant.1) c.args.place (at.0 c.if-not-has_scope.false)))

pub child_at-scope-requires-clause-live : goal.child_at-scope-requires-clause-live
child_at-scope-requires-clause-live c =
    let at = rw (← c.self.view_is) at c.has_scope.ensures in
    rw c.child_at-resource.ensures
    (r_live c.self.inside.batches.now c.self.inside.resources.now c.self.inside.scopes.now c.self.inside.logs.now c.self.inside.batch c.self.invariant.0 c.self.invariant.1 c.args.place.resource (resource_within c.self.inside.batches.now c.self.inside.resources.now c.self.inside.scopes.now c.self.inside.logs.now c.self.inside.batch c.self.invariant.0 c.self.invariant.1 c.args.place.resource (resource_in (tree c.self.inside.batches.now c.self.inside.resources.now c.self.inside.scopes.now c.self.inside.logs.now c.self.inside.batch c.self.invariant.0 c.self.invariant.1) c.args.place (resource_of_scope (tree c.self.inside.batches.now c.self.inside.resources.now c.self.inside.scopes.now c.self.inside.logs.now c.self.inside.batch c.self.invariant.0 c.self.invariant.1) c.args.place (at.0 c.if-not-has_scope.false)))))

pub child_at-scope-requires-clause-there : goal.child_at-scope-requires-clause-there
child_at-scope-requires-clause-there c =
    let at = rw (← c.self.view_is) at c.has_scope.ensures in
    rw c.child_at-resource.ensures
    (scope_within c.self.inside.batches.now c.self.inside.resources.now c.self.inside.scopes.now c.self.inside.logs.now c.self.inside.batch c.self.invariant.0 c.self.invariant.1 c.args.place.resource (resource_in (tree c.self.inside.batches.now c.self.inside.resources.now c.self.inside.scopes.now c.self.inside.logs.now c.self.inside.batch c.self.invariant.0 c.self.invariant.1) c.args.place (resource_of_scope (tree c.self.inside.batches.now c.self.inside.resources.now c.self.inside.scopes.now c.self.inside.logs.now c.self.inside.batch c.self.invariant.0 c.self.invariant.1) c.args.place (at.0 c.if-not-has_scope.false))) c.args.place.scope
    (scope_in (tree c.self.inside.batches.now c.self.inside.resources.now c.self.inside.scopes.now c.self.inside.logs.now c.self.inside.batch c.self.invariant.0 c.self.invariant.1) c.args.place (at.0 c.if-not-has_scope.false)))

pub children_at-logs-requires : goal.children_at-logs-requires
children_at-logs-requires c =
    let at = rw (← c.self.view_is) at c.has_scope.ensures in
    let r_in = resource_in (tree c.self.inside.batches.now c.self.inside.resources.now c.self.inside.scopes.now c.self.inside.logs.now c.self.inside.batch c.self.invariant.0 c.self.invariant.1) c.args.place (resource_of_scope (tree c.self.inside.batches.now c.self.inside.resources.now c.self.inside.scopes.now c.self.inside.logs.now c.self.inside.batch c.self.invariant.0 c.self.invariant.1) c.args.place (at.0 c.if-not-has_scope.false)) in
    rw (c.child_at-scope.ensures, c.child_at-resource.ensures)
    (s_live c.self.inside.batches.now c.self.inside.resources.now c.self.inside.scopes.now c.self.inside.logs.now c.self.inside.batch c.self.invariant.0 c.self.invariant.1 c.args.place.resource (resource_within c.self.inside.batches.now c.self.inside.resources.now c.self.inside.scopes.now c.self.inside.logs.now c.self.inside.batch c.self.invariant.0 c.self.invariant.1 c.args.place.resource r_in) c.args.place.scope
    (scope_within c.self.inside.batches.now c.self.inside.resources.now c.self.inside.scopes.now c.self.inside.logs.now c.self.inside.batch c.self.invariant.0 c.self.invariant.1 c.args.place.resource r_in c.args.place.scope (scope_in (tree c.self.inside.batches.now c.self.inside.resources.now c.self.inside.scopes.now c.self.inside.logs.now c.self.inside.batch c.self.invariant.0 c.self.invariant.1) c.args.place (at.0 c.if-not-has_scope.false))))

pub returns : goal.returns
returns c =
    let at = rw (← c.self.view_is) at c.has_scope.ensures in
    let r_in = resource_in (tree c.self.inside.batches.now c.self.inside.resources.now c.self.inside.scopes.now c.self.inside.logs.now c.self.inside.batch c.self.invariant.0 c.self.invariant.1) c.args.place (resource_of_scope (tree c.self.inside.batches.now c.self.inside.resources.now c.self.inside.scopes.now c.self.inside.logs.now c.self.inside.batch c.self.invariant.0 c.self.invariant.1) c.args.place (at.0 c.if-not-has_scope.false)) in
    let below = rw (c.child_at-scope.ensures, c.child_at-resource.ensures) at c.children_at-logs.ensures in
    rw (← c.self.view_is, log_at_is (tree c.self.inside.batches.now c.self.inside.resources.now c.self.inside.scopes.now c.self.inside.logs.now c.self.inside.batch c.self.invariant.0 c.self.invariant.1) c.args.place)
    (tested (logs_in (tree c.self.inside.batches.now c.self.inside.resources.now c.self.inside.scopes.now c.self.inside.logs.now c.self.inside.batch c.self.invariant.0 c.self.invariant.1) c.args.place.resource c.args.place.scope) c.args.place.log _
    (ap length below ∙ logs_count c.self.inside.batches.now c.self.inside.resources.now c.self.inside.scopes.now c.self.inside.logs.now c.self.inside.batch c.self.invariant.0 c.self.invariant.1 c.args.place.resource r_in c.args.place.scope (scope_in (tree c.self.inside.batches.now c.self.inside.resources.now c.self.inside.scopes.now c.self.inside.logs.now c.self.inside.batch c.self.invariant.0 c.self.invariant.1) c.args.place (at.0 c.if-not-has_scope.false))))
