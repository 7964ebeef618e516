use Rattle.std.proofs.Common.{arith, ◌∙◌}
use Rattle.share_cow.proofs.Found.{l_live, log_at_is, log_in, log_is, r_live, resource_in, resource_of_scope, s_live, scope_in, scope_of_log}
use Rattle.share_cow.proofs.Views.{logs_count, resource_within, scope_within, tree}
use Rattle.share_cow.proofs.view.RootView.log.Goals as goal

pub child_at-resource-requires-clause-there : goal.child_at-resource-requires-clause-there
child_at-resource-requires-clause-there c =
    let at = rw (← c.self.view_is) at c.requires in
    resource_within c.self.inside.batches.now c.self.inside.resources.now c.self.inside.scopes.now c.self.inside.logs.now c.self.inside.batch c.self.invariant.0 c.self.invariant.1 c.args.place.resource (resource_in (tree c.self.inside.batches.now c.self.inside.resources.now c.self.inside.scopes.now c.self.inside.logs.now c.self.inside.batch c.self.invariant.0 c.self.invariant.1) c.args.place (resource_of_scope (tree c.self.inside.batches.now c.self.inside.resources.now c.self.inside.scopes.now c.self.inside.logs.now c.self.inside.batch c.self.invariant.0 c.self.invariant.1) c.args.place (scope_of_log (tree c.self.inside.batches.now c.self.inside.resources.now c.self.inside.scopes.now c.self.inside.logs.now c.self.inside.batch c.self.invariant.0 c.self.invariant.1) c.args.place at)))

pub child_at-scope-requires-clause-live : goal.child_at-scope-requires-clause-live
child_at-scope-requires-clause-live c =
    let at = rw (← c.self.view_is) at c.requires in
    rw c.child_at-resource.ensures (r_live c.self.inside.batches.now c.self.inside.resources.now c.self.inside.scopes.now c.self.inside.logs.now c.self.inside.batch c.self.invariant.0 c.self.invariant.1 c.args.place.resource (resource_within c.self.inside.batches.now c.self.inside.resources.now c.self.inside.scopes.now c.self.inside.logs.now c.self.inside.batch c.self.invariant.0 c.self.invariant.1 c.args.place.resource (resource_in (tree c.self.inside.batches.now c.self.inside.resources.now c.self.inside.scopes.now c.self.inside.logs.now c.self.inside.batch c.self.invariant.0 c.self.invariant.1) c.args.place (resource_of_scope (tree c.self.inside.batches.now c.self.inside.resources.now c.self.inside.scopes.now c.self.inside.logs.now c.self.inside.batch c.self.invariant.0 c.self.invariant.1) c.args.place (scope_of_log (tree c.self.inside.batches.now c.self.inside.resources.now c.self.inside.scopes.now c.self.inside.logs.now c.self.inside.batch c.self.invariant.0 c.self.invariant.1) c.args.place at)))))

pub child_at-scope-requires-clause-there : goal.child_at-scope-requires-clause-there
child_at-scope-requires-clause-there c =
    let at = rw (← c.self.view_is) at c.requires in
    rw c.child_at-resource.ensures (scope_within c.self.inside.batches.now c.self.inside.resources.now c.self.inside.scopes.now c.self.inside.logs.now c.self.inside.batch c.self.invariant.0 c.self.invariant.1 c.args.place.resource (resource_in (tree c.self.inside.batches.now c.self.inside.resources.now c.self.inside.scopes.now c.self.inside.logs.now c.self.inside.batch c.self.invariant.0 c.self.invariant.1) c.args.place (resource_of_scope (tree c.self.inside.batches.now c.self.inside.resources.now c.self.inside.scopes.now c.self.inside.logs.now c.self.inside.batch c.self.invariant.0 c.self.invariant.1) c.args.place (scope_of_log (tree c.self.inside.batches.now c.self.inside.resources.now c.self.inside.scopes.now c.self.inside.logs.now c.self.inside.batch c.self.invariant.0 c.self.invariant.1) c.args.place at))) c.args.place.scope (scope_in (tree c.self.inside.batches.now c.self.inside.resources.now c.self.inside.scopes.now c.self.inside.logs.now c.self.inside.batch c.self.invariant.0 c.self.invariant.1) c.args.place (scope_of_log (tree c.self.inside.batches.now c.self.inside.resources.now c.self.inside.scopes.now c.self.inside.logs.now c.self.inside.batch c.self.invariant.0 c.self.invariant.1) c.args.place at)))

pub child_at-log-requires-clause-live : goal.child_at-log-requires-clause-live
child_at-log-requires-clause-live c =
    let at = rw (← c.self.view_is) at c.requires in
    rw (c.child_at-scope.ensures, c.child_at-resource.ensures) (s_live c.self.inside.batches.now c.self.inside.resources.now c.self.inside.scopes.now c.self.inside.logs.now c.self.inside.batch c.self.invariant.0 c.self.invariant.1 c.args.place.resource (resource_within c.self.inside.batches.now c.self.inside.resources.now c.self.inside.scopes.now c.self.inside.logs.now c.self.inside.batch c.self.invariant.0 c.self.invariant.1 c.args.place.resource (resource_in (tree c.self.inside.batches.now c.self.inside.resources.now c.self.inside.scopes.now c.self.inside.logs.now c.self.inside.batch c.self.invariant.0 c.self.invariant.1) c.args.place (resource_of_scope (tree c.self.inside.batches.now c.self.inside.resources.now c.self.inside.scopes.now c.self.inside.logs.now c.self.inside.batch c.self.invariant.0 c.self.invariant.1) c.args.place (scope_of_log (tree c.self.inside.batches.now c.self.inside.resources.now c.self.inside.scopes.now c.self.inside.logs.now c.self.inside.batch c.self.invariant.0 c.self.invariant.1) c.args.place at)))) c.args.place.scope (scope_within c.self.inside.batches.now c.self.inside.resources.now c.self.inside.scopes.now c.self.inside.logs.now c.self.inside.batch c.self.invariant.0 c.self.invariant.1 c.args.place.resource (resource_in (tree c.self.inside.batches.now c.self.inside.resources.now c.self.inside.scopes.now c.self.inside.logs.now c.self.inside.batch c.self.invariant.0 c.self.invariant.1) c.args.place (resource_of_scope (tree c.self.inside.batches.now c.self.inside.resources.now c.self.inside.scopes.now c.self.inside.logs.now c.self.inside.batch c.self.invariant.0 c.self.invariant.1) c.args.place (scope_of_log (tree c.self.inside.batches.now c.self.inside.resources.now c.self.inside.scopes.now c.self.inside.logs.now c.self.inside.batch c.self.invariant.0 c.self.invariant.1) c.args.place at))) c.args.place.scope (scope_in (tree c.self.inside.batches.now c.self.inside.resources.now c.self.inside.scopes.now c.self.inside.logs.now c.self.inside.batch c.self.invariant.0 c.self.invariant.1) c.args.place (scope_of_log (tree c.self.inside.batches.now c.self.inside.resources.now c.self.inside.scopes.now c.self.inside.logs.now c.self.inside.batch c.self.invariant.0 c.self.invariant.1) c.args.place at))))

pub child_at-log-requires-clause-there : goal.child_at-log-requires-clause-there
child_at-log-requires-clause-there c =
    let at = rw (← c.self.view_is) at c.requires in
    rw (c.child_at-scope.ensures, c.child_at-resource.ensures) (omega (arith, log_in (tree c.self.inside.batches.now c.self.inside.resources.now c.self.inside.scopes.now c.self.inside.logs.now c.self.inside.batch c.self.invariant.0 c.self.invariant.1) c.args.place at, logs_count c.self.inside.batches.now c.self.inside.resources.now c.self.inside.scopes.now c.self.inside.logs.now c.self.inside.batch c.self.invariant.0 c.self.invariant.1 c.args.place.resource (resource_in (tree c.self.inside.batches.now c.self.inside.resources.now c.self.inside.scopes.now c.self.inside.logs.now c.self.inside.batch c.self.invariant.0 c.self.invariant.1) c.args.place (resource_of_scope (tree c.self.inside.batches.now c.self.inside.resources.now c.self.inside.scopes.now c.self.inside.logs.now c.self.inside.batch c.self.invariant.0 c.self.invariant.1) c.args.place (scope_of_log (tree c.self.inside.batches.now c.self.inside.resources.now c.self.inside.scopes.now c.self.inside.logs.now c.self.inside.batch c.self.invariant.0 c.self.invariant.1) c.args.place at))) c.args.place.scope (scope_in (tree c.self.inside.batches.now c.self.inside.resources.now c.self.inside.scopes.now c.self.inside.logs.now c.self.inside.batch c.self.invariant.0 c.self.invariant.1) c.args.place (scope_of_log (tree c.self.inside.batches.now c.self.inside.resources.now c.self.inside.scopes.now c.self.inside.logs.now c.self.inside.batch c.self.invariant.0 c.self.invariant.1) c.args.place at))))

pub get-requires : goal.get-requires
get-requires c =
    let at = rw (← c.self.view_is) at c.requires in
    rw (c.child_at-log.ensures, c.child_at-scope.ensures, c.child_at-resource.ensures) (l_live c.self.inside.batches.now c.self.inside.resources.now c.self.inside.scopes.now c.self.inside.logs.now c.self.inside.batch c.self.invariant.0 c.self.invariant.1 c.args.place.resource (resource_within c.self.inside.batches.now c.self.inside.resources.now c.self.inside.scopes.now c.self.inside.logs.now c.self.inside.batch c.self.invariant.0 c.self.invariant.1 c.args.place.resource (resource_in (tree c.self.inside.batches.now c.self.inside.resources.now c.self.inside.scopes.now c.self.inside.logs.now c.self.inside.batch c.self.invariant.0 c.self.invariant.1) c.args.place (resource_of_scope (tree c.self.inside.batches.now c.self.inside.resources.now c.self.inside.scopes.now c.self.inside.logs.now c.self.inside.batch c.self.invariant.0 c.self.invariant.1) c.args.place (scope_of_log (tree c.self.inside.batches.now c.self.inside.resources.now c.self.inside.scopes.now c.self.inside.logs.now c.self.inside.batch c.self.invariant.0 c.self.invariant.1) c.args.place at)))) c.args.place.scope (scope_within c.self.inside.batches.now c.self.inside.resources.now c.self.inside.scopes.now c.self.inside.logs.now c.self.inside.batch c.self.invariant.0 c.self.invariant.1 c.args.place.resource (resource_in (tree c.self.inside.batches.now c.self.inside.resources.now c.self.inside.scopes.now c.self.inside.logs.now c.self.inside.batch c.self.invariant.0 c.self.invariant.1) c.args.place (resource_of_scope (tree c.self.inside.batches.now c.self.inside.resources.now c.self.inside.scopes.now c.self.inside.logs.now c.self.inside.batch c.self.invariant.0 c.self.invariant.1) c.args.place (scope_of_log (tree c.self.inside.batches.now c.self.inside.resources.now c.self.inside.scopes.now c.self.inside.logs.now c.self.inside.batch c.self.invariant.0 c.self.invariant.1) c.args.place at))) c.args.place.scope (scope_in (tree c.self.inside.batches.now c.self.inside.resources.now c.self.inside.scopes.now c.self.inside.logs.now c.self.inside.batch c.self.invariant.0 c.self.invariant.1) c.args.place (scope_of_log (tree c.self.inside.batches.now c.self.inside.resources.now c.self.inside.scopes.now c.self.inside.logs.now c.self.inside.batch c.self.invariant.0 c.self.invariant.1) c.args.place at))) c.args.place.log (omega (arith, log_in (tree c.self.inside.batches.now c.self.inside.resources.now c.self.inside.scopes.now c.self.inside.logs.now c.self.inside.batch c.self.invariant.0 c.self.invariant.1) c.args.place at, logs_count c.self.inside.batches.now c.self.inside.resources.now c.self.inside.scopes.now c.self.inside.logs.now c.self.inside.batch c.self.invariant.0 c.self.invariant.1 c.args.place.resource (resource_in (tree c.self.inside.batches.now c.self.inside.resources.now c.self.inside.scopes.now c.self.inside.logs.now c.self.inside.batch c.self.invariant.0 c.self.invariant.1) c.args.place (resource_of_scope (tree c.self.inside.batches.now c.self.inside.resources.now c.self.inside.scopes.now c.self.inside.logs.now c.self.inside.batch c.self.invariant.0 c.self.invariant.1) c.args.place (scope_of_log (tree c.self.inside.batches.now c.self.inside.resources.now c.self.inside.scopes.now c.self.inside.logs.now c.self.inside.batch c.self.invariant.0 c.self.invariant.1) c.args.place at))) c.args.place.scope (scope_in (tree c.self.inside.batches.now c.self.inside.resources.now c.self.inside.scopes.now c.self.inside.logs.now c.self.inside.batch c.self.invariant.0 c.self.invariant.1) c.args.place (scope_of_log (tree c.self.inside.batches.now c.self.inside.resources.now c.self.inside.scopes.now c.self.inside.logs.now c.self.inside.batch c.self.invariant.0 c.self.invariant.1) c.args.place at)))))

pub returns : goal.returns
returns c =
    let at = rw (← c.self.view_is) at c.requires in
    let found = rw (c.child_at-log.ensures, c.child_at-scope.ensures, c.child_at-resource.ensures) at c.get.ensures in
    rw (← c.self.view_is) (log_at_is (tree c.self.inside.batches.now c.self.inside.resources.now c.self.inside.scopes.now c.self.inside.logs.now c.self.inside.batch c.self.invariant.0 c.self.invariant.1) c.args.place ∙ log_is c.self.inside.batches.now c.self.inside.resources.now c.self.inside.scopes.now c.self.inside.logs.now c.self.inside.batch c.self.invariant.0 c.self.invariant.1 c.args.place.resource (resource_within c.self.inside.batches.now c.self.inside.resources.now c.self.inside.scopes.now c.self.inside.logs.now c.self.inside.batch c.self.invariant.0 c.self.invariant.1 c.args.place.resource (resource_in (tree c.self.inside.batches.now c.self.inside.resources.now c.self.inside.scopes.now c.self.inside.logs.now c.self.inside.batch c.self.invariant.0 c.self.invariant.1) c.args.place (resource_of_scope (tree c.self.inside.batches.now c.self.inside.resources.now c.self.inside.scopes.now c.self.inside.logs.now c.self.inside.batch c.self.invariant.0 c.self.invariant.1) c.args.place (scope_of_log (tree c.self.inside.batches.now c.self.inside.resources.now c.self.inside.scopes.now c.self.inside.logs.now c.self.inside.batch c.self.invariant.0 c.self.invariant.1) c.args.place at)))) c.args.place.scope (scope_within c.self.inside.batches.now c.self.inside.resources.now c.self.inside.scopes.now c.self.inside.logs.now c.self.inside.batch c.self.invariant.0 c.self.invariant.1 c.args.place.resource (resource_in (tree c.self.inside.batches.now c.self.inside.resources.now c.self.inside.scopes.now c.self.inside.logs.now c.self.inside.batch c.self.invariant.0 c.self.invariant.1) c.args.place (resource_of_scope (tree c.self.inside.batches.now c.self.inside.resources.now c.self.inside.scopes.now c.self.inside.logs.now c.self.inside.batch c.self.invariant.0 c.self.invariant.1) c.args.place (scope_of_log (tree c.self.inside.batches.now c.self.inside.resources.now c.self.inside.scopes.now c.self.inside.logs.now c.self.inside.batch c.self.invariant.0 c.self.invariant.1) c.args.place at))) c.args.place.scope (scope_in (tree c.self.inside.batches.now c.self.inside.resources.now c.self.inside.scopes.now c.self.inside.logs.now c.self.inside.batch c.self.invariant.0 c.self.invariant.1) c.args.place (scope_of_log (tree c.self.inside.batches.now c.self.inside.resources.now c.self.inside.scopes.now c.self.inside.logs.now c.self.inside.batch c.self.invariant.0 c.self.invariant.1) c.args.place at))) c.args.place.log (omega (arith, log_in (tree c.self.inside.batches.now c.self.inside.resources.now c.self.inside.scopes.now c.self.inside.logs.now c.self.inside.batch c.self.invariant.0 c.self.invariant.1) c.args.place at, logs_count c.self.inside.batches.now c.self.inside.resources.now c.self.inside.scopes.now c.self.inside.logs.now c.self.inside.batch c.self.invariant.0 c.self.invariant.1 c.args.place.resource (resource_in (tree c.self.inside.batches.now c.self.inside.resources.now c.self.inside.scopes.now c.self.inside.logs.now c.self.inside.batch c.self.invariant.0 c.self.invariant.1) c.args.place (resource_of_scope (tree c.self.inside.batches.now c.self.inside.resources.now c.self.inside.scopes.now c.self.inside.logs.now c.self.inside.batch c.self.invariant.0 c.self.invariant.1) c.args.place (scope_of_log (tree c.self.inside.batches.now c.self.inside.resources.now c.self.inside.scopes.now c.self.inside.logs.now c.self.inside.batch c.self.invariant.0 c.self.invariant.1) c.args.place at))) c.args.place.scope (scope_in (tree c.self.inside.batches.now c.self.inside.resources.now c.self.inside.scopes.now c.self.inside.logs.now c.self.inside.batch c.self.invariant.0 c.self.invariant.1) c.args.place (scope_of_log (tree c.self.inside.batches.now c.self.inside.resources.now c.self.inside.scopes.now c.self.inside.logs.now c.self.inside.batch c.self.invariant.0 c.self.invariant.1) c.args.place at)))) c.get.result.now found)
