use Rattle.std.proofs.Common.{◌∙◌, ap, length}
use Rattle.share_cow.proofs.Found.{r_live, resource_in, scope_at_is, tested}
use Rattle.share_cow.proofs.Views.{resource_within, scopes_count, tree}
use Rattle.share_cow.specs.Views.{scopes_in}
use Rattle.share_cow.proofs.view.RootView.has_scope.Goals as goal

pub child_at-resource-requires-clause-there : goal.child_at-resource-requires-clause-there
child_at-resource-requires-clause-there c =
    let at = rw (← c.self.view_is) at c.has_resource.ensures in
    resource_within c.self.inside.batches.now c.self.inside.resources.now c.self.inside.scopes.now c.self.inside.logs.now c.self.inside.batch c.self.invariant.0 c.self.invariant.1 c.args.place.resource (resource_in (tree c.self.inside.batches.now c.self.inside.resources.now c.self.inside.scopes.now c.self.inside.logs.now c.self.inside.batch c.self.invariant.0 c.self.invariant.1) c.args.place (at.0 c.if-not-has_resource.false))

pub children_at-scopes-requires : goal.children_at-scopes-requires
children_at-scopes-requires c =
    let at = rw (← c.self.view_is) at c.has_resource.ensures in
    rw c.child_at-resource.ensures
    (r_live c.self.inside.batches.now c.self.inside.resources.now c.self.inside.scopes.now c.self.inside.logs.now c.self.inside.batch c.self.invariant.0 c.self.invariant.1 c.args.place.resource (resource_within c.self.inside.batches.now c.self.inside.resources.now c.self.inside.scopes.now c.self.inside.logs.now c.self.inside.batch c.self.invariant.0 c.self.invariant.1 c.args.place.resource (resource_in (tree c.self.inside.batches.now c.self.inside.resources.now c.self.inside.scopes.now c.self.inside.logs.now c.self.inside.batch c.self.invariant.0 c.self.invariant.1) c.args.place (at.0 c.if-not-has_resource.false))))

pub returns : goal.returns
returns c =
    let at = rw (← c.self.view_is) at c.has_resource.ensures in
    let below = rw c.child_at-resource.ensures at c.children_at-scopes.ensures in
    rw (← c.self.view_is, scope_at_is (tree c.self.inside.batches.now c.self.inside.resources.now c.self.inside.scopes.now c.self.inside.logs.now c.self.inside.batch c.self.invariant.0 c.self.invariant.1) c.args.place)
    (tested (scopes_in (tree c.self.inside.batches.now c.self.inside.resources.now c.self.inside.scopes.now c.self.inside.logs.now c.self.inside.batch c.self.invariant.0 c.self.invariant.1) c.args.place.resource) c.args.place.scope _
    (ap length below ∙ scopes_count c.self.inside.batches.now c.self.inside.resources.now c.self.inside.scopes.now c.self.inside.logs.now c.self.inside.batch c.self.invariant.0 c.self.invariant.1 c.args.place.resource (resource_in (tree c.self.inside.batches.now c.self.inside.resources.now c.self.inside.scopes.now c.self.inside.logs.now c.self.inside.batch c.self.invariant.0 c.self.invariant.1) c.args.place (at.0 c.if-not-has_resource.false))))
