use Rattle.std.proofs.Common.{length, arith, ap}
use Rattle.share_cow.proofs.Views.{logs_count, logs_fit, resource_inside, resource_live, resource_within, scope_live, scope_within, tree}
use Rattle.share_cow.proofs.view.RootView.logs.Goals as goal

pub children_at-resources-requires : goal.children_at-resources-requires
children_at-resources-requires c = c.self.invariant.0

pub bounds-resources-resource : goal.bounds-resources-resource
bounds-resources-resource c =
    let inside = rw (← c.self.view_is) at c.requires.there in
    omega (
      arith,
      ap length c.children_at-resources.ensures,
      resource_within c.self.inside.batches.now c.self.inside.resources.now c.self.inside.scopes.now c.self.inside.logs.now c.self.inside.batch c.self.invariant.0 c.self.invariant.1 c.args.resource (resource_inside (tree c.self.inside.batches.now c.self.inside.resources.now c.self.inside.scopes.now c.self.inside.logs.now c.self.inside.batch c.self.invariant.0 c.self.invariant.1) c.args.resource c.args.scope inside),
    )

pub children_at-scopes-requires : goal.children_at-scopes-requires
children_at-scopes-requires c =
    let inside = rw (← c.self.view_is) at c.requires.there in
    rw c.children_at-resources.ensures
    (resource_live c.self.inside.batches.now c.self.inside.resources.now c.self.inside.scopes.now c.self.inside.logs.now c.self.inside.batch c.self.invariant.0 c.self.invariant.1 c.args.resource (resource_inside (tree c.self.inside.batches.now c.self.inside.resources.now c.self.inside.scopes.now c.self.inside.logs.now c.self.inside.batch c.self.invariant.0 c.self.invariant.1) c.args.resource c.args.scope inside))

pub bounds-scopes-scope : goal.bounds-scopes-scope
bounds-scopes-scope c =
    let inside = rw (← c.self.view_is) at c.requires.there in
    let below = rw c.children_at-resources.ensures at c.children_at-scopes.ensures in
    omega (
      arith,
      ap length below,
      scope_within c.self.inside.batches.now c.self.inside.resources.now c.self.inside.scopes.now c.self.inside.logs.now c.self.inside.batch c.self.invariant.0 c.self.invariant.1 c.args.resource (resource_inside (tree c.self.inside.batches.now c.self.inside.resources.now c.self.inside.scopes.now c.self.inside.logs.now c.self.inside.batch c.self.invariant.0 c.self.invariant.1) c.args.resource c.args.scope inside) c.args.scope inside,
    )

pub children_at-logs-requires : goal.children_at-logs-requires
children_at-logs-requires c =
    let inside = rw (← c.self.view_is) at c.requires.there in
    let below = rw c.children_at-resources.ensures at c.children_at-scopes.ensures in
    rw below
    (scope_live c.self.inside.batches.now c.self.inside.resources.now c.self.inside.scopes.now c.self.inside.logs.now c.self.inside.batch c.self.invariant.0 c.self.invariant.1 c.args.resource (resource_inside (tree c.self.inside.batches.now c.self.inside.resources.now c.self.inside.scopes.now c.self.inside.logs.now c.self.inside.batch c.self.invariant.0 c.self.invariant.1) c.args.resource c.args.scope inside) c.args.scope inside)

pub overflow_cast-result : goal.overflow_cast-result
overflow_cast-result c =
    let few = rw (← c.self.view_is) at c.requires.few in
    let inside = rw (← c.self.view_is) at c.requires.there in
    let below = rw c.children_at-resources.ensures at c.children_at-scopes.ensures in
    let under = rw below at c.children_at-logs.ensures in
    omega (
      arith,
      ap length under,
      logs_fit c.self.inside.batches.now c.self.inside.resources.now c.self.inside.scopes.now c.self.inside.logs.now c.self.inside.batch c.self.invariant.0 c.self.invariant.1 c.args.resource (resource_inside (tree c.self.inside.batches.now c.self.inside.resources.now c.self.inside.scopes.now c.self.inside.logs.now c.self.inside.batch c.self.invariant.0 c.self.invariant.1) c.args.resource c.args.scope inside) c.args.scope inside few,
    )

pub returns : goal.returns
returns c =
    let inside = rw (← c.self.view_is) at c.requires.there in
    let below = rw c.children_at-resources.ensures at c.children_at-scopes.ensures in
    let under = rw below at c.children_at-logs.ensures in
    rw (← c.self.view_is) (omega (
      arith,
      ap length under,
      logs_count c.self.inside.batches.now c.self.inside.resources.now c.self.inside.scopes.now c.self.inside.logs.now c.self.inside.batch c.self.invariant.0 c.self.invariant.1 c.args.resource (resource_inside (tree c.self.inside.batches.now c.self.inside.resources.now c.self.inside.scopes.now c.self.inside.logs.now c.self.inside.batch c.self.invariant.0 c.self.invariant.1) c.args.resource c.args.scope inside) c.args.scope inside,
    ))
