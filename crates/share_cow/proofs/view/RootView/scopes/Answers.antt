use Rattle.std.proofs.Common.{length, arith, ap}
use Rattle.share_cow.proofs.Views.{resource_live, resource_within, scopes_count, scopes_fit}
use Rattle.share_cow.proofs.view.RootView.scopes.Goals as goal

pub children_at-resources-requires : goal.children_at-resources-requires
children_at-resources-requires c = c.self.invariant.0

pub bounds-resources-resource : goal.bounds-resources-resource
bounds-resources-resource c =
    let there = rw (← c.self.view_is) at c.requires.there in
    omega (arith, ap length c.children_at-resources.ensures, resource_within c.self.inside.batches.now c.self.inside.resources.now c.self.inside.scopes.now c.self.inside.logs.now c.self.inside.batch c.self.invariant.0 c.self.invariant.1 c.args.resource there)

pub children_at-scopes-requires : goal.children_at-scopes-requires
children_at-scopes-requires c =
    let there = rw (← c.self.view_is) at c.requires.there in
    rw c.children_at-resources.ensures (resource_live c.self.inside.batches.now c.self.inside.resources.now c.self.inside.scopes.now c.self.inside.logs.now c.self.inside.batch c.self.invariant.0 c.self.invariant.1 c.args.resource there)

pub overflow_cast-result : goal.overflow_cast-result
overflow_cast-result c =
    let few = rw (← c.self.view_is) at c.requires.few in
    let there = rw (← c.self.view_is) at c.requires.there in
    let below = rw c.children_at-resources.ensures at c.children_at-scopes.ensures in
    omega (arith, ap length below, scopes_fit c.self.inside.batches.now c.self.inside.resources.now c.self.inside.scopes.now c.self.inside.logs.now c.self.inside.batch c.self.invariant.0 c.self.invariant.1 c.args.resource there few)

pub returns : goal.returns
returns c =
    let there = rw (← c.self.view_is) at c.requires.there in
    let below = rw c.children_at-resources.ensures at c.children_at-scopes.ensures in
    rw (← c.self.view_is) (omega (arith, ap length below, scopes_count c.self.inside.batches.now c.self.inside.resources.now c.self.inside.scopes.now c.self.inside.logs.now c.self.inside.batch c.self.invariant.0 c.self.invariant.1 c.args.resource there))
