use Rattle.std.proofs.Common.{length, arith, ap}
use Rattle.share_cow.proofs.Views.{resources_count, resources_fit}
use Rattle.share_cow.proofs.view.RootView.resources.Goals as goal

pub children_at-resources-requires : goal.children_at-resources-requires
children_at-resources-requires c = c.self.invariant.0

pub overflow_cast-result : goal.overflow_cast-result
overflow_cast-result c =
    let few = rw (← c.self.view_is) at c.requires in
    omega (arith, ap length c.children_at-resources.ensures, resources_fit c.self.inside.batches.now c.self.inside.resources.now c.self.inside.scopes.now c.self.inside.logs.now c.self.inside.batch c.self.invariant.0 c.self.invariant.1 few)

pub returns : goal.returns
returns c =
    rw (← c.self.view_is) (omega (arith, ap length c.children_at-resources.ensures, resources_count c.self.inside.batches.now c.self.inside.resources.now c.self.inside.scopes.now c.self.inside.logs.now c.self.inside.batch c.self.invariant.0 c.self.invariant.1))
