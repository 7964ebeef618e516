use Rattle.std.proofs.Common.{ap}
use Rattle.std.specs.Prelude.{option_map}
use Rattle.share_cow.proofs.Found.{r_live, resource_in, resource_is}
use Rattle.share_cow.proofs.Views.{resource_within, tree}
use Rattle.share_cow.proofs.view.RootView.resource.Goals as goal

pub child_at-resource-requires-clause-there : goal.child_at-resource-requires-clause-there
child_at-resource-requires-clause-there c =
    let at = rw (← c.self.view_is) at c.requires in
    resource_within c.self.inside.batches.now c.self.inside.resources.now c.self.inside.scopes.now c.self.inside.logs.now c.self.inside.batch c.self.invariant.0 c.self.invariant.1 c.args.place.resource (resource_in (tree c.self.inside.batches.now c.self.inside.resources.now c.self.inside.scopes.now c.self.inside.logs.now c.self.inside.batch c.self.invariant.0 c.self.invariant.1) c.args.place at)

pub get-requires : goal.get-requires
get-requires c =
    let at = rw (← c.self.view_is) at c.requires in
    rw c.child_at-resource.ensures (r_live c.self.inside.batches.now c.self.inside.resources.now c.self.inside.scopes.now c.self.inside.logs.now c.self.inside.batch c.self.invariant.0 c.self.invariant.1 c.args.place.resource (resource_within c.self.inside.batches.now c.self.inside.resources.now c.self.inside.scopes.now c.self.inside.logs.now c.self.inside.batch c.self.invariant.0 c.self.invariant.1 c.args.place.resource (resource_in (tree c.self.inside.batches.now c.self.inside.resources.now c.self.inside.scopes.now c.self.inside.logs.now c.self.inside.batch c.self.invariant.0 c.self.invariant.1) c.args.place at)))

pub returns : goal.returns
returns c =
    let at = rw (← c.self.view_is) at c.requires in
    let found = rw c.child_at-resource.ensures at c.get.ensures in
    rw (← c.self.view_is) (ap (option_map (λ r. r.node)) (resource_is c.self.inside.batches.now c.self.inside.resources.now c.self.inside.scopes.now c.self.inside.logs.now c.self.inside.batch c.self.invariant.0 c.self.invariant.1 c.args.place.resource (resource_within c.self.inside.batches.now c.self.inside.resources.now c.self.inside.scopes.now c.self.inside.logs.now c.self.inside.batch c.self.invariant.0 c.self.invariant.1 c.args.place.resource (resource_in (tree c.self.inside.batches.now c.self.inside.resources.now c.self.inside.scopes.now c.self.inside.logs.now c.self.inside.batch c.self.invariant.0 c.self.invariant.1) c.args.place at)) c.get.result.now found))
