use Rattle.share_cow.proofs.Finding.{resource_on_way}
use Rattle.share_cow.proofs.forest.Forest.find_scope.Goals as goal

pub child_at-scope-requires-clause-live : goal.child_at-scope-requires-clause-live
child_at-scope-requires-clause-live c =
    let there = rw (← c.self.view_is) at c.requires in
    let ends = rw (← c.self.view_is) at c.find_resource-resource.ensures.ends in
    resource_on_way _ c.args.root.now c.self.invariant.1 c.args.place.resource c.args.place.scope _ there ends
