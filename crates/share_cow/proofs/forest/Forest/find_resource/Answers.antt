use Rattle.share_cow.proofs.Finding.{batch_on_way}
use Rattle.share_cow.proofs.forest.Forest.find_resource.Goals as goal

pub child_at-resource-requires-clause-live : goal.child_at-resource-requires-clause-live
child_at-resource-requires-clause-live c =
    let there = rw (← c.self.view_is) at c.requires in
    let ends = rw (← c.self.view_is) at c.find_batch-batch.ensures.ends in
    batch_on_way _ c.args.root.now c.self.invariant.1 c.args.place.resource _ there ends
