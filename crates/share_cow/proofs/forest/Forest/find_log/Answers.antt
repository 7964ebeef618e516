use Rattle.share_cow.proofs.Finding.{scope_on_way}
use Rattle.share_cow.proofs.forest.Forest.find_log.Goals as goal

pub child_at-log-requires-clause-live : goal.child_at-log-requires-clause-live
child_at-log-requires-clause-live c =
    let there = rw (← c.self.view_is) at c.requires in
    let ends = rw (← c.self.view_is) at c.find_scope-scope.ensures.ends in
    scope_on_way _ c.args.root.now c.self.invariant.1 c.args.place.resource c.args.place.scope c.args.place.log _ there ends
