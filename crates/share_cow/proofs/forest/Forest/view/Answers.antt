use Rattle.share_cow.proofs.Share.{batch_live}
use Rattle.share_cow.proofs.Views.{root_tree}
use Rattle.share_cow.proofs.forest.Forest.view.Goals as goal

pub new-requires-clause-live : goal.new-requires-clause-live
new-requires-clause-live c =
    let is = rw (← c.self.view_is) at c.batch_at-batch.ensures in
    batch_live _ c.args.root.now c.batch_at-batch.result c.self.invariant.1 is

pub new-requires-clause-counts : goal.new-requires-clause-counts
new-requires-clause-counts c = c.self.invariant.1.counts.1

pub returns : goal.returns
returns c =
    let is = rw (← c.self.view_is) at c.batch_at-batch.ensures in
    rw (c.new.ensures, ← c.self.view_is) (root_tree _ c.args.root.now c.batch_at-batch.result c.self.invariant.1 is)
