use Rattle.std.proofs.Common.{rules}
use Rattle.std.specs.Vec.Iter.{into_iter_items}
use Rattle.tree_parts.proofs.flags.split.Goals as goal
use Rattle.tree_parts.proofs.Flagged.{ended}

pub returns-clause-taken : goal.returns-clause-taken
returns-clause-taken g c =
    ended c.loop-item.rest.now (into_iter_items c.loop-item.item-iterator) c.loop-item.taken _ (search rules) c.loop-item.invariant.taken

pub returns-clause-left : goal.returns-clause-left
returns-clause-left g c =
    ended _ (into_iter_items c.loop-item.item-iterator) c.loop-item.left _ (search rules) c.loop-item.invariant.left
