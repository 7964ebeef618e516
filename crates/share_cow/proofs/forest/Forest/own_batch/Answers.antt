use Rattle.std.proofs.Common.{◌∙◌, refl, arith}
use Rattle.share_cow.specs.Store.{resource_level}
use Rattle.share_cow.proofs.OwnBatch.{batch_keeps, batch_kept, batch_owns, batch_sound, batch_tree, child_room, copy_names, named_live}
use Rattle.share_cow.specs.Keeping.{keeps_refl}
use Rattle.share_cow.proofs.forest.Forest.own_batch.Goals as goal

pub returns-then-count-le1-clause-owns : goal.returns-then-count-le1-clause-owns
returns-then-count-le1-clause-owns c =
    let is = rw (← c.self.view_is) at c.batch_at-batch.ensures in
    rw (← c.self.view_is) (batch_kept _ c.args.root.now c.batch_at-batch.result c.self.invariant.1 is (omega (arith, c.if-count-le1.true, c.count.ensures)))

pub returns-in_err-copy-clause-tree : goal.returns-in_err-copy-clause-tree
returns-in_err-copy-clause-tree c = rw (← c.self.view_is, c.in_err-copy.ensures.err) refl

pub returns-in_err-copy-clause-keeps : goal.returns-in_err-copy-clause-keeps
returns-in_err-copy-clause-keeps c = rw (← c.self.view_is, c.in_err-copy.ensures.err) (keeps_refl c.args.root.now _)

pub raise_all-requires-clause-live : goal.raise_all-requires-clause-live
raise_all-requires-clause-live c =
    named_live c.self.inside.batches (resource_level c.self.inside.resources) c.self.invariant.1.counts.1.0 c.children_at.result.now c.batch_at-batch.result
    (c.children_at.ensures ∙ copy_names c.self.inside.batches c.copy_node.new.shelf c.batch_at-batch.result c.in_ok-copy.copy tt c.in_ok-copy.ensures.ok)

pub raise_all-requires-clause-room : goal.raise_all-requires-clause-room
raise_all-requires-clause-room c =
    child_room c.self.inside.batches (resource_level c.self.inside.resources) c.self.invariant.1.counts.1.0 c.self.invariant.1.batches c.children_at.result.now c.batch_at-batch.result
    (c.children_at.ensures ∙ copy_names c.self.inside.batches c.copy_node.new.shelf c.batch_at-batch.result c.in_ok-copy.copy tt c.in_ok-copy.ensures.ok)

pub invariant_of-self-2 : goal.invariant_of-self-2
invariant_of-self-2 c =
    let is = rw (← c.self.view_is) at c.batch_at-batch.ensures in (
      c.self.invariant.0,
      rw c.place.ensures (batch_sound _ c.args.root.now c.batch_at-batch.result c.self.invariant.1 is c.in_ok-copy.copy c.copy_node.new.shelf c.raise_all.new.shelf c.children_at.result.now
          (omega (arith, c.if-count-le1.false, c.count.ensures)) c.in_ok-copy.ensures.ok c.children_at.ensures c.raise_all.ensures),
    )

pub returns-clause-owns : goal.returns-clause-owns
returns-clause-owns c =
    let is = rw (← c.self.view_is) at c.batch_at-batch.ensures in
    rw (← c.self.view_is, c.place.ensures)
    (batch_owns _ c.args.root.now c.batch_at-batch.result c.self.invariant.1 is c.in_ok-copy.copy c.copy_node.new.shelf c.raise_all.new.shelf c.children_at.result.now
    (omega (arith, c.if-count-le1.false, c.count.ensures)) c.in_ok-copy.ensures.ok c.children_at.ensures c.raise_all.ensures)

pub returns-clause-tree : goal.returns-clause-tree
returns-clause-tree c =
    let is = rw (← c.self.view_is) at c.batch_at-batch.ensures in
    rw (← c.self.view_is, c.place.ensures)
    (batch_tree _ c.args.root.now c.batch_at-batch.result c.self.invariant.1 is c.in_ok-copy.copy c.copy_node.new.shelf c.raise_all.new.shelf c.children_at.result.now
    (omega (arith, c.if-count-le1.false, c.count.ensures)) c.in_ok-copy.ensures.ok c.children_at.ensures c.raise_all.ensures)

pub returns-clause-keeps : goal.returns-clause-keeps
returns-clause-keeps c =
    let is = rw (← c.self.view_is) at c.batch_at-batch.ensures in
    rw (← c.self.view_is, c.place.ensures)
    (batch_keeps _ c.args.root.now c.batch_at-batch.result c.self.invariant.1 is c.in_ok-copy.copy c.copy_node.new.shelf c.raise_all.new.shelf c.children_at.result.now
    (omega (arith, c.if-count-le1.false, c.count.ensures)) c.in_ok-copy.ensures.ok c.children_at.ensures c.raise_all.ensures)

pub returns-clause-sound : goal.returns-clause-sound
returns-clause-sound c = (invariant_of-self-2 c).1
