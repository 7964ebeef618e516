use Rattle.std.proofs.Common.{refl, arith}
use Rattle.share_cow.proofs.Share.{batch_live, batch_room, share_sound, share_tree, share_others, share_shared}
use Rattle.share_cow.proofs.forest.Forest.share.Goals as goal

pub raise-requires-clause-live : goal.raise-requires-clause-live
raise-requires-clause-live c =
    let is = rw (← c.self.view_is) at c.batch_at-batch.ensures in
    batch_live _ c.args.root.now c.batch_at-batch.result c.self.invariant.1 is

pub raise-requires-clause-room : goal.raise-requires-clause-room
raise-requires-clause-room c =
    let is = rw (← c.self.view_is) at c.batch_at-batch.ensures in
    batch_room _ c.args.root.now c.batch_at-batch.result c.self.invariant.1 is

pub invariant_of-self : goal.invariant_of-self
invariant_of-self c =
    let is = rw (← c.self.view_is) at c.batch_at-batch.ensures in
    let room = rw (← c.self.view_is) at c.requires.spare in
    let put = c.insert_reserved.ensures in (
      omega (arith, c.self.invariant.0, put.capacity),
      rw c.raise.ensures (share_sound _ c.args.root.now c.batch_at-batch.result c.self.invariant.1 is c.insert_reserved.new.self.slots c.insert_reserved.result
          put.was_vacant put.updates.changed put.updates.others (omega (arith, put.len, room))),
    )

pub returns-clause-tree : goal.returns-clause-tree
returns-clause-tree c =
    let is = rw (← c.self.view_is) at c.batch_at-batch.ensures in
    let room = rw (← c.self.view_is) at c.requires.spare in
    let put = c.insert_reserved.ensures in
    rw (c.new.ensures, ← c.self.view_is, c.raise.ensures) (share_tree _ c.args.root.now c.batch_at-batch.result c.self.invariant.1 is c.insert_reserved.new.self.slots c.insert_reserved.result
    put.was_vacant put.updates.changed put.updates.others (omega (arith, put.len, room)))

pub returns-clause-live : goal.returns-clause-live
returns-clause-live c = rw (c.new.ensures, c.insert_reserved.ensures.updates.changed) refl

pub returns-clause-fresh : goal.returns-clause-fresh
returns-clause-fresh c = rw (c.new.ensures, ← c.self.view_is) c.insert_reserved.ensures.was_vacant

pub returns-clause-others : goal.returns-clause-others
returns-clause-others c =
    let is = rw (← c.self.view_is) at c.batch_at-batch.ensures in
    let room = rw (← c.self.view_is) at c.requires.spare in
    let put = c.insert_reserved.ensures in
    rw (c.new.ensures, ← c.self.view_is, c.raise.ensures) (record {
      trees = share_others _ c.args.root.now c.batch_at-batch.result c.self.invariant.1 is c.insert_reserved.new.self.slots c.insert_reserved.result
          put.was_vacant put.updates.changed put.updates.others (omega (arith, put.len, room));
      shared = share_shared _ c.args.root.now c.batch_at-batch.result c.self.invariant.1 is c.insert_reserved.new.self.slots c.insert_reserved.result
          put.was_vacant put.updates.changed put.updates.others (omega (arith, put.len, room));
    })

pub returns-clause-sound : goal.returns-clause-sound
returns-clause-sound c = (invariant_of-self c).1
