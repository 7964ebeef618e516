use Rattle.std.proofs.Common.{refl, arith}
use Rattle.share_cow.proofs.Comes.{come_others, come_own, come_shared, come_sound, come_tree}
use Rattle.share_cow.proofs.Plant.{plant_comes, resource_nodes, stays, still_sound}
use Rattle.share_cow.proofs.forest.Forest.plant.Goals as goal

pub invariant_of-self : goal.invariant_of-self
invariant_of-self c =
    let planted = c.in-Ok.ensures in
    let put = c.insert_reserved.ensures in
    let room = rw (← c.self.view_is) at c.requires in (
      omega (arith, c.self.invariant.0, put.capacity),
      come_sound _ c.insert_reserved.result c.in-Ok.place c.args.batch _ c.plant_batch.new.batches c.plant_batch.new.resources c.plant_batch.new.scopes c.plant_batch.new.logs c.self.invariant.1
          (plant_comes _ c.insert_reserved.result c.in-Ok.place c.args.batch c.self.invariant.1 _ _ _ _ c.in-Ok.ensures.ok)
          c.insert_reserved.result c.insert_reserved.new.self.slots put.was_vacant put.updates.changed put.updates.others
          planted.batches.kept planted.resources.kept planted.scopes.kept planted.logs.kept (omega (arith, put.len, room)),
    )

pub returns-in-Ok-clause-tree : goal.returns-in-Ok-clause-tree
returns-in-Ok-clause-tree c =
    let put = c.insert_reserved.ensures in
    rw c.new.ensures (come_tree _ c.insert_reserved.result c.in-Ok.place c.args.batch _ c.plant_batch.new.batches c.plant_batch.new.resources c.plant_batch.new.scopes c.plant_batch.new.logs c.self.invariant.1
    (plant_comes _ c.insert_reserved.result c.in-Ok.place c.args.batch c.self.invariant.1 _ _ _ _ c.in-Ok.ensures.ok)
    c.insert_reserved.result c.insert_reserved.new.self.slots put.was_vacant put.updates.changed put.updates.others)

pub returns-in-Ok-clause-others : goal.returns-in-Ok-clause-others
returns-in-Ok-clause-others c =
    let put = c.insert_reserved.ensures in
    rw (c.new.ensures, ← c.self.view_is) (record {
      trees = come_others _ c.insert_reserved.result c.in-Ok.place c.args.batch _ c.plant_batch.new.batches c.plant_batch.new.resources c.plant_batch.new.scopes c.plant_batch.new.logs c.self.invariant.1
          (plant_comes _ c.insert_reserved.result c.in-Ok.place c.args.batch c.self.invariant.1 _ _ _ _ c.in-Ok.ensures.ok)
          c.insert_reserved.result c.insert_reserved.new.self.slots put.was_vacant put.updates.changed put.updates.others;
      shared = λ other d. come_shared _ c.insert_reserved.result c.in-Ok.place c.args.batch _ c.plant_batch.new.batches c.plant_batch.new.resources c.plant_batch.new.scopes c.plant_batch.new.logs c.self.invariant.1
          (plant_comes _ c.insert_reserved.result c.in-Ok.place c.args.batch c.self.invariant.1 _ _ _ _ c.in-Ok.ensures.ok)
          c.insert_reserved.result c.insert_reserved.new.self.slots put.was_vacant put.updates.changed put.updates.others other d d;
    })

pub returns-in-Ok-clause-unshared : goal.returns-in-Ok-clause-unshared
returns-in-Ok-clause-unshared c =
    let put = c.insert_reserved.ensures in
    let own = come_own _ c.insert_reserved.result c.in-Ok.place c.args.batch _ c.plant_batch.new.batches c.plant_batch.new.resources c.plant_batch.new.scopes c.plant_batch.new.logs c.self.invariant.1
    (plant_comes _ c.insert_reserved.result c.in-Ok.place c.args.batch c.self.invariant.1 _ _ _ _ c.in-Ok.ensures.ok)
    c.insert_reserved.result c.insert_reserved.new.self.slots put.was_vacant put.updates.changed put.updates.others in
    rw c.new.ensures (omega (arith, own))

pub returns-in-Ok-clause-made : goal.returns-in-Ok-clause-made
returns-in-Ok-clause-made c =
    let planted = c.in-Ok.ensures in
    rw (← c.self.view_is) (omega (arith, planted.batches.added, planted.resources.added, planted.scopes.added, planted.logs.added, resource_nodes c.args.batch.resources))

pub invariant_of-self-in-Err : goal.invariant_of-self-in-Err
invariant_of-self-in-Err c =
    let refused = c.in-Err.ensures in (
      c.self.invariant.0,
      still_sound _ _ c.self.invariant.1 refl refl refused.err refused.err_batches.kept refused.err_resources.kept refused.err_scopes.kept refused.err_logs.kept,
    )

pub returns-in-Err-clause-err : goal.returns-in-Err-clause-err
returns-in-Err-clause-err c =
    let refused = c.in-Err.ensures in
    rw (← c.self.view_is)
    (stays _ _ c.self.invariant.1 refl refl refused.err
    (omega (arith, refused.err_batches.added, refused.err_resources.added, refused.err_scopes.added, refused.err_logs.added)))

pub returns-in-Ok-clause-live : goal.returns-in-Ok-clause-live
returns-in-Ok-clause-live c = rw (c.new.ensures, c.insert_reserved.ensures.updates.changed) refl

pub returns-in-Ok-clause-sound : goal.returns-in-Ok-clause-sound
returns-in-Ok-clause-sound c = (invariant_of-self c).1

pub returns-in-Err-clause-sound : goal.returns-in-Err-clause-sound
returns-in-Err-clause-sound c = (invariant_of-self-in-Err c).1
