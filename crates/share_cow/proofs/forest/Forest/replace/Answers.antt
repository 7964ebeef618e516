use Rattle.std.proofs.Common.{refl, arith}
use Rattle.share_cow.proofs.Plant.{plant_comes, resource_nodes, stays, still_sound}
use Rattle.share_cow.proofs.Replaced.{old_live, replace_many, replace_others, replace_own, replace_sound, replace_tree, set_here}
use Rattle.share_cow.proofs.forest.Forest.replace.Goals as goal

pub lower_batch-requires-clause-live : goal.lower_batch-requires-clause-live
lower_batch-requires-clause-live c =
    let is = rw (← c.self.view_is) at c.batch_at-old.ensures in
    old_live _ c.args.root.now c.batch_at-old.result c.in-Ok.place c.args.tree _ c.plant_batch.new.batches c.plant_batch.new.resources c.plant_batch.new.scopes c.plant_batch.new.logs c.self.invariant.1 is
    (plant_comes _ c.args.root.now c.in-Ok.place c.args.tree c.self.invariant.1 _ _ _ _ c.in-Ok.ensures.ok)

pub invariant_of-self : goal.invariant_of-self
invariant_of-self c =
    let is = rw (← c.self.view_is) at c.batch_at-old.ensures in
    let low = c.lower_batch.ensures in (
      c.self.invariant.0,
      rw c.place.ensures (replace_sound _ c.args.root.now c.batch_at-old.result c.in-Ok.place c.args.tree _ c.plant_batch.new.batches c.plant_batch.new.resources c.plant_batch.new.scopes c.plant_batch.new.logs c.self.invariant.1 is
          (plant_comes _ c.args.root.now c.in-Ok.place c.args.tree c.self.invariant.1 _ _ _ _ c.in-Ok.ensures.ok)
          c.lower_batch.new.batches c.lower_batch.new.resources c.lower_batch.new.scopes c.lower_batch.new.logs c.lower_batch.ensures.steps
          low.batches.kept low.resources.kept low.scopes.kept low.logs.kept),
    )

pub returns-in-Ok-clause-tree : goal.returns-in-Ok-clause-tree
returns-in-Ok-clause-tree c =
    let is = rw (← c.self.view_is) at c.batch_at-old.ensures in
    rw c.place.ensures (replace_tree _ c.args.root.now c.batch_at-old.result c.in-Ok.place c.args.tree _ c.plant_batch.new.batches c.plant_batch.new.resources c.plant_batch.new.scopes c.plant_batch.new.logs c.self.invariant.1 is
    (plant_comes _ c.args.root.now c.in-Ok.place c.args.tree c.self.invariant.1 _ _ _ _ c.in-Ok.ensures.ok)
    c.lower_batch.new.batches c.lower_batch.new.resources c.lower_batch.new.scopes c.lower_batch.new.logs c.lower_batch.ensures.steps)

pub returns-in-Ok-clause-live : goal.returns-in-Ok-clause-live
returns-in-Ok-clause-live c =
    let is = rw (← c.self.view_is) at c.batch_at-old.ensures in
    rw (
      c.place.ensures,
      set_here _ c.args.root.now c.batch_at-old.result c.in-Ok.place c.args.tree _ c.plant_batch.new.batches c.plant_batch.new.resources c.plant_batch.new.scopes c.plant_batch.new.logs c.self.invariant.1 is
          (plant_comes _ c.args.root.now c.in-Ok.place c.args.tree c.self.invariant.1 _ _ _ _ c.in-Ok.ensures.ok)
          c.lower_batch.new.batches c.lower_batch.new.resources c.lower_batch.new.scopes c.lower_batch.new.logs c.lower_batch.ensures.steps,
    ) refl

pub returns-in-Ok-clause-unshared : goal.returns-in-Ok-clause-unshared
returns-in-Ok-clause-unshared c =
    let is = rw (← c.self.view_is) at c.batch_at-old.ensures in
    let own = replace_own _ c.args.root.now c.batch_at-old.result c.in-Ok.place c.args.tree _ c.plant_batch.new.batches c.plant_batch.new.resources c.plant_batch.new.scopes c.plant_batch.new.logs c.self.invariant.1 is
    (plant_comes _ c.args.root.now c.in-Ok.place c.args.tree c.self.invariant.1 _ _ _ _ c.in-Ok.ensures.ok)
    c.lower_batch.new.batches c.lower_batch.new.resources c.lower_batch.new.scopes c.lower_batch.new.logs c.lower_batch.ensures.steps in
    rw c.place.ensures (omega (arith, own))

pub returns-in-Ok-clause-others : goal.returns-in-Ok-clause-others
returns-in-Ok-clause-others c =
    let is = rw (← c.self.view_is) at c.batch_at-old.ensures in
    rw (← c.self.view_is, c.place.ensures) (replace_others _ c.args.root.now c.batch_at-old.result c.in-Ok.place c.args.tree _ c.plant_batch.new.batches c.plant_batch.new.resources c.plant_batch.new.scopes c.plant_batch.new.logs c.self.invariant.1 is
    (plant_comes _ c.args.root.now c.in-Ok.place c.args.tree c.self.invariant.1 _ _ _ _ c.in-Ok.ensures.ok)
    c.lower_batch.new.batches c.lower_batch.new.resources c.lower_batch.new.scopes c.lower_batch.new.logs c.lower_batch.ensures.steps)

pub returns-in-Ok-clause-spare : goal.returns-in-Ok-clause-spare
returns-in-Ok-clause-spare c =
    let is = rw (← c.self.view_is) at c.batch_at-old.ensures in
    let many = replace_many _ c.args.root.now c.batch_at-old.result c.in-Ok.place c.args.tree _ c.plant_batch.new.batches c.plant_batch.new.resources c.plant_batch.new.scopes c.plant_batch.new.logs c.self.invariant.1 is
    (plant_comes _ c.args.root.now c.in-Ok.place c.args.tree c.self.invariant.1 _ _ _ _ c.in-Ok.ensures.ok)
    c.lower_batch.new.batches c.lower_batch.new.resources c.lower_batch.new.scopes c.lower_batch.new.logs c.lower_batch.ensures.steps in
    rw (← c.self.view_is, c.place.ensures) (omega (arith, many))

pub returns-in-Ok-clause-made : goal.returns-in-Ok-clause-made
returns-in-Ok-clause-made c =
    let planted = c.in-Ok.ensures in
    let low = c.lower_batch.ensures in
    rw (← c.self.view_is) (omega (arith, planted.batches.added, planted.resources.added, planted.scopes.added, planted.logs.added, low.batches.added, low.resources.added, low.scopes.added, low.logs.added, resource_nodes c.args.tree.resources))

pub returns-in-Ok-clause-sound : goal.returns-in-Ok-clause-sound
returns-in-Ok-clause-sound c = (invariant_of-self c).1

pub invariant_of-self-in-Err : goal.invariant_of-self-in-Err
invariant_of-self-in-Err c =
    let refused = c.in-Err.ensures in (
      c.self.invariant.0,
      still_sound _ _ c.self.invariant.1 refl refl refused.err refused.err_batches.kept refused.err_resources.kept refused.err_scopes.kept refused.err_logs.kept,
    )

pub returns-in-Err-clause-err : goal.returns-in-Err-clause-err
returns-in-Err-clause-err c =
    let refused = c.in-Err.ensures in
    rw (← c.self.view_is)
    (stays _ _ c.self.invariant.1 refl refl refused.err
    (omega (arith, refused.err_batches.added, refused.err_resources.added, refused.err_scopes.added, refused.err_logs.added)))

pub returns-in-Err-clause-sound : goal.returns-in-Err-clause-sound
returns-in-Err-clause-sound c = (invariant_of-self-in-Err c).1
