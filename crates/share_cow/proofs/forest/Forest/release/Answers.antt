use Rattle.std.proofs.Common.{arith}
use Rattle.share_cow.proofs.Release.{release_others, release_sound}
use Rattle.share_cow.proofs.Share.{batch_live}
use Rattle.share_cow.proofs.forest.Forest.release.Goals as goal

pub lower_batch-requires-clause-live : goal.lower_batch-requires-clause-live
lower_batch-requires-clause-live c =
    batch_live _ c.place.result c.remove-batch.result c.self.invariant.1 c.remove-batch.ensures.value

pub invariant_of-self : goal.invariant_of-self
invariant_of-self c =
    let low = c.lower_batch.ensures in
    let removed = c.remove-batch.ensures in (
      omega (arith, c.self.invariant.0, removed.capacity),
      release_sound _ _ c.place.result c.remove-batch.result c.self.invariant.1 removed.value removed.updates.changed removed.updates.others low.steps
          low.batches.kept low.resources.kept low.scopes.kept low.logs.kept (omega (arith, removed.len, c.self.invariant.1.roots)) c.self.invariant.1.most,
    )

pub returns-clause-others : goal.returns-clause-others
returns-clause-others c =
    let low = c.lower_batch.ensures in
    let removed = c.remove-batch.ensures in
    rw (← c.self.view_is, ← c.place.ensures)
    (release_others _ _ c.place.result c.remove-batch.result c.self.invariant.1 removed.value removed.updates.changed removed.updates.others low.steps)

pub returns-clause-sound : goal.returns-clause-sound
returns-clause-sound c = (invariant_of-self c).1
