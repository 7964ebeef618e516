use Rattle.std.proofs.Common.{◌∷◌, ap, refl, sym, ◌∙◌, arith}
use Rattle.std.specs.Prelude.{option_map}
use Rattle.pdata_tree.specs.Selecting.{kept}
use Rattle.share_cow.specs.Store.{batch_level, resource_levels}
use Rattle.share_cow.specs.Views.{tree_at}
use Rattle.share_cow.proofs.PartComes.{part_comes, spine_is}
use Rattle.share_cow.proofs.Plant.{stays, still_sound}
use Rattle.share_cow.proofs.Replaced.{old_live, replace_many, replace_nodes, replace_others, replace_own, replace_sound, replace_spine, replace_tree, set_here}
use Rattle.share_cow.proofs.Share.{batch_live}
use Rattle.share_cow.proofs.Views.{root_tree}
use Rattle.share_cow.proofs.forest.Forest.retain.Goals as goal

pub part_batch-requires-clause-live : goal.part_batch-requires-clause-live
part_batch-requires-clause-live c =
    let is = rw (← c.self.view_is) at c.batch_at-batch.ensures in
    batch_live _ c.args.root.now c.batch_at-batch.result c.self.invariant.1 is

pub lower_batch-requires-clause-live : goal.lower_batch-requires-clause-live
lower_batch-requires-clause-live c =
    let is = rw (← c.self.view_is) at c.batch_at-batch.ensures in
    old_live _ c.args.root.now c.batch_at-batch.result c.in-Ok.part _ _ c.part_batch.new.batches c.part_batch.new.resources c.part_batch.new.scopes c.part_batch.new.logs c.self.invariant.1 is
    (part_comes _ c.args.root.now c.batch_at-batch.result c.in-Ok.part _ c.self.invariant.1 is _ _ _ _ c.in-Ok.ensures.ok)

pub invariant_of-self : goal.invariant_of-self
invariant_of-self c =
    let is = rw (← c.self.view_is) at c.batch_at-batch.ensures in
    let low = c.lower_batch.ensures in (
      c.self.invariant.0,
      rw c.place.ensures (replace_sound _ c.args.root.now c.batch_at-batch.result c.in-Ok.part _ _ c.part_batch.new.batches c.part_batch.new.resources c.part_batch.new.scopes c.part_batch.new.logs c.self.invariant.1 is
          (part_comes _ c.args.root.now c.batch_at-batch.result c.in-Ok.part _ c.self.invariant.1 is _ _ _ _ c.in-Ok.ensures.ok)
          c.lower_batch.new.batches c.lower_batch.new.resources c.lower_batch.new.scopes c.lower_batch.new.logs low.steps
          low.batches.kept low.resources.kept low.scopes.kept low.logs.kept),
    )

pub returns-in-Ok-clause-tree : goal.returns-in-Ok-clause-tree
returns-in-Ok-clause-tree c =
    let is = rw (← c.self.view_is) at c.batch_at-batch.ensures in
    let ok = rw c.as_slice.ensures at c.in-Ok.ensures.ok in
    rw (← c.self.view_is, c.place.ensures)
    (replace_tree _ c.args.root.now c.batch_at-batch.result c.in-Ok.part _ _ c.part_batch.new.batches c.part_batch.new.resources c.part_batch.new.scopes c.part_batch.new.logs c.self.invariant.1 is
    (part_comes _ c.args.root.now c.batch_at-batch.result c.in-Ok.part _ c.self.invariant.1 is _ _ _ _ ok)
    c.lower_batch.new.batches c.lower_batch.new.resources c.lower_batch.new.scopes c.lower_batch.new.logs c.lower_batch.ensures.steps
    ∙ sym (ap (option_map (kept c.args.keep.now)) (root_tree _ c.args.root.now c.batch_at-batch.result c.self.invariant.1 is)))

pub returns-in-Ok-clause-live : goal.returns-in-Ok-clause-live
returns-in-Ok-clause-live c =
    let is = rw (← c.self.view_is) at c.batch_at-batch.ensures in
    rw (
      c.place.ensures,
      set_here _ c.args.root.now c.batch_at-batch.result c.in-Ok.part _ _ c.part_batch.new.batches c.part_batch.new.resources c.part_batch.new.scopes c.part_batch.new.logs c.self.invariant.1 is
          (part_comes _ c.args.root.now c.batch_at-batch.result c.in-Ok.part _ c.self.invariant.1 is _ _ _ _ c.in-Ok.ensures.ok)
          c.lower_batch.new.batches c.lower_batch.new.resources c.lower_batch.new.scopes c.lower_batch.new.logs c.lower_batch.ensures.steps,
    ) refl

pub returns-in-Ok-clause-bound : goal.returns-in-Ok-clause-bound
returns-in-Ok-clause-bound c =
    let is = rw (← c.self.view_is) at c.batch_at-batch.ensures in
    let own = replace_own _ c.args.root.now c.batch_at-batch.result c.in-Ok.part _ _ c.part_batch.new.batches c.part_batch.new.resources c.part_batch.new.scopes c.part_batch.new.logs c.self.invariant.1 is
    (part_comes _ c.args.root.now c.batch_at-batch.result c.in-Ok.part _ c.self.invariant.1 is _ _ _ _ c.in-Ok.ensures.ok)
    c.lower_batch.new.batches c.lower_batch.new.resources c.lower_batch.new.scopes c.lower_batch.new.logs c.lower_batch.ensures.steps in
    let nodes = replace_nodes _ c.args.root.now c.batch_at-batch.result c.in-Ok.part _ _ c.part_batch.new.batches c.part_batch.new.resources c.part_batch.new.scopes c.part_batch.new.logs c.self.invariant.1 is
    (part_comes _ c.args.root.now c.batch_at-batch.result c.in-Ok.part _ c.self.invariant.1 is _ _ _ _ c.in-Ok.ensures.ok)
    c.lower_batch.new.batches c.lower_batch.new.resources c.lower_batch.new.scopes c.lower_batch.new.logs c.lower_batch.ensures.steps in
    let spine = replace_spine _ c.args.root.now c.batch_at-batch.result c.in-Ok.part _ _ c.part_batch.new.batches c.part_batch.new.resources c.part_batch.new.scopes c.part_batch.new.logs c.self.invariant.1 is
    (part_comes _ c.args.root.now c.batch_at-batch.result c.in-Ok.part _ c.self.invariant.1 is _ _ _ _ c.in-Ok.ensures.ok)
    c.lower_batch.new.batches c.lower_batch.new.resources c.lower_batch.new.scopes c.lower_batch.new.logs c.lower_batch.ensures.steps in
    rw c.place.ensures (omega (arith, own, nodes, spine))

pub returns-in-Ok-clause-others : goal.returns-in-Ok-clause-others
returns-in-Ok-clause-others c =
    let is = rw (← c.self.view_is) at c.batch_at-batch.ensures in
    rw (← c.self.view_is, c.place.ensures) (replace_others _ c.args.root.now c.batch_at-batch.result c.in-Ok.part _ _ c.part_batch.new.batches c.part_batch.new.resources c.part_batch.new.scopes c.part_batch.new.logs c.self.invariant.1 is
    (part_comes _ c.args.root.now c.batch_at-batch.result c.in-Ok.part _ c.self.invariant.1 is _ _ _ _ c.in-Ok.ensures.ok)
    c.lower_batch.new.batches c.lower_batch.new.resources c.lower_batch.new.scopes c.lower_batch.new.logs c.lower_batch.ensures.steps)

pub returns-in-Ok-clause-spare : goal.returns-in-Ok-clause-spare
returns-in-Ok-clause-spare c =
    let is = rw (← c.self.view_is) at c.batch_at-batch.ensures in
    let many = replace_many _ c.args.root.now c.batch_at-batch.result c.in-Ok.part _ _ c.part_batch.new.batches c.part_batch.new.resources c.part_batch.new.scopes c.part_batch.new.logs c.self.invariant.1 is
    (part_comes _ c.args.root.now c.batch_at-batch.result c.in-Ok.part _ c.self.invariant.1 is _ _ _ _ c.in-Ok.ensures.ok)
    c.lower_batch.new.batches c.lower_batch.new.resources c.lower_batch.new.scopes c.lower_batch.new.logs c.lower_batch.ensures.steps in
    rw (← c.self.view_is, c.place.ensures) (omega (arith, many))

pub returns-in-Ok-clause-made : goal.returns-in-Ok-clause-made
returns-in-Ok-clause-made c =
    let is = rw (← c.self.view_is) at c.batch_at-batch.ensures in
    let came = c.in-Ok.ensures in
    let low = c.lower_batch.ensures in
    let spine = replace_spine _ c.args.root.now c.batch_at-batch.result c.in-Ok.part _ _ c.part_batch.new.batches c.part_batch.new.resources c.part_batch.new.scopes c.part_batch.new.logs c.self.invariant.1 is
    (part_comes _ c.args.root.now c.batch_at-batch.result c.in-Ok.part _ c.self.invariant.1 is _ _ _ _ c.in-Ok.ensures.ok)
    c.lower_batch.new.batches c.lower_batch.new.resources c.lower_batch.new.scopes c.lower_batch.new.logs c.lower_batch.ensures.steps in
    rw (← c.self.view_is, c.place.ensures) (omega (arith, came.batches.added, came.resources.added, came.scopes.added, came.logs.added, low.batches.added, low.resources.added, low.scopes.added, low.logs.added, spine, spine_is (kept c.as_slice.result.now (tree_at (batch_level c.self.inside.batches ∷ resource_levels c.self.inside.resources c.self.inside.scopes c.self.inside.logs) c.batch_at-batch.result)).resources))

pub returns-in-Ok-clause-sound : goal.returns-in-Ok-clause-sound
returns-in-Ok-clause-sound c = (invariant_of-self c).1

pub invariant_of-self-in-Err : goal.invariant_of-self-in-Err
invariant_of-self-in-Err c =
    let refused = c.in-Err.ensures in (
      c.self.invariant.0,
      still_sound _ _ c.self.invariant.1 refl refl refused.err refused.err_batches.kept refused.err_resources.kept refused.err_scopes.kept refused.err_logs.kept,
    )

pub returns-in-Err-clause-err : goal.returns-in-Err-clause-err
returns-in-Err-clause-err c =
    let refused = c.in-Err.ensures in
    rw (← c.self.view_is)
    (stays _ _ c.self.invariant.1 refl refl refused.err
    (omega (arith, refused.err_batches.added, refused.err_resources.added, refused.err_scopes.added, refused.err_logs.added)))

pub returns-in-Err-clause-sound : goal.returns-in-Err-clause-sound
returns-in-Err-clause-sound c = (invariant_of-self-in-Err c).1
