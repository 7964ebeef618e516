use Rattle.std.proofs.Common.{ap, sym, ◌∙◌, arith}
use Rattle.std.specs.Prelude.{option_map}
use Rattle.pdata_tree.specs.Selecting.{kept_resources}
use Rattle.share_cow.specs.Store.{resource_level}
use Rattle.share_cow.proofs.Added.{add_keeps}
use Rattle.share_cow.proofs.Comes.{come_nodes, come_own, come_shares, come_sound, come_tree}
use Rattle.share_cow.proofs.Flagged.{flagged_live, flagged_room, flagged_short}
use Rattle.share_cow.proofs.Share.{batch_live}
use Rattle.share_cow.proofs.Views.{root_tree}
use Rattle.share_cow.proofs.WholeComes.{whole_comes}
use Rattle.share_cow.proofs.forest.Forest.select_resources.Goals as goal

pub children_at-named-requires : goal.children_at-named-requires
children_at-named-requires c =
    let is = rw (← c.self.view_is) at c.batch_at-batch.ensures in
    batch_live _ c.args.root.now c.batch_at-batch.result c.self.invariant.1 is

pub add_above-requires-clause-live : goal.add_above-requires-clause-live
add_above-requires-clause-live c =
    flagged_live c.self.inside.batches (resource_level c.self.inside.resources) c.self.invariant.1.counts.1.0 c.in_ok-children.children c.args.keep.now c.batch_at-batch.result
    (rw (c.as_slice.ensures, c.children_at-named.ensures) at c.in_ok-children.ensures)

pub add_above-requires-clause-room : goal.add_above-requires-clause-room
add_above-requires-clause-room c =
    flagged_room c.self.inside.batches (resource_level c.self.inside.resources) c.self.invariant.1.counts.1.0 c.self.invariant.1.batches c.in_ok-children.children c.args.keep.now c.batch_at-batch.result
    (rw (c.as_slice.ensures, c.children_at-named.ensures) at c.in_ok-children.ensures)

pub invariant_of-self-2 : goal.invariant_of-self-2
invariant_of-self-2 c =
    let is = rw (← c.self.view_is) at c.batch_at-batch.ensures in
    let add = rw (c.in_ok-children.ensures, c.as_slice.ensures, c.children_at-named.ensures) at c.in_ok-part.ensures.adds in
    let raised = rw (c.in_ok-children.ensures, c.as_slice.ensures, c.children_at-named.ensures) at c.in_ok-part.ensures.raises in
    let put = c.insert_reserved.ensures in
    let room = rw (← c.self.view_is) at c.requires.spare in (
      omega (arith, c.self.invariant.0, put.capacity),
      come_sound _ c.args.root.now c.in_ok-part.part _ _ c.add_above.new.shelf c.add_above.new.below c.self.inside.scopes c.self.inside.logs c.self.invariant.1
          (whole_comes _ c.args.root.now c.batch_at-batch.result c.in_ok-part.part c.self.invariant.1 is c.args.keep.now c.add_above.new.shelf c.add_above.new.below add raised)
          c.insert_reserved.result c.insert_reserved.new.self.slots put.was_vacant put.updates.changed put.updates.others
          ((add_keeps c.self.inside.batches c.add_above.new.shelf c.in_ok-part.part _ add c.self.invariant.1.batches (omega arith)
          (flagged_short c.args.keep.now _ (c.self.invariant.1.batches.small.short c.batch_at-batch.result))).kept)
          c.in_ok-part.ensures.raises.thins.kept c.self.invariant.1.scopes c.self.invariant.1.logs (omega (arith, put.len, room)),
    )

pub returns-clause-tree : goal.returns-clause-tree
returns-clause-tree c =
    let is = rw (← c.self.view_is) at c.batch_at-batch.ensures in
    let add = rw (c.in_ok-children.ensures, c.as_slice.ensures, c.children_at-named.ensures) at c.in_ok-part.ensures.adds in
    let raised = rw (c.in_ok-children.ensures, c.as_slice.ensures, c.children_at-named.ensures) at c.in_ok-part.ensures.raises in
    let put = c.insert_reserved.ensures in
    rw (c.new.ensures, ← c.self.view_is)
    (come_tree _ c.args.root.now c.in_ok-part.part _ _ c.add_above.new.shelf c.add_above.new.below c.self.inside.scopes c.self.inside.logs c.self.invariant.1
    (whole_comes _ c.args.root.now c.batch_at-batch.result c.in_ok-part.part c.self.invariant.1 is c.args.keep.now c.add_above.new.shelf c.add_above.new.below add raised)
    c.insert_reserved.result c.insert_reserved.new.self.slots put.was_vacant put.updates.changed put.updates.others
    ∙ sym (ap (option_map (kept_resources c.args.keep.now)) (root_tree _ c.args.root.now c.batch_at-batch.result c.self.invariant.1 is)))

pub returns-clause-bound : goal.returns-clause-bound
returns-clause-bound c =
    let is = rw (← c.self.view_is) at c.batch_at-batch.ensures in
    let add = rw (c.in_ok-children.ensures, c.as_slice.ensures, c.children_at-named.ensures) at c.in_ok-part.ensures.adds in
    let raised = rw (c.in_ok-children.ensures, c.as_slice.ensures, c.children_at-named.ensures) at c.in_ok-part.ensures.raises in
    let put = c.insert_reserved.ensures in
    let own = come_own _ c.args.root.now c.in_ok-part.part _ _ c.add_above.new.shelf c.add_above.new.below c.self.inside.scopes c.self.inside.logs c.self.invariant.1
    (whole_comes _ c.args.root.now c.batch_at-batch.result c.in_ok-part.part c.self.invariant.1 is c.args.keep.now c.add_above.new.shelf c.add_above.new.below add raised)
    c.insert_reserved.result c.insert_reserved.new.self.slots put.was_vacant put.updates.changed put.updates.others in
    let nodes = come_nodes _ c.args.root.now c.in_ok-part.part _ _ c.add_above.new.shelf c.add_above.new.below c.self.inside.scopes c.self.inside.logs c.self.invariant.1
    (whole_comes _ c.args.root.now c.batch_at-batch.result c.in_ok-part.part c.self.invariant.1 is c.args.keep.now c.add_above.new.shelf c.add_above.new.below add raised)
    c.insert_reserved.result c.insert_reserved.new.self.slots put.was_vacant put.updates.changed put.updates.others in
    rw c.new.ensures (omega (arith, own, nodes))

pub returns-clause-others : goal.returns-clause-others
returns-clause-others c =
    let is = rw (← c.self.view_is) at c.batch_at-batch.ensures in
    let add = rw (c.in_ok-children.ensures, c.as_slice.ensures, c.children_at-named.ensures) at c.in_ok-part.ensures.adds in
    let raised = rw (c.in_ok-children.ensures, c.as_slice.ensures, c.children_at-named.ensures) at c.in_ok-part.ensures.raises in
    let put = c.insert_reserved.ensures in
    rw (c.new.ensures, ← c.self.view_is) (come_shares _ c.args.root.now c.in_ok-part.part _ _ c.add_above.new.shelf c.add_above.new.below c.self.inside.scopes c.self.inside.logs c.self.invariant.1
    (whole_comes _ c.args.root.now c.batch_at-batch.result c.in_ok-part.part c.self.invariant.1 is c.args.keep.now c.add_above.new.shelf c.add_above.new.below add raised)
    c.insert_reserved.result c.insert_reserved.new.self.slots put.was_vacant put.updates.changed put.updates.others)

pub returns-clause-sound : goal.returns-clause-sound
returns-clause-sound c = (invariant_of-self-2 c).1
