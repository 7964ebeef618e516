use Rattle.std.proofs.Common.{◌∙◌, arith}
use Rattle.share_cow.proofs.OwnLog.{log_inside, log_keeps, log_kept, log_owns, log_parent, log_sound, log_tree}
use Rattle.share_cow.specs.Keeping.{keeps_on}
use Rattle.share_cow.proofs.forest.Forest.own_log.Goals as goal

pub own_scope-requires : goal.own_scope-requires
own_scope-requires c = (c.requires.0, (c.requires.1.0, (c.requires.1.1.0, tt)))

pub child_at-log-requires-clause-live : goal.child_at-log-requires-clause-live
child_at-log-requires-clause-live c =
    let owns = rw (← c.self.view_is) at c.in_ok-parent.ensures.owns in
    log_parent c.args.self.now _ c.args.root.now c.args.place.resource c.args.place.scope c.in_ok-parent.parent c.args.place.log c.self.invariant.1 owns c.requires

pub child_at-log-requires-clause-there : goal.child_at-log-requires-clause-there
child_at-log-requires-clause-there c =
    let owns = rw (← c.self.view_is) at c.in_ok-parent.ensures.owns in
    log_inside c.args.self.now _ c.args.root.now c.args.place.resource c.args.place.scope c.in_ok-parent.parent c.args.place.log c.self.invariant.1 owns c.requires

pub returns-then-count-le1-clause-owns : goal.returns-then-count-le1-clause-owns
returns-then-count-le1-clause-owns c =
    let owns = rw (← c.self.view_is) at c.in_ok-parent.ensures.owns in
    rw (← c.self.view_is)
    (log_kept c.args.self.now _ c.args.root.now c.args.place.resource c.args.place.scope c.in_ok-parent.parent c.args.place.log c.self.invariant.1 owns c.requires c.child_at-log.result c.child_at-log.ensures
    (omega (arith, c.if-count-le1.true, c.count.ensures)))

pub returns-in_err-copy-clause-tree : goal.returns-in_err-copy-clause-tree
returns-in_err-copy-clause-tree c =
    let tree = rw (← c.self.view_is) at c.in_ok-parent.ensures.tree in
    rw c.in_err-copy.ensures.err tree

pub set_child-requires-clause-live : goal.set_child-requires-clause-live
set_child-requires-clause-live c =
    let owns = rw (← c.self.view_is) at c.in_ok-parent.ensures.owns in
    log_parent c.args.self.now _ c.args.root.now c.args.place.resource c.args.place.scope c.in_ok-parent.parent c.args.place.log c.self.invariant.1 owns c.requires

pub set_child-requires-clause-there : goal.set_child-requires-clause-there
set_child-requires-clause-there c =
    let owns = rw (← c.self.view_is) at c.in_ok-parent.ensures.owns in
    log_inside c.args.self.now _ c.args.root.now c.args.place.resource c.args.place.scope c.in_ok-parent.parent c.args.place.log c.self.invariant.1 owns c.requires

pub invariant_of-self-2 : goal.invariant_of-self-2
invariant_of-self-2 c =
    let owns = rw (← c.self.view_is) at c.in_ok-parent.ensures.owns in (
      c.self.invariant.0,
      rw c.set_child.ensures
          (log_sound c.args.self.now _ c.args.root.now c.args.place.resource c.args.place.scope c.in_ok-parent.parent c.args.place.log c.self.invariant.1 owns c.requires c.child_at-log.result c.in_ok-copy.copy c.child_at-log.ensures
          c.in_ok-content.content c.copy_node.new.shelf c.get.result.now c.get.ensures c.in_ok-content.ensures
          (omega (arith, c.if-count-le1.false, c.count.ensures)) c.in_ok-copy.ensures.ok),
    )

pub returns-clause-owns : goal.returns-clause-owns
returns-clause-owns c =
    let owns = rw (← c.self.view_is) at c.in_ok-parent.ensures.owns in
    rw c.set_child.ensures
    (log_owns c.args.self.now _ c.args.root.now c.args.place.resource c.args.place.scope c.in_ok-parent.parent c.args.place.log c.self.invariant.1 owns c.requires c.child_at-log.result c.in_ok-copy.copy c.child_at-log.ensures
    c.in_ok-content.content c.copy_node.new.shelf c.get.result.now c.get.ensures c.in_ok-content.ensures
    (omega (arith, c.if-count-le1.false, c.count.ensures)) c.in_ok-copy.ensures.ok)

pub returns-clause-tree : goal.returns-clause-tree
returns-clause-tree c =
    let owns = rw (← c.self.view_is) at c.in_ok-parent.ensures.owns in
    let tree = rw (← c.self.view_is) at c.in_ok-parent.ensures.tree in
    rw c.set_child.ensures
    (log_tree c.args.self.now _ c.args.root.now c.args.place.resource c.args.place.scope c.in_ok-parent.parent c.args.place.log c.self.invariant.1 owns c.requires c.child_at-log.result c.in_ok-copy.copy c.child_at-log.ensures
    c.in_ok-content.content c.copy_node.new.shelf c.get.result.now c.get.ensures c.in_ok-content.ensures
    (omega (arith, c.if-count-le1.false, c.count.ensures)) c.in_ok-copy.ensures.ok ∙ tree)

pub returns-clause-keeps : goal.returns-clause-keeps
returns-clause-keeps c =
    let owns = rw (← c.self.view_is) at c.in_ok-parent.ensures.owns in
    let keeps = rw (← c.self.view_is) at c.in_ok-parent.ensures.keeps in
    rw c.set_child.ensures
    (keeps_on c.args.root.now c.args.self.now _ _ keeps
    (log_keeps c.args.self.now _ c.args.root.now c.args.place.resource c.args.place.scope c.in_ok-parent.parent c.args.place.log c.self.invariant.1 owns c.requires c.child_at-log.result c.in_ok-copy.copy c.child_at-log.ensures
    c.in_ok-content.content c.copy_node.new.shelf c.get.result.now c.get.ensures c.in_ok-content.ensures
    (omega (arith, c.if-count-le1.false, c.count.ensures)) c.in_ok-copy.ensures.ok))

pub returns-clause-sound : goal.returns-clause-sound
returns-clause-sound c = (invariant_of-self-2 c).1
