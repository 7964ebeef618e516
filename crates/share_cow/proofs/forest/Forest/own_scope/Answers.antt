use Rattle.std.proofs.Common.{◌∙◌, arith}
use Rattle.share_cow.specs.Store.{log_level}
use Rattle.share_cow.proofs.OwnBatch.{child_room, copy_names, named_live}
use Rattle.share_cow.proofs.OwnScope.{scope_inside, scope_keeps, scope_kept, scope_owns, scope_parent, scope_sound, scope_tree}
use Rattle.share_cow.specs.Keeping.{keeps_on}
use Rattle.share_cow.proofs.forest.Forest.own_scope.Goals as goal

pub own_resource-requires : goal.own_resource-requires
own_resource-requires c = (c.requires.0, (c.requires.1.0, tt))

pub child_at-scope-requires-clause-live : goal.child_at-scope-requires-clause-live
child_at-scope-requires-clause-live c =
    let owns = rw (← c.self.view_is) at c.in_ok-parent.ensures.owns in
    scope_parent c.args.self.now _ c.args.root.now c.args.place.resource c.in_ok-parent.parent c.args.place.scope c.self.invariant.1 owns c.requires

pub child_at-scope-requires-clause-there : goal.child_at-scope-requires-clause-there
child_at-scope-requires-clause-there c =
    let owns = rw (← c.self.view_is) at c.in_ok-parent.ensures.owns in
    scope_inside c.args.self.now _ c.args.root.now c.args.place.resource c.in_ok-parent.parent c.args.place.scope c.self.invariant.1 owns c.requires

pub returns-then-count-le1-clause-owns : goal.returns-then-count-le1-clause-owns
returns-then-count-le1-clause-owns c =
    let owns = rw (← c.self.view_is) at c.in_ok-parent.ensures.owns in
    rw (← c.self.view_is)
    (scope_kept c.args.self.now _ c.args.root.now c.args.place.resource c.in_ok-parent.parent c.args.place.scope c.self.invariant.1 owns c.requires c.child_at-scope.result c.child_at-scope.ensures
    (omega (arith, c.if-count-le1.true, c.count.ensures)))

pub returns-in_err-copy-clause-tree : goal.returns-in_err-copy-clause-tree
returns-in_err-copy-clause-tree c =
    let tree = rw (← c.self.view_is) at c.in_ok-parent.ensures.tree in
    rw c.in_err-copy.ensures.err tree

pub raise_all-requires-clause-live : goal.raise_all-requires-clause-live
raise_all-requires-clause-live c =
    named_live c.self.inside.scopes (log_level c.self.inside.logs) c.self.invariant.1.counts.1.1.1.0 c.children_at.result.now c.child_at-scope.result
    (c.children_at.ensures ∙ copy_names c.self.inside.scopes c.copy_node.new.shelf c.child_at-scope.result c.in_ok-copy.copy c.in_ok-content.content c.in_ok-copy.ensures.ok)

pub raise_all-requires-clause-room : goal.raise_all-requires-clause-room
raise_all-requires-clause-room c =
    child_room c.self.inside.scopes (log_level c.self.inside.logs) c.self.invariant.1.counts.1.1.1.0 c.self.invariant.1.scopes c.children_at.result.now c.child_at-scope.result
    (c.children_at.ensures ∙ copy_names c.self.inside.scopes c.copy_node.new.shelf c.child_at-scope.result c.in_ok-copy.copy c.in_ok-content.content c.in_ok-copy.ensures.ok)

pub set_child-requires-clause-live : goal.set_child-requires-clause-live
set_child-requires-clause-live c =
    let owns = rw (← c.self.view_is) at c.in_ok-parent.ensures.owns in
    scope_parent c.args.self.now _ c.args.root.now c.args.place.resource c.in_ok-parent.parent c.args.place.scope c.self.invariant.1 owns c.requires

pub set_child-requires-clause-there : goal.set_child-requires-clause-there
set_child-requires-clause-there c =
    let owns = rw (← c.self.view_is) at c.in_ok-parent.ensures.owns in
    scope_inside c.args.self.now _ c.args.root.now c.args.place.resource c.in_ok-parent.parent c.args.place.scope c.self.invariant.1 owns c.requires

pub invariant_of-self-2 : goal.invariant_of-self-2
invariant_of-self-2 c =
    let owns = rw (← c.self.view_is) at c.in_ok-parent.ensures.owns in (
      c.self.invariant.0,
      rw c.set_child.ensures
          (scope_sound c.args.self.now _ c.args.root.now c.args.place.resource c.in_ok-parent.parent c.args.place.scope c.self.invariant.1 owns c.requires c.child_at-scope.result c.in_ok-copy.copy c.child_at-scope.ensures
          c.in_ok-content.content c.copy_node.new.shelf c.raise_all.new.shelf c.children_at.result.now c.get.result.now c.get.ensures c.in_ok-content.ensures
          (omega (arith, c.if-count-le1.false, c.count.ensures)) c.in_ok-copy.ensures.ok c.children_at.ensures c.raise_all.ensures),
    )

pub returns-clause-owns : goal.returns-clause-owns
returns-clause-owns c =
    let owns = rw (← c.self.view_is) at c.in_ok-parent.ensures.owns in
    rw c.set_child.ensures
    (scope_owns c.args.self.now _ c.args.root.now c.args.place.resource c.in_ok-parent.parent c.args.place.scope c.self.invariant.1 owns c.requires c.child_at-scope.result c.in_ok-copy.copy c.child_at-scope.ensures
    c.in_ok-content.content c.copy_node.new.shelf c.raise_all.new.shelf c.children_at.result.now c.get.result.now c.get.ensures c.in_ok-content.ensures
    (omega (arith, c.if-count-le1.false, c.count.ensures)) c.in_ok-copy.ensures.ok c.children_at.ensures c.raise_all.ensures)

pub returns-clause-tree : goal.returns-clause-tree
returns-clause-tree c =
    let owns = rw (← c.self.view_is) at c.in_ok-parent.ensures.owns in
    let tree = rw (← c.self.view_is) at c.in_ok-parent.ensures.tree in
    rw c.set_child.ensures
    (scope_tree c.args.self.now _ c.args.root.now c.args.place.resource c.in_ok-parent.parent c.args.place.scope c.self.invariant.1 owns c.requires c.child_at-scope.result c.in_ok-copy.copy c.child_at-scope.ensures
    c.in_ok-content.content c.copy_node.new.shelf c.raise_all.new.shelf c.children_at.result.now c.get.result.now c.get.ensures c.in_ok-content.ensures
    (omega (arith, c.if-count-le1.false, c.count.ensures)) c.in_ok-copy.ensures.ok c.children_at.ensures c.raise_all.ensures ∙ tree)

pub returns-clause-keeps : goal.returns-clause-keeps
returns-clause-keeps c =
    let owns = rw (← c.self.view_is) at c.in_ok-parent.ensures.owns in
    let keeps = rw (← c.self.view_is) at c.in_ok-parent.ensures.keeps in
    rw c.set_child.ensures
    (keeps_on c.args.root.now c.args.self.now _ _ keeps
    (scope_keeps c.args.self.now _ c.args.root.now c.args.place.resource c.in_ok-parent.parent c.args.place.scope c.self.invariant.1 owns c.requires c.child_at-scope.result c.in_ok-copy.copy c.child_at-scope.ensures
    c.in_ok-content.content c.copy_node.new.shelf c.raise_all.new.shelf c.children_at.result.now c.get.result.now c.get.ensures c.in_ok-content.ensures
    (omega (arith, c.if-count-le1.false, c.count.ensures)) c.in_ok-copy.ensures.ok c.children_at.ensures c.raise_all.ensures))

pub returns-clause-sound : goal.returns-clause-sound
returns-clause-sound c = (invariant_of-self-2 c).1
