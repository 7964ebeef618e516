use Rattle.std.proofs.Common.{[]}
use Rattle.share_cow.proofs.Changed.{item_is}
use Rattle.share_cow.proofs.WriteScope.{s_found_live, s_in_place, s_made, s_refused, s_content}
use Rattle.share_cow.proofs.forest.Forest.write_at_scope.Goals as goal

pub get_mut-node-requires : goal.get_mut-node-requires
get_mut-node-requires c =
    let there = rw (← c.self.view_is) at c.requires in
    let ends = rw (← c.self.view_is) at c.find_scope-found.ensures.ends in
    s_found_live _ c.args.root.now c.args.place c.find_scope-found.result.0 c.self.invariant.1 there ends

pub returns-then-own : goal.returns-then-own
returns-then-own c =
    let there = rw (← c.self.view_is) at c.requires in
    let ends = rw (← c.self.view_is) at c.find_scope-found.ensures.ends in
    let own = rw (← c.self.view_is) at c.find_scope-found.ensures.own in
    let written = rw c.as_slice-keys.ensures at c.write_scope.ensures in
    rw (← c.self.view_is, item_is c.self.inside.scopes c.find_scope-found.result.0 c.get_mut-node.result.now c.write_scope.new.node c.get_mut-node.ensures.value)
    (s_in_place _ c.args.root.now c.args.place c.find_scope-found.result.0 c.self.invariant.1 there ends (own.0 c.if-own.true) c.args.path.now c.args.value c.write_scope.result
    c.get_mut-node.result.now c.write_scope.new.node c.get_mut-node.ensures.value written)

pub invariant_of-self : goal.invariant_of-self
invariant_of-self c = (c.self.invariant.0, (returns-then-own c).sound)

pub get-requires : goal.get-requires
get-requires c =
    let there = rw (← c.self.view_is) at c.requires in
    let ends = rw (← c.self.view_is) at c.find_scope-found.ensures.ends in
    s_found_live _ c.args.root.now c.args.place c.find_scope-found.result.0 c.self.invariant.1 there ends

pub set_content-requires : goal.set_content-requires
set_content-requires c =
    let owns = rw (← c.self-in-Ok.view_is) at c.in-Ok-own_scope.ensures.owns in
    s_found_live _ c.args.root.now c.args.place c.in-Ok-own_scope.scope c.self-in-Ok.invariant.1 (owns.longer [] c.requires).0 owns.ends

pub returns-in-Ok-own_scope : goal.returns-in-Ok-own_scope
returns-in-Ok-own_scope c =
    let there = rw (← c.self.view_is) at c.requires in
    let ends = rw (← c.self.view_is) at c.find_scope-found.ensures.ends in
    let owns = rw (← c.self.view_is, ← c.self-in-Ok.view_is) at c.in-Ok-own_scope.ensures.owns in
    let keeps = rw (← c.self.view_is, ← c.self-in-Ok.view_is) at c.in-Ok-own_scope.ensures.keeps in
    let tree = rw (← c.self.view_is, ← c.self-in-Ok.view_is) at c.in-Ok-own_scope.ensures.tree in
    let written = rw (c.as_slice-keys.ensures, c.in_ok-content.ensures) at c.in-Ok.ensures in
    rw (← c.self.view_is, c.set_content.ensures)
    (s_made _ _ c.args.root.now c.args.place c.find_scope-found.result.0 c.in-Ok-own_scope.scope c.self.invariant.1 c.self-in-Ok.invariant.1 owns there keeps tree ends
    c.args.path.now c.args.value c.get.result.now c.write_scope-2.new.node c.get.ensures written)

pub invariant_of-self-in-Ok-own_scope : goal.invariant_of-self-in-Ok-own_scope
invariant_of-self-in-Ok-own_scope c = (c.self-in-Ok.invariant.0, (returns-in-Ok-own_scope c).sound)

pub returns-in-Err : goal.returns-in-Err
returns-in-Err c =
    let there = rw (← c.self.view_is) at c.requires in
    let ends = rw (← c.self.view_is) at c.find_scope-found.ensures.ends in
    let refused = rw (c.as_slice-keys.ensures, c.in_ok-content.ensures) at c.in-Err.ensures in
    rw (← c.self.view_is)
    (s_refused _ c.args.root.now c.args.place c.self.invariant.1 there c.args.path.now c.args.value c.in-Err.stop c.get.result.now.content c.write_scope-2.new.node
    (s_content _ c.args.root.now c.args.place c.self.invariant.1 there c.find_scope-found.result.0 ends c.get.result.now c.get.ensures) refused)
