use Rattle.std.proofs.Common.{[]}
use Rattle.share_cow.proofs.Changed.{item_is}
use Rattle.share_cow.proofs.WriteLog.{l_found_live, l_in_place, l_made, l_refused, l_content}
use Rattle.share_cow.proofs.forest.Forest.write_at_log.Goals as goal

pub get_mut-node-requires : goal.get_mut-node-requires
get_mut-node-requires c =
    let there = rw (← c.self.view_is) at c.requires in
    let ends = rw (← c.self.view_is) at c.find_log-found.ensures.ends in
    l_found_live _ c.args.root.now c.args.place c.find_log-found.result.0 c.self.invariant.1 there ends

pub returns-then-own : goal.returns-then-own
returns-then-own c =
    let there = rw (← c.self.view_is) at c.requires in
    let ends = rw (← c.self.view_is) at c.find_log-found.ensures.ends in
    let own = rw (← c.self.view_is) at c.find_log-found.ensures.own in
    let written = rw c.as_slice-keys.ensures at c.write_log.ensures in
    rw (← c.self.view_is, item_is c.self.inside.logs c.find_log-found.result.0 c.get_mut-node.result.now c.write_log.new.log c.get_mut-node.ensures.value)
    (l_in_place _ c.args.root.now c.args.place c.find_log-found.result.0 c.self.invariant.1 there ends (own.0 c.if-own.true) c.args.path.now c.args.value c.write_log.result
    c.get_mut-node.result.now c.write_log.new.log c.get_mut-node.ensures.value written)

pub invariant_of-self : goal.invariant_of-self
invariant_of-self c = (c.self.invariant.0, (returns-then-own c).sound)

pub get-requires : goal.get-requires
get-requires c =
    let there = rw (← c.self.view_is) at c.requires in
    let ends = rw (← c.self.view_is) at c.find_log-found.ensures.ends in
    l_found_live _ c.args.root.now c.args.place c.find_log-found.result.0 c.self.invariant.1 there ends

pub set_content-requires : goal.set_content-requires
set_content-requires c =
    let owns = rw (← c.self-in-Ok.view_is) at c.in-Ok-own_log.ensures.owns in
    l_found_live _ c.args.root.now c.args.place c.in-Ok-own_log.log c.self-in-Ok.invariant.1 (owns.longer [] c.requires).0 owns.ends

pub returns-in-Ok-own_log : goal.returns-in-Ok-own_log
returns-in-Ok-own_log c =
    let there = rw (← c.self.view_is) at c.requires in
    let ends = rw (← c.self.view_is) at c.find_log-found.ensures.ends in
    let owns = rw (← c.self.view_is, ← c.self-in-Ok.view_is) at c.in-Ok-own_log.ensures.owns in
    let keeps = rw (← c.self.view_is, ← c.self-in-Ok.view_is) at c.in-Ok-own_log.ensures.keeps in
    let tree = rw (← c.self.view_is, ← c.self-in-Ok.view_is) at c.in-Ok-own_log.ensures.tree in
    let written = rw (c.as_slice-keys.ensures, c.in_ok-content.ensures) at c.in-Ok.ensures in
    rw (← c.self.view_is, c.set_content.ensures)
    (l_made _ _ c.args.root.now c.args.place c.find_log-found.result.0 c.in-Ok-own_log.log c.self.invariant.1 c.self-in-Ok.invariant.1 owns there keeps tree ends
    c.args.path.now c.args.value c.get.result.now c.write_log-2.new.log c.get.ensures written)

pub invariant_of-self-in-Ok-own_log : goal.invariant_of-self-in-Ok-own_log
invariant_of-self-in-Ok-own_log c = (c.self-in-Ok.invariant.0, (returns-in-Ok-own_log c).sound)

pub returns-in-Err : goal.returns-in-Err
returns-in-Err c =
    let there = rw (← c.self.view_is) at c.requires in
    let ends = rw (← c.self.view_is) at c.find_log-found.ensures.ends in
    let refused = rw (c.as_slice-keys.ensures, c.in_ok-content.ensures) at c.in-Err.ensures in
    rw (← c.self.view_is)
    (l_refused _ c.args.root.now c.args.place c.self.invariant.1 there c.args.path.now c.args.value c.in-Err.stop c.get.result.now.content c.write_log-2.new.log
    (l_content _ c.args.root.now c.args.place c.self.invariant.1 there c.find_log-found.result.0 ends c.get.result.now c.get.ensures) refused)
