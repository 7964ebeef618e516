use Rattle.std.proofs.Common.{◌∙◌, [], refl, ap, sym, arith}
use Rattle.pdata_tree.specs.Selecting.{flagged}
use Rattle.share_cow.specs.Store.{log_level, scope_level}
use Rattle.share_cow.proofs.Added.{add_keeps}
use Rattle.share_cow.proofs.Flagged.{flagged_live, flagged_room, flagged_short}
use Rattle.share_cow.proofs.Parts.{parts_none}
use Rattle.share_cow.proofs.PartTrees.{parts_are, not_empty, scope_none, scope_part}
use Rattle.share_cow.proofs.Slots.{names, names_at}
use Rattle.share_cow.proofs.parting.part_scope.Goals as goal

pub returns-then-is_empty-clause-ok : goal.returns-then-is_empty-clause-ok
returns-then-is_empty-clause-ok c =
    let is = c.in_ok-children.ensures ∙ ap (flagged c.args.flags.now) (c.as_slice.ensures ∙ sym (names_at c.args.scopes.now c.args.place ∙ ap names c.get.ensures)) in
    parts_are _ [] [] _ _ _ [] [] _ _ (parts_none _ (scope_level c.args.scopes.now) [] (log_level c.args.logs.now) c.requires.counts)
    (scope_none c.args.scopes.now c.args.logs.now c.args.place c.get.result.now c.get.ensures c.requires.counts c.args.flags.now c.in_ok-children.children is (c.if-is_empty.ensures.0 refl))

pub add_above-requires-clause-live : goal.add_above-requires-clause-live
add_above-requires-clause-live c =
    let is = c.in_ok-children.ensures ∙ ap (flagged c.args.flags.now) (c.as_slice.ensures ∙ sym (names_at c.args.scopes.now c.args.place ∙ ap names c.get.ensures)) in
    flagged_live c.args.scopes.now (log_level c.args.logs.now) c.requires.counts.0 c.in_ok-children.children c.args.flags.now c.args.place is

pub add_above-requires-clause-room : goal.add_above-requires-clause-room
add_above-requires-clause-room c =
    let is = c.in_ok-children.ensures ∙ ap (flagged c.args.flags.now) (c.as_slice.ensures ∙ sym (names_at c.args.scopes.now c.args.place ∙ ap names c.get.ensures)) in
    flagged_room c.args.scopes.now (log_level c.args.logs.now) c.requires.counts.0 c.requires.scopes c.in_ok-children.children c.args.flags.now c.args.place is

pub returns-clause-ok : goal.returns-clause-ok
returns-clause-ok c =
    let is = c.in_ok-children.ensures ∙ ap (flagged c.args.flags.now) (c.as_slice.ensures ∙ sym (names_at c.args.scopes.now c.args.place ∙ ap names c.get.ensures)) in
    scope_part c.args.scopes.now c.args.logs.now c.args.place c.get-2.result.now c.get-2.ensures c.requires.counts c.args.flags.now c.in_ok-children.children is
    c.add_above.new.shelf c.add_above.new.below c.in_ok-part.part c.in_ok-content.content c.in_ok-content.ensures c.in_ok-part.ensures.adds c.in_ok-part.ensures.raises (not_empty c.in_ok-children.children (λ e. let no = c.if-is_empty.ensures.1 e in absurd cc))

pub returns-clause-scopes : goal.returns-clause-scopes
returns-clause-scopes c =
    let is = c.in_ok-children.ensures ∙ ap (flagged c.args.flags.now) (c.as_slice.ensures ∙ sym (names_at c.args.scopes.now c.args.place ∙ ap names c.get.ensures)) in
    add_keeps c.args.scopes.now c.add_above.new.shelf c.in_ok-part.part _ c.in_ok-part.ensures.adds c.requires.scopes (omega arith)
    (rw is (flagged_short c.args.flags.now _ (c.requires.scopes.small.short c.args.place)))
