use Rattle.std.proofs.Common.{[], ◌∷◌, ap, sym, ◌∙◌, refl, arith}
use Rattle.share_cow.specs.Store.{log_level, log_made, scope_level, scope_made, resource_level}
use Rattle.share_cow.proofs.Added.{add_keeps}
use Rattle.share_cow.proofs.Growing.{restored_above, tidy_level}
use Rattle.share_cow.proofs.Looks.{found_live}
use Rattle.share_cow.proofs.Parts.{parts_undone}
use Rattle.share_cow.proofs.PartTrees.{not_empty}
use Rattle.share_cow.proofs.PartResources.{parts_many, resource_none, resource_part, resource_rest, resource_scopes}
use Rattle.share_cow.proofs.Slots.{names, names_at}
use Rattle.share_cow.proofs.parting.part_resource.Goals as goal

pub part_scopes-requires-clause-live : goal.part_scopes-requires-clause-live
part_scopes-requires-clause-live c = rw c.as_slice.ensures (found_live c.args.resources.now c.args.place c.get.result.now (scope_level c.args.scopes.now) c.get.ensures c.requires.counts.0)

pub returns-then-is_empty-clause-ok : goal.returns-then-is_empty-clause-ok
returns-then-is_empty-clause-ok c =
    let below = rw (c.as_slice.ensures ∙ sym (names_at c.args.resources.now c.args.place ∙ ap names c.get.ensures)) at c.in_ok-children.ensures.ok in
    resource_none c.args.resources.now c.args.scopes.now c.args.logs.now c.args.place c.get.result.now c.get.ensures c.args.flags.now c.part_scopes.new.scopes c.part_scopes.new.logs c.in_ok-children.children c.requires.counts below (c.if-is_empty.ensures.0 refl)

pub returns-then-is_empty-clause-rest : goal.returns-then-is_empty-clause-rest
returns-then-is_empty-clause-rest c =
    let rest = rw (c.as_slice.ensures ∙ sym (names_at c.args.resources.now c.args.place ∙ ap names c.get.ensures)) at c.in_ok-children.ensures.rest in
    rest ∙ resource_rest c.args.resources.now c.args.scopes.now c.args.logs.now c.args.place c.get.result.now c.get.ensures c.args.flags.now

pub returns-then-is_empty-clause-scopes : goal.returns-then-is_empty-clause-scopes
returns-then-is_empty-clause-scopes c =
    let below = rw (c.as_slice.ensures ∙ sym (names_at c.args.resources.now c.args.place ∙ ap names c.get.ensures)) at c.in_ok-children.ensures.ok in
    rw (resource_scopes c.args.resources.now c.args.scopes.now c.args.logs.now c.args.place c.get.result.now c.get.ensures c.args.flags.now, parts_many _ c.in_ok-children.children _ _ _ [] [] _ _ below) c.in_ok-children.ensures.scopes

pub returns-in-Ok-clause-ok : goal.returns-in-Ok-clause-ok
returns-in-Ok-clause-ok c =
    let below = rw (c.as_slice.ensures ∙ sym (names_at c.args.resources.now c.args.place ∙ ap names c.get.ensures)) at c.in_ok-children.ensures.ok in
    let add = rw c.get.ensures at c.in-Ok.ensures.ok in
    resource_part c.args.resources.now c.args.scopes.now c.args.logs.now c.args.place c.get.result.now c.get.ensures c.args.flags.now c.part_scopes.new.scopes c.part_scopes.new.logs c.in_ok-children.children c.requires.counts below
    c.add_like.new.resources c.in-Ok.part add (not_empty c.in_ok-children.children (λ e. let no = c.if-is_empty.ensures.1 e in absurd cc))

pub returns-in-Ok-clause-rest : goal.returns-in-Ok-clause-rest
returns-in-Ok-clause-rest c =
    let rest = rw (c.as_slice.ensures ∙ sym (names_at c.args.resources.now c.args.place ∙ ap names c.get.ensures)) at c.in_ok-children.ensures.rest in
    rest ∙ resource_rest c.args.resources.now c.args.scopes.now c.args.logs.now c.args.place c.get.result.now c.get.ensures c.args.flags.now

pub returns-in-Ok-clause-resources : goal.returns-in-Ok-clause-resources
returns-in-Ok-clause-resources c =
    let add = rw c.get.ensures at c.in-Ok.ensures.ok in
    add_keeps c.args.resources.now c.add_like.new.resources c.in-Ok.part _ add c.requires.resources (omega arith) c.in_ok-children.ensures.short

pub returns-in-Ok-clause-scopes : goal.returns-in-Ok-clause-scopes
returns-in-Ok-clause-scopes c =
    let below = rw (c.as_slice.ensures ∙ sym (names_at c.args.resources.now c.args.place ∙ ap names c.get.ensures)) at c.in_ok-children.ensures.ok in
    rw (resource_scopes c.args.resources.now c.args.scopes.now c.args.logs.now c.args.place c.get.result.now c.get.ensures c.args.flags.now, parts_many _ c.in_ok-children.children _ _ _ [] [] _ _ below) c.in_ok-children.ensures.scopes

pub returns-in-Err-clause-err : goal.returns-in-Err-clause-err
returns-in-Err-clause-err c =
    let gone = rw (c.as_slice-in-Err.ensures, c.in-Err.ensures.back) at c.lower_scopes.ensures.steps in
    let below = parts_undone _ c.in_ok-children.children _ (scope_level c.args.scopes.now) (scope_level c.part_scopes.new.scopes) (scope_level c.lower_scopes.new.scopes) [] [] (log_level c.lower_scopes.new.logs ∷ []) (log_level c.args.logs.now) (log_level c.part_scopes.new.logs)
    c.in_ok-children.ensures.ok gone c.requires.counts.1
    (tidy_level scope_made c.args.scopes.now c.requires.scopes, (tidy_level log_made c.args.logs.now c.requires.logs, tt))
    (tidy_level scope_made c.lower_scopes.new.scopes c.lower_scopes.ensures.scopes.kept, (tidy_level log_made c.lower_scopes.new.logs c.lower_scopes.ensures.logs.kept, tt)) in
    rw c.in-Err.ensures.err (restored_above (resource_level c.args.resources.now) (scope_level c.args.scopes.now) (scope_level c.lower_scopes.new.scopes) (log_level c.args.logs.now ∷ []) (log_level c.lower_scopes.new.logs ∷ []) c.requires.counts below)
