use Rattle.std.proofs.Common.{[], ◌∷◌, ap, sym, ◌∙◌, arith}
use Rattle.share_cow.specs.Store.{batch_level, log_level, log_made, resource_level, resource_made, scope_level, scope_made}
use Rattle.share_cow.proofs.Added.{add_keeps}
use Rattle.share_cow.proofs.Growing.{restored_above, tidy_level}
use Rattle.share_cow.proofs.Looks.{found_live}
use Rattle.share_cow.proofs.Parts.{parts_undone}
use Rattle.share_cow.proofs.PartResources.{batch_many, batch_part, batch_scopes}
use Rattle.share_cow.proofs.Slots.{names, names_at}
use Rattle.share_cow.proofs.parting.part_batch.Goals as goal

pub part_resources-requires-clause-live : goal.part_resources-requires-clause-live
part_resources-requires-clause-live c = rw c.as_slice.ensures (found_live c.args.batches.now c.args.batch c.get.result.now (resource_level c.args.resources.now) c.get.ensures c.requires.counts.0)

pub returns-in-Ok-clause-ok : goal.returns-in-Ok-clause-ok
returns-in-Ok-clause-ok c =
    let below = rw (c.as_slice.ensures ∙ sym (names_at c.args.batches.now c.args.batch ∙ ap names c.get.ensures)) at c.in_ok-children.ensures.ok in
    batch_part c.args.batches.now c.add_node.new.shelf c.args.resources.now c.part_resources.new.resources c.args.scopes.now c.part_resources.new.scopes c.args.logs.now c.part_resources.new.logs c.args.batch c.in-Ok.place
    c.requires.live c.args.flags.now c.in_ok-children.children c.requires.counts below c.in-Ok.ensures.ok

pub returns-in-Ok-clause-batches : goal.returns-in-Ok-clause-batches
returns-in-Ok-clause-batches c =
    add_keeps c.args.batches.now c.add_node.new.shelf c.in-Ok.place _ c.in-Ok.ensures.ok c.requires.batches (omega arith) c.in_ok-children.ensures.short

pub returns-in-Ok-clause-resources : goal.returns-in-Ok-clause-resources
returns-in-Ok-clause-resources c =
    let below = rw (c.as_slice.ensures ∙ sym (names_at c.args.batches.now c.args.batch ∙ ap names c.get.ensures)) at c.in_ok-children.ensures.ok in
    rw (batch_many c.args.batches.now c.add_node.new.shelf c.args.resources.now c.part_resources.new.resources c.args.scopes.now c.part_resources.new.scopes c.args.logs.now c.part_resources.new.logs c.args.batch c.in-Ok.place
    c.requires.live c.args.flags.now c.in_ok-children.children c.requires.counts below) c.in_ok-children.ensures.resources

pub returns-in-Ok-clause-scopes : goal.returns-in-Ok-clause-scopes
returns-in-Ok-clause-scopes c =
    let below = rw (c.as_slice.ensures ∙ sym (names_at c.args.batches.now c.args.batch ∙ ap names c.get.ensures)) at c.in_ok-children.ensures.ok in
    let scopes = rw (c.as_slice.ensures ∙ sym (names_at c.args.batches.now c.args.batch ∙ ap names c.get.ensures)) at c.in_ok-children.ensures.scopes in
    rw (batch_scopes c.args.batches.now c.add_node.new.shelf c.args.resources.now c.part_resources.new.resources c.args.scopes.now c.part_resources.new.scopes c.args.logs.now c.part_resources.new.logs c.args.batch c.in-Ok.place
    c.requires.live c.args.flags.now c.in_ok-children.children c.requires.counts below) scopes

pub returns-in-Err-clause-err : goal.returns-in-Err-clause-err
returns-in-Err-clause-err c =
    let gone = rw (c.as_slice-in-Err.ensures, c.in-Err.ensures.back) at c.lower_resources.ensures.steps in
    let below = parts_undone _ c.in_ok-children.children _ (resource_level c.args.resources.now) (resource_level c.part_resources.new.resources) (resource_level c.lower_resources.new.resources) (scope_level c.args.scopes.now ∷ []) (scope_level c.part_resources.new.scopes ∷ [])
    (scope_level c.lower_resources.new.scopes ∷ log_level c.lower_resources.new.logs ∷ []) (log_level c.args.logs.now) (log_level c.part_resources.new.logs)
    c.in_ok-children.ensures.ok gone c.requires.counts.1
    (tidy_level resource_made c.args.resources.now c.requires.resources, (tidy_level scope_made c.args.scopes.now c.requires.scopes, (tidy_level log_made c.args.logs.now c.requires.logs, tt)))
    (tidy_level resource_made c.lower_resources.new.resources c.lower_resources.ensures.resources.kept, (tidy_level scope_made c.lower_resources.new.scopes c.lower_resources.ensures.scopes.kept, (tidy_level log_made c.lower_resources.new.logs c.lower_resources.ensures.logs.kept, tt))) in
    rw c.in-Err.ensures.err (restored_above (batch_level c.args.batches.now) (resource_level c.args.resources.now) (resource_level c.lower_resources.new.resources) (scope_level c.args.scopes.now ∷ log_level c.args.logs.now ∷ []) (scope_level c.lower_resources.new.scopes ∷ log_level c.lower_resources.new.logs ∷ []) c.requires.counts below)
