use Rattle.std.proofs.Common.{[], ◌∷◌, List, map, ap, subst, arith}
use Rattle.pdata_tree.specs.declared.resource.ResourceTree.{ResourceTree}
use Rattle.share_cow.specs.Planting.{Grows}
use Rattle.share_cow.specs.Store.{Part, a_resource, a_batch, batch_made, resource_made, scope_made, log_made, batch_level, resource_level, scope_level, log_level}
use Rattle.share_cow.proofs.Added.{add_keeps, grows_above}
use Rattle.share_cow.proofs.Growing.{restored, restored_above, resources_back, tidy_level}
use Rattle.share_cow.proofs.planting.plant_batch.Goals as goal

pub returns-in-Ok-clause-ok : goal.returns-in-Ok-clause-ok
returns-in-Ok-clause-ok c =
    let grown = grows_above batch_made c.args.batches.now c.add_node.new.shelf c.in-Ok.place _ c.in-Ok.ensures.ok (resource_level c.args.resources.now) (resource_level c.plant_resources.new.resources) (scope_level c.args.scopes.now ∷ log_level c.args.logs.now ∷ []) (scope_level c.plant_resources.new.scopes ∷ log_level c.plant_resources.new.logs ∷ [])
    (map a_resource c.args.tree.resources) c.requires.counts c.in_ok-children.ensures.ok in
    subst (λ (parts : List Part). Grows (c.in-Ok.place ∷ []) parts (batch_level c.args.batches.now) (batch_level c.add_node.new.shelf) (resource_level c.args.resources.now ∷ (scope_level c.args.scopes.now ∷ log_level c.args.logs.now ∷ [])) (resource_level c.plant_resources.new.resources ∷ (scope_level c.plant_resources.new.scopes ∷ log_level c.plant_resources.new.logs ∷ [])))
    (ap (λ (xs : List ResourceTree). a_batch (record { resources = xs }) ∷ []) (resources_back c.args.tree.resources)) grown

pub returns-in-Ok-clause-batches : goal.returns-in-Ok-clause-batches
returns-in-Ok-clause-batches c =
    add_keeps c.args.batches.now c.add_node.new.shelf c.in-Ok.place _ c.in-Ok.ensures.ok c.requires.batches (omega arith) c.in_ok-children.ensures.short

pub returns-in-Err-clause-err : goal.returns-in-Err-clause-err
returns-in-Err-clause-err c =
    let gone = rw (c.as_slice.ensures, c.in-Err.ensures.back) at c.lower_resources.ensures.steps in
    let below = restored c.in_ok-children.children (map a_resource c.args.tree.resources) (resource_level c.args.resources.now) (resource_level c.plant_resources.new.resources) (resource_level c.lower_resources.new.resources) (scope_level c.args.scopes.now ∷ log_level c.args.logs.now ∷ []) (scope_level c.plant_resources.new.scopes ∷ log_level c.plant_resources.new.logs ∷ []) (scope_level c.lower_resources.new.scopes ∷ log_level c.lower_resources.new.logs ∷ [])
    c.in_ok-children.ensures.ok gone c.requires.counts.1 (tidy_level resource_made c.args.resources.now c.requires.resources, (tidy_level scope_made c.args.scopes.now c.requires.scopes, (tidy_level log_made c.args.logs.now c.requires.logs, tt))) (tidy_level resource_made c.lower_resources.new.resources c.lower_resources.ensures.resources.kept, (tidy_level scope_made c.lower_resources.new.scopes c.lower_resources.ensures.scopes.kept, (tidy_level log_made c.lower_resources.new.logs c.lower_resources.ensures.logs.kept, tt))) in
    rw c.in-Err.ensures.err (restored_above (batch_level c.args.batches.now) (resource_level c.args.resources.now) (resource_level c.lower_resources.new.resources) (scope_level c.args.scopes.now ∷ log_level c.args.logs.now ∷ []) (scope_level c.lower_resources.new.scopes ∷ log_level c.lower_resources.new.logs ∷ []) c.requires.counts below)
