use Rattle.std.proofs.Common.{[], ◌∷◌, List, map, ap, subst, arith}
use Rattle.pdata_tree.specs.declared.scope.ScopeTree.{ScopeTree}
use Rattle.share_cow.specs.Planting.{Grows}
use Rattle.share_cow.specs.Store.{Part, a_scope, a_resource, resource_made, scope_made, log_made, resource_level, scope_level, log_level}
use Rattle.share_cow.proofs.Added.{add_keeps, grows_above}
use Rattle.share_cow.proofs.Growing.{restored, restored_above, scopes_back, tidy_level}
use Rattle.share_cow.proofs.planting.plant_resource.Goals as goal

pub returns-in-Ok-clause-ok : goal.returns-in-Ok-clause-ok
returns-in-Ok-clause-ok c =
    let grown = grows_above resource_made c.args.resources.now c.add_node.new.shelf c.in-Ok.place _ c.in-Ok.ensures.ok (scope_level c.args.scopes.now) (scope_level c.plant_scopes.new.scopes) (log_level c.args.logs.now ∷ []) (log_level c.plant_scopes.new.logs ∷ [])
    (map a_scope c.args.tree.scopes) c.requires.counts c.in_ok-children.ensures.ok in
    subst (λ (parts : List Part). Grows (c.in-Ok.place ∷ []) parts (resource_level c.args.resources.now) (resource_level c.add_node.new.shelf) (scope_level c.args.scopes.now ∷ (log_level c.args.logs.now ∷ [])) (scope_level c.plant_scopes.new.scopes ∷ (log_level c.plant_scopes.new.logs ∷ [])))
    (ap (λ (xs : List ScopeTree). a_resource (record { node = c.args.tree.node; scopes = xs }) ∷ []) (scopes_back c.args.tree.scopes)) grown

pub returns-in-Ok-clause-resources : goal.returns-in-Ok-clause-resources
returns-in-Ok-clause-resources c =
    add_keeps c.args.resources.now c.add_node.new.shelf c.in-Ok.place _ c.in-Ok.ensures.ok c.requires.resources (omega arith) c.in_ok-children.ensures.short

pub returns-in-Err-clause-err : goal.returns-in-Err-clause-err
returns-in-Err-clause-err c =
    let gone = rw (c.as_slice.ensures, c.in-Err.ensures.back) at c.lower_scopes.ensures.steps in
    let below = restored c.in_ok-children.children (map a_scope c.args.tree.scopes) (scope_level c.args.scopes.now) (scope_level c.plant_scopes.new.scopes) (scope_level c.lower_scopes.new.scopes) (log_level c.args.logs.now ∷ []) (log_level c.plant_scopes.new.logs ∷ []) (log_level c.lower_scopes.new.logs ∷ [])
    c.in_ok-children.ensures.ok gone c.requires.counts.1 (tidy_level scope_made c.args.scopes.now c.requires.scopes, (tidy_level log_made c.args.logs.now c.requires.logs, tt)) (tidy_level scope_made c.lower_scopes.new.scopes c.lower_scopes.ensures.scopes.kept, (tidy_level log_made c.lower_scopes.new.logs c.lower_scopes.ensures.logs.kept, tt)) in
    rw c.in-Err.ensures.err (restored_above (resource_level c.args.resources.now) (scope_level c.args.scopes.now) (scope_level c.lower_scopes.new.scopes) (log_level c.args.logs.now ∷ []) (log_level c.lower_scopes.new.logs ∷ []) c.requires.counts below)
