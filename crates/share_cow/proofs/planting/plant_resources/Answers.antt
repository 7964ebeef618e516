use Rattle.std.proofs.Common.{[], ◌∷◌, ◌++◌, List, length, map, ap, sym, ◌∙◌, append_assoc, arith}
use Rattle.std.proofs.lemmas.List.{length-append, map-append}
use Rattle.pdata_tree.specs.Tree.{records_of_resources, records_of_scopes}
use Rattle.pdata_tree.specs.declared.resource.ResourceTree.{ResourceTree}
use Rattle.share_cow.specs.Planting.{scopes_of_resources}
use Rattle.share_cow.specs.Store.{Part, a_resource, resource_made, scope_made, log_made, resource_level, scope_level, log_level}
use Rattle.share_cow.proofs.Growing.{grows_none, grows_on, grows_restored, keeps_none, keeps_on, restored, spent_by, tidy_level, scopes_more, all_records_more}
use Rattle.share_cow.proofs.planting.plant_resources.Goals as goal

pub loop-tree-init : goal.loop-tree-init
loop-tree-init c = (
  tt,
  tt,
  (
    [],
    sym (c.into_iter-tree-iterator.ensures.into_iter_gives.0 ∙ c.into_vec-tree-items.ensures),
    rw c.in_ok-places.ensures.items (grows_none (resource_level c.args.resources.now) (scope_level c.args.scopes.now ∷ log_level c.args.logs.now ∷ []) c.requires.counts),
    keeps_none c.args.resources.now c.requires.resources,
    keeps_none c.args.scopes.now c.requires.scopes,
    keeps_none c.args.logs.now c.requires.logs,
    c.in_ok-places.ensures.len,
    omega (arith, c.in_ok-places.ensures.capacity, c.len.ensures),
  ),
)

pub loop-tree-preserved : goal.loop-tree-preserved
loop-tree-preserved c =
    let so_far = c.loop-tree.invariant.2 in (
      tt,
      tt,
      (
        so_far.0 ++ c.in-Some.tree ∷ [],
        so_far.1 ∙ ap (λ (xs : List ResourceTree). so_far.0 ++ xs) c.in-Some.ensures.steps.0 ∙ sym (append_assoc so_far.0 (c.in-Some.tree ∷ []) c.next.new.self.rest.items),
        rw (c.push_reserved.ensures.items, map-append {A = ResourceTree} {B = Part} a_resource so_far.0 (c.in-Some.tree ∷ []))
            (grows_on c.loop-tree.places.items (c.in-Ok.place ∷ []) (map a_resource so_far.0) (a_resource c.in-Some.tree ∷ []) (resource_level c.args.resources.now) (resource_level c.loop-tree.resources) (resource_level c.plant_resource.new.resources)
            (scope_level c.args.scopes.now ∷ log_level c.args.logs.now ∷ []) (scope_level c.loop-tree.scopes ∷ log_level c.loop-tree.logs ∷ []) (scope_level c.plant_resource.new.scopes ∷ log_level c.plant_resource.new.logs ∷ []) so_far.2 c.in-Ok.ensures.ok),
        rw (length-append so_far.0 (c.in-Some.tree ∷ [])) (keeps_on c.args.resources.now c.loop-tree.resources c.plant_resource.new.resources (length so_far.0) 1 so_far.3 c.in-Ok.ensures.resources),
        rw (scopes_more so_far.0 c.in-Some.tree) (keeps_on c.args.scopes.now c.loop-tree.scopes c.plant_resource.new.scopes (scopes_of_resources so_far.0) (length c.in-Some.tree.scopes) so_far.4 c.in-Ok.ensures.scopes),
        rw (all_records_more so_far.0 c.in-Some.tree) (keeps_on c.args.logs.now c.loop-tree.logs c.plant_resource.new.logs (records_of_resources so_far.0) (records_of_scopes c.in-Some.tree.scopes) so_far.5 c.in-Ok.ensures.logs),
        omega (arith, c.push_reserved.ensures.len, so_far.6, length-append so_far.0 (c.in-Some.tree ∷ [])),
        omega (arith, c.push_reserved.ensures.capacity, so_far.7),
      ),
    )

pub returns-in-Err-clause-err_resources : goal.returns-in-Err-clause-err_resources
returns-in-Err-clause-err_resources c =
    let so_far = c.loop-tree.invariant.2 in
    spent_by c.args.resources.now c.loop-tree.resources c.plant_resource.new.resources c.lower_resources.new.resources (length so_far.0) c.requires.resources so_far.3 c.in-Err.ensures.err_resources c.lower_resources.ensures.resources

pub returns-in-Err-clause-err_scopes : goal.returns-in-Err-clause-err_scopes
returns-in-Err-clause-err_scopes c =
    let so_far = c.loop-tree.invariant.2 in
    spent_by c.args.scopes.now c.loop-tree.scopes c.plant_resource.new.scopes c.lower_resources.new.scopes (scopes_of_resources so_far.0) c.requires.scopes so_far.4 c.in-Err.ensures.err_scopes c.lower_resources.ensures.scopes

pub returns-in-Err-clause-err_logs : goal.returns-in-Err-clause-err_logs
returns-in-Err-clause-err_logs c =
    let so_far = c.loop-tree.invariant.2 in
    spent_by c.args.logs.now c.loop-tree.logs c.plant_resource.new.logs c.lower_resources.new.logs (records_of_resources so_far.0) c.requires.logs so_far.5 c.in-Err.ensures.err_logs c.lower_resources.ensures.logs

pub returns-in-Err-clause-err : goal.returns-in-Err-clause-err
returns-in-Err-clause-err c =
    let so_far = c.loop-tree.invariant.2 in
    let grown = grows_restored c.loop-tree.places.items (map a_resource so_far.0) (resource_level c.args.resources.now) (resource_level c.loop-tree.resources) (resource_level c.plant_resource.new.resources) (scope_level c.args.scopes.now ∷ log_level c.args.logs.now ∷ []) (scope_level c.loop-tree.scopes ∷ log_level c.loop-tree.logs ∷ []) (scope_level c.plant_resource.new.scopes ∷ log_level c.plant_resource.new.logs ∷ [])
    so_far.2 c.in-Err.ensures.err in
    let gone = rw c.as_slice.ensures.value at c.lower_resources.ensures.steps in
    restored c.loop-tree.places.items (map a_resource so_far.0) (resource_level c.args.resources.now) (resource_level c.plant_resource.new.resources) (resource_level c.lower_resources.new.resources) (scope_level c.args.scopes.now ∷ log_level c.args.logs.now ∷ []) (scope_level c.plant_resource.new.scopes ∷ log_level c.plant_resource.new.logs ∷ []) (scope_level c.lower_resources.new.scopes ∷ log_level c.lower_resources.new.logs ∷ [])
    grown gone c.requires.counts (tidy_level resource_made c.args.resources.now c.requires.resources, (tidy_level scope_made c.args.scopes.now c.requires.scopes, (tidy_level log_made c.args.logs.now c.requires.logs, tt))) (tidy_level resource_made c.lower_resources.new.resources c.lower_resources.ensures.resources.kept, (tidy_level scope_made c.lower_resources.new.scopes c.lower_resources.ensures.scopes.kept, (tidy_level log_made c.lower_resources.new.logs c.lower_resources.ensures.logs.kept, tt)))
