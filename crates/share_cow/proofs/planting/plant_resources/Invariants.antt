use Rattle.std.proofs.Common.{◌≡◌, ◌≤◌, ◌++◌, ◌∷◌, [], List, length, map, vec_len, vec_capacity}
use Rattle.pdata_tree.specs.Tree.{records_of_resources}
use Rattle.pdata_tree.specs.declared.resource.ResourceTree.{ResourceTree}
use Rattle.share_cow.specs.Planting.{Grows, Keeps, scopes_of_resources}
use Rattle.share_cow.specs.Store.{a_resource, resource_level, scope_level, log_level}
use Rattle.share_cow.proofs.planting.plant_resources.Given as goal

-- those so far have come, and there is room for the places of all
abbrev pub invariant-loop-tree : goal.invariant-loop-tree
invariant-loop-tree l =
    (goal.iterator-loop-tree).can_next l.tree-iterator
    × (goal.iterator-loop-tree).is_finite l.tree-iterator
    × ((done : List ResourceTree) × (l.fn.list ≡ done ++ l.tree-iterator.rest.items)
    × Grows l.places.items (map a_resource done) (resource_level l.fn.resources) (resource_level l.resources) (scope_level l.fn.scopes ∷ log_level l.fn.logs ∷ []) (scope_level l.scopes ∷ log_level l.logs ∷ [])
    × Keeps (length done) l.fn.resources l.resources
    × Keeps (scopes_of_resources done) l.fn.scopes l.scopes
    × Keeps (records_of_resources done) l.fn.logs l.logs
    × (vec_len l.places ≡ length done)
    × (length l.fn.list ≤ vec_capacity l.places))
