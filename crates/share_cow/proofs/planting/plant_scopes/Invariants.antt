use Rattle.std.proofs.Common.{◌≡◌, ◌≤◌, ◌++◌, ◌∷◌, [], List, length, map, vec_len, vec_capacity}
use Rattle.pdata_tree.specs.Tree.{records_of_scopes}
use Rattle.pdata_tree.specs.declared.scope.ScopeTree.{ScopeTree}
use Rattle.share_cow.specs.Planting.{Grows, Keeps}
use Rattle.share_cow.specs.Store.{a_scope, scope_level, log_level}
use Rattle.share_cow.proofs.planting.plant_scopes.Given as goal

-- those so far have come, and there is room for the places of all
abbrev pub invariant-loop-tree : goal.invariant-loop-tree
invariant-loop-tree l =
    (goal.iterator-loop-tree).can_next l.tree-iterator
    × (goal.iterator-loop-tree).is_finite l.tree-iterator
    × ((done : List ScopeTree) × (l.fn.list ≡ done ++ l.tree-iterator.rest.items)
    × Grows l.places.items (map a_scope done) (scope_level l.fn.scopes) (scope_level l.scopes) (log_level l.fn.logs ∷ []) (log_level l.logs ∷ [])
    × Keeps (length done) l.fn.scopes l.scopes
    × Keeps (records_of_scopes done) l.fn.logs l.logs
    × (vec_len l.places ≡ length done)
    × (length l.fn.list ≤ vec_capacity l.places))
