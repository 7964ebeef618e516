-- There are no more log records than nodes.
use Rattle.std.proofs.Common.{◌≤◌, List, [], ◌∷◌, arith}
use Rattle.pdata_tree.specs.Tree.{records_of_scopes, records_of_resources, nodes_of_scopes, nodes_of_resources}
use Rattle.pdata_tree.specs.declared.resource.ResourceTree.{ResourceTree}
use Rattle.pdata_tree.specs.declared.scope.ScopeTree.{ScopeTree}

pub scope_records : (ss : List ScopeTree) → records_of_scopes ss ≤ nodes_of_scopes ss
scope_records [] = omega arith
scope_records (s ∷ ss) = omega (arith, scope_records ss)

pub resource_records : (rs : List ResourceTree) → records_of_resources rs ≤ nodes_of_resources rs
resource_records [] = omega arith
resource_records (r ∷ rs) = omega (arith, scope_records r.scopes, resource_records rs)
