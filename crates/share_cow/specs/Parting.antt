-- What comes to a forest's nodes where a part of a tree is made anew that shares the nodes of one
-- level.
use Rattle.std.specs.Prelude.{◌≡◌, ◌+◌, ◌<◌, ◌≤◌, ℕ, List, [], ◌∷◌, ◌++◌, filter_map, map}
use Rattle.pdata_tree.specs.declared.record.LogRecord.{LogRecord}
use Rattle.pdata_tree.specs.declared.resource.ResourceNode.{ResourceNode}
use Rattle.pdata_tree.specs.declared.resource.ResourceTree.{ResourceTree}
use Rattle.pdata_tree.specs.declared.scope.ScopeNode.{ScopeNode}
use Rattle.pdata_tree.specs.declared.scope.ScopeTree.{ScopeTree}
use Rattle.shelf.specs.Places.{Places}
use Rattle.share_cow.specs.Levels.{AllCounted, Level, stands, sum_over, times, value}
use Rattle.share_cow.specs.Lowering.{AllAgree}
use Rattle.share_cow.specs.Planting.{AllMore}
use Rattle.share_cow.specs.Store.{Part, as_resource, as_scope, batch_level, nothing, resource_level, resource_levels, scope_level, scope_levels}
use Rattle.share_cow.specs.declared.node.Node.{Node}

-- the scopes at some places
abbrev pub scopes_at : Places (Node ScopeNode) → Places (Node LogRecord) → List ℕ → List ScopeTree
scopes_at scopes logs places =
    filter_map as_scope (map (value nothing (scope_levels scopes logs)) places)

-- the resources at some places
abbrev pub resources_at : Places (Node ResourceNode) → Places (Node ScopeNode)
    → Places (Node LogRecord)
    → List ℕ → List ResourceTree
resources_at resources scopes logs places =
    filter_map as_resource (map (value nothing (resource_levels resources scopes logs)) places)

-- how often a log record stands below scopes
abbrev pub below_scopes : Places (Node ScopeNode) → List ℕ → ℕ → ℕ
below_scopes scopes places q = sum_over (stands (scope_level scopes ∷ []) q) places

-- and below resources
abbrev pub below_resources : Places (Node ResourceNode) → Places (Node ScopeNode) → List ℕ → ℕ → ℕ
below_resources resources scopes places q =
    sum_over (stands (resource_level resources ∷ scope_level scopes ∷ []) q) places

-- and below a payload
abbrev pub below_batch : Places (Node Unit) → Places (Node ResourceNode) → Places (Node ScopeNode)
    → ℕ → ℕ → ℕ
below_batch batches resources scopes batch q =
    stands (batch_level batches ∷ resource_level resources ∷ scope_level scopes ∷ []) q batch

-- New nodes came to the places of the first level, which count once and stand for the parts. Below
-- them are further new nodes, and nodes of the last level that were there before, which count more,
-- but by no more than so much. What counted before is as it was, and the counts below are right.
pub record Parts (most : ℕ → ℕ) (places : List ℕ) (parts : List Part) (l m : Level Part)
    (ls ms : List (Level Part)) (k n : Level Part) : Type 0 where
  pub counts : (p : ℕ) → m.count p ≡ l.count p + times p places
  pub fresh : (p : ℕ) → 0 < times p places → m.count p ≡ 1
  pub more : AllMore ls ms
  pub no_fewer : (p : ℕ) → k.count p ≤ n.count p
  pub rose : (p : ℕ) → n.count p ≤ k.count p + most p
  pub agree : AllAgree (l ∷ ls ++ k ∷ []) (l ∷ ls ++ k ∷ []) (m ∷ ms ++ n ∷ [])
  pub counted : AllCounted (m ∷ ms ++ n ∷ [])
  pub values : map (value nothing (m ∷ ms ++ n ∷ [])) places ≡ parts
