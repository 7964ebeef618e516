-- The tree of a root after the node at the end of a path stands for something else.
use Rattle.std.proofs.Common.{◌≡◌, ◌<◌, ℕ, zero, suc, List, [], ◌∷◌, length, set, map, Option, Some, refl, ap, ◌∙◌, arith}
use Rattle.std.specs.Prelude.{IsSome, filter_map}
use Rattle.pdata_tree.specs.declared.record.LogRecord.{LogRecord}
use Rattle.pdata_tree.specs.declared.resource.ResourceNode.{ResourceNode}
use Rattle.pdata_tree.specs.declared.resource.ResourceTree.{ResourceTree}
use Rattle.pdata_tree.specs.declared.scope.ScopeNode.{ScopeNode}
use Rattle.pdata_tree.specs.declared.scope.ScopeTree.{ScopeTree}
use Rattle.shelf.specs.Places.{Places, item_at}
use Rattle.share_cow.specs.Levels.{named, times, value}
use Rattle.share_cow.specs.Lowering.{Holds}
use Rattle.share_cow.specs.Store.{Part, as_batch, as_log, as_resource, as_scope, batch_made, built, first_part, log_level, nothing, resource_level, resource_levels, resource_made, scope_level, scope_levels, scope_made}
use Rattle.share_cow.specs.declared.node.Node.{Node}
use Rattle.share_cow.proofs.Lists.{times_head}
use Rattle.share_cow.proofs.Looks.{is_log, is_resource, is_scope, some_is}

-- one part of a list of one kind is another one
set_parts : {Y : Type 0} (kind : Part → Option Y) (v : ℕ → Part) (qs : List ℕ) (i : ℕ) (x : Part) (y : Y) → i < length qs → ((q : ℕ) → 0 < times q qs → IsSome (kind (v q))) → kind x ≡ Some y
    → filter_map kind (set (map v qs) i x) ≡ set (filter_map kind (map v qs)) i y
set_parts kind v [] i x y h all is = absurd (omega arith)
set_parts kind v (q ∷ qs) zero x y h all is =
    let head = some_is (kind (v q)) (all q (omega (arith, times_head q qs))) in
    rw (is, head.1) refl
set_parts {Y} kind v (q ∷ qs) (suc i) x y h all is =
    let head = some_is (kind (v q)) (all q (omega (arith, times_head q qs))) in
    rw head.1 (ap (λ (ys : List Y). head.0 ∷ ys) (set_parts kind v qs i x y (omega arith) (λ r n. all r (omega arith)) is))

-- a scope of which one log record changes
pub scope_set : (logs : Places (Node LogRecord)) (scopes : Places (Node ScopeNode)) (q : ℕ) (node : Node ScopeNode) (places : List ℕ) (k : ℕ) (x : Part) (l : LogRecord) → item_at scopes q ≡ Some node
    → Holds places (log_level logs) → k < length places → as_log x ≡ Some l
    → as_scope (built scope_made (item_at scopes q) (set (map (value nothing (log_level logs ∷ [])) places) k x))
    ≡ Some (record { node = node.content; logs = set (filter_map as_log (map (value nothing (log_level logs ∷ [])) places)) k l })
scope_set logs scopes q node places k x l is live h are =
    ap (λ (o : Option (Node ScopeNode)). as_scope (built scope_made o (set (map (value nothing (log_level logs ∷ [])) places) k x))) is
    ∙ ap (λ (ls : List LogRecord). Some (record { node = node.content; logs = ls }))
    (set_parts as_log (value nothing (log_level logs ∷ [])) places k x l h (is_log logs places live) are)

module _ (scopes : Places (Node ScopeNode)) (logs : Places (Node LogRecord)) (counted : (p : ℕ) → (log_level logs).count p ≡ named p (scope_level scopes).children) where
  -- a resource of which one scope changes
  pub resource_set : (resources : Places (Node ResourceNode)) (q : ℕ) (node : Node ResourceNode) (places : List ℕ) (j : ℕ) (x : Part) (s : ScopeTree) → item_at resources q ≡ Some node
      → Holds places (scope_level scopes) → j < length places → as_scope x ≡ Some s
      → as_resource (built resource_made (item_at resources q) (set (map (value nothing (scope_levels scopes logs)) places) j x))
      ≡ Some (record { node = node.content; scopes = set (filter_map as_scope (map (value nothing (scope_levels scopes logs)) places)) j s })
  resource_set resources q node places j x s is live h are =
      ap (λ (o : Option (Node ResourceNode)). as_resource (built resource_made o (set (map (value nothing (scope_levels scopes logs)) places) j x))) is
      ∙ ap (λ (ss : List ScopeTree). Some (record { node = node.content; scopes = ss }))
      (set_parts as_scope (value nothing (scope_levels scopes logs)) places j x s h (is_scope scopes logs counted places live) are)

first_set : (parts : List Part) (x : Part) → 0 < length parts → first_part (set parts 0 x) ≡ x
first_set [] x h = absurd (omega arith)
first_set (part ∷ parts) x h = refl

-- a payload of which one resource changes
pub batch_set : (resources : Places (Node ResourceNode)) (scopes : Places (Node ScopeNode)) (logs : Places (Node LogRecord)) → ((p : ℕ) → (scope_level scopes).count p ≡ named p (resource_level resources).children)
    → ((p : ℕ) → (log_level logs).count p ≡ named p (scope_level scopes).children)
    → (batches : Places (Node Unit)) (q : ℕ) (node : Node Unit) (places : List ℕ) (i : ℕ) (x : Part) (r : ResourceTree) (parts : List Part) → item_at batches q ≡ Some node
    → Holds places (resource_level resources) → i < length places → 0 < length parts → as_resource x ≡ Some r
    → as_batch (first_part (set parts 0 (built batch_made (item_at batches q) (set (map (value nothing (resource_levels resources scopes logs)) places) i x))))
    ≡ Some (record { resources = set (filter_map as_resource (map (value nothing (resource_levels resources scopes logs)) places)) i r })
batch_set resources scopes logs upper lower batches q node places i x r parts is live h some are =
    ap as_batch (first_set parts (built batch_made (item_at batches q) (set (map (value nothing (resource_levels resources scopes logs)) places) i x)) some)
    ∙ ap (λ (o : Option (Node Unit)). as_batch (built batch_made o (set (map (value nothing (resource_levels resources scopes logs)) places) i x))) is
    ∙ ap (λ (rs : List ResourceTree). Some (record { resources = rs }))
    (set_parts as_resource (value nothing (resource_levels resources scopes logs)) places i x r h (is_resource resources scopes logs upper lower places live) are)
