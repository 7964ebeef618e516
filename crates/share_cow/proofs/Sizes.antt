-- A root's tree has as many places as nodes.
use Rattle.std.proofs.Common.{◌≡◌, ◌<◌, ℕ, true, List, [], ◌∷◌, length, map, Option, refl, ap, ◌∙◌, arith}
use Rattle.std.specs.Prelude.{filter_map}
use Rattle.pdata_tree.specs.Tree.{nodes, nodes_of_resources, nodes_of_scopes}
use Rattle.pdata_tree.specs.declared.record.LogRecord.{LogRecord}
use Rattle.pdata_tree.specs.declared.resource.ResourceNode.{ResourceNode}
use Rattle.pdata_tree.specs.declared.scope.ScopeNode.{ScopeNode}
use Rattle.shelf.specs.Places.{Places, count_at}
use Rattle.share_cow.specs.Levels.{Counted, list_at, shared_places, sum_over, value}
use Rattle.share_cow.specs.Lowering.{Holds}
use Rattle.share_cow.specs.Scene.{tree_of}
use Rattle.share_cow.specs.Store.{IsLiveRoot, IsSound, Part, Store, as_resource, as_scope, batch_named, children_of, log_level, nothing, places_of, resource_level, resource_levels, resource_made, root_at, scope_level, scope_levels, scope_made, tree_levels}
use Rattle.share_cow.specs.Views.{batch_or_empty}
use Rattle.share_cow.specs.declared.node.Node.{Node}
use Rattle.share_cow.proofs.Edits.{all_none}
use Rattle.share_cow.proofs.Lists.{times_at, times_head}
use Rattle.share_cow.proofs.Looks.{live_value, logs_length, named_logs, named_scopes, some_is, tree_is}
use Rattle.share_cow.proofs.Share.{batch_live}
use Rattle.share_cow.proofs.Views.{root_tree}

pub log_places : (logs : Places (Node LogRecord)) (qs : List ℕ) → sum_over (shared_places true (log_level logs ∷ [])) qs ≡ length qs
log_places logs [] = refl
log_places logs (q ∷ qs) =
    omega (arith, log_places logs qs, all_none (shared_places {X = Part} true []) (list_at (map children_of logs.slots) q) (λ r h. refl))

module _ (scopes : Places (Node ScopeNode)) (logs : Places (Node LogRecord)) (counted : Counted (scope_level scopes) (log_level logs)) where
  scope_places : (qs : List ℕ) → Holds qs (scope_level scopes)
      → nodes_of_scopes (filter_map as_scope (map (value nothing (scope_levels scopes logs)) qs)) ≡ sum_over (shared_places true (scope_levels scopes logs)) qs
  scope_places [] live = refl
  scope_places (q ∷ qs) live =
      let there : 0 < count_at scopes q = omega (arith, live q, times_head q qs) in
      let seen = live_value scope_made scopes (log_level logs ∷ []) q there in
      let rest = scope_places qs (λ p. omega (arith, live p)) in
      let own = logs_length logs (list_at (map children_of scopes.slots) q) (named_logs scopes logs counted q) in
      let below = log_places logs (list_at (map children_of scopes.slots) q) in
      rw seen (omega (arith, rest, own, below))

  module _ (resources : Places (Node ResourceNode)) (upper : Counted (resource_level resources) (scope_level scopes)) where
    pub resource_places : (qs : List ℕ) → Holds qs (resource_level resources)
        → nodes_of_resources (filter_map as_resource (map (value nothing (resource_levels resources scopes logs)) qs)) ≡ sum_over (shared_places true (resource_levels resources scopes logs)) qs
    resource_places [] live = refl
    resource_places (q ∷ qs) live =
        let there : 0 < count_at resources q = omega (arith, live q, times_head q qs) in
        let seen = live_value resource_made resources (scope_levels scopes logs) q there in
        let rest = resource_places qs (λ p. omega (arith, live p)) in
        let below = scope_places (list_at (map children_of resources.slots) q) (named_scopes resources scopes logs upper counted q) in
        rw seen (omega (arith, rest, below))

pub places_are_nodes : (s : Store) (root : ℕ) → IsSound s → IsLiveRoot s root → places_of s root ≡ nodes (tree_of s root)
places_are_nodes s root sound live =
    let is = some_is (root_at s root) live in
    let b_live = batch_live s root is.0 sound is.1 in
    let tree = ap batch_or_empty (root_tree s root is.0 sound is.1) ∙ tree_is s.batches (resource_levels s.resources s.scopes s.logs) is.0 b_live in
    let below = resource_places s.scopes s.logs sound.counts.1.1.1.0 s.resources sound.counts.1.1.0 (list_at (map children_of s.batches.slots) is.0)
    (λ q. omega (arith, sound.counts.1.0 q, times_at q (map children_of s.batches.slots) is.0)) in
    omega (arith, ap (λ (o : Option ℕ). sum_over (shared_places true (tree_levels s)) (batch_named o)) is.1, ap nodes tree, below)
