-- A forest in which a resource was made anew for the payload that names it.
use Rattle.std.proofs.Common.{◌≡◌, ◌+◌, ◌-◌, ◌<◌, ◌≤◌, ◌^◌, ℕ, List, [], ◌∷◌, length, get_or, map, min, set, Some, refl, sym, ◌∙◌, subst, arith}
use Rattle.pdata_tree.specs.declared.resource.ResourceNode.{ResourceNode}
use Rattle.pdata_tree.specs.declared.scope.ScopeNode.{ScopeNode}
use Rattle.shelf.specs.Places.{Places, count_at, item_at}
use Rattle.share_cow.specs.Copies.{AreRaised, InTree, Owns, Went}
use Rattle.share_cow.specs.Kept.{KeepsOthers}
use Rattle.share_cow.specs.Levels.{list_at}
use Rattle.share_cow.specs.Lowering.{Thins}
use Rattle.share_cow.specs.Owning.{NodeCopied, Raises}
use Rattle.share_cow.specs.Store.{IsSound, Part, Store, batch_level, batch_made, log_level, resource_level, resource_made, scope_level, scope_made, children_of, den, levels, made, nothing, root_level}
use Rattle.share_cow.specs.declared.node.Node.{Node}
use Rattle.share_cow.proofs.OwnBatch.{child_live, copy_names, item_there, names_live}
use Rattle.share_cow.proofs.OwnLevels.{are_raised, set_child_of}
use Rattle.share_cow.proofs.Owned.{with_thins}
use Rattle.share_cow.proofs.Steps.{child_owns, child_went, step_keeps, step_sound, step_tree}
use Rattle.share_cow.proofs.Ways.{child_there, owns_kept}
use Rattle.std.proofs.lemmas.List.{length-set}

module _ (o s : Store) (root parent i : ℕ) (sound : IsSound s) (w : Owns (levels o) (levels s) root (0 ∷ []) parent) (there : InTree (levels o) root (0 ∷ i ∷ [])) where
  abbrev child : ℕ
  child = get_or (list_at (map children_of s.batches.slots) parent) i 0

  pub resource_inside : i < length (list_at (map children_of s.batches.slots) parent)
  resource_inside = (child_there (levels o) (root_level s.roots ∷ []) root (0 ∷ []) parent i refl (batch_level s.batches) (resource_level s.resources) (scope_level s.scopes ∷ log_level s.logs ∷ []) w there).0

  pub resource_parent : 0 < count_at s.batches parent
  resource_parent = names_live batch_made s.batches parent i sound.batches resource_inside

  pub resource_live : 0 < count_at s.resources child
  resource_live = child_live s.batches (resource_level s.resources) sound.counts.1.0 parent i resource_inside

  pub resource_kept : (place : ℕ) → place ≡ child → count_at s.resources place ≤ 1 → Owns (levels o) (levels s) root (0 ∷ i ∷ []) place
  resource_kept place at few =
      subst (λ (q : ℕ). Owns (levels o) (levels s) root (0 ∷ i ∷ []) q) (sym at)
      (owns_kept (levels o) (root_level s.roots ∷ []) root (0 ∷ []) parent i refl (batch_level s.batches) (resource_level s.resources) (scope_level s.scopes ∷ log_level s.logs ∷ []) w there (subst (λ (q : ℕ). count_at s.resources q ≤ 1) at few))

  module _ (place new : ℕ) (at : place ≡ child) (content : ResourceNode) (ns : Places (Node ResourceNode)) (cs : Places (Node ScopeNode)) (places : List ℕ) (node : Node ResourceNode) (is : item_at s.resources place ≡ Some node) (same : content ≡ node.content)
      (many : 1 < count_at s.resources place) (c : NodeCopied place new content s.resources ns) (are : places ≡ list_at (map children_of ns.slots) new) (raised : Raises places s.scopes cs) where
    abbrev pub with_resource : Store
    with_resource = record s { batches = set_child_of s.batches parent i new; resources = ns; scopes = cs }

    abbrev named : (node : Node Unit) × (item_at s.batches parent ≡ Some node)
    named = item_there s.batches parent resource_parent

    here : item_at s.resources child ≡ Some node
    here = subst (λ (q : ℕ). item_at s.resources q ≡ Some node) at is

    still_many : 1 < count_at s.resources child
    still_many = subst (λ (q : ℕ). 1 < count_at s.resources q) at many

    copied : NodeCopied child new content s.resources ns
    copied = subst (λ (q : ℕ). NodeCopied q new content s.resources ns) at c

    below_raised : AreRaised {X = Part} (list_at (map children_of s.resources.slots) child) (Some (scope_level s.scopes)) (Some (scope_level cs))
    below_raised = subst (λ (qs : List ℕ). AreRaised qs (Some (scope_level s.scopes)) (Some (scope_level cs))) (are ∙ copy_names s.resources ns child new content copied) (are_raised scope_made places s.scopes cs raised)

    went : Went nothing (levels s) (levels with_resource) root (0 ∷ i ∷ []) 1
    went = child_went batch_made resource_made s.batches s.resources ns (Some (scope_level s.scopes)) (Some (scope_level cs)) (levels o) (root_level s.roots ∷ []) (log_level s.logs ∷ []) root (0 ∷ []) parent i new refl named.0 node content named.1 resource_parent resource_inside
        here same still_many copied below_raised sound.counts (sound.apart root) w there

    kept_upper : Thins s.batches (set_child_of s.batches parent i new)
    kept_upper = with_thins s.batches parent resource_parent (λ n. record n { children = set n.children i new }) sound.batches named.0 named.1 (length-set named.0.children i new)

    rose : made with_resource ≡ min (made s + 1) (2 ^ 128 - 1)
    rose = omega (arith, c.keeps.added, raised.thins.added)

    pub resource_owns : Owns (levels o) (levels with_resource) root (0 ∷ i ∷ []) new
    resource_owns = child_owns batch_made resource_made s.batches s.resources ns (Some (scope_level s.scopes)) (Some (scope_level cs)) (levels o) (root_level s.roots ∷ []) (log_level s.logs ∷ []) root (0 ∷ []) parent i new refl named.0 node content named.1 resource_parent resource_inside
        here same still_many copied below_raised sound.counts (sound.apart root) w there

    pub resource_tree : den with_resource root ≡ den s root
    resource_tree = step_tree s with_resource root (0 ∷ i ∷ []) sound went (λ r. (λ h. h, λ h. h)) refl refl root

    pub resource_keeps : KeepsOthers root s with_resource
    resource_keeps = step_keeps s with_resource root (0 ∷ i ∷ []) sound went (λ r. (λ h. h, λ h. h)) refl refl rose

    pub resource_sound : IsSound with_resource
    resource_sound = step_sound s with_resource root (0 ∷ i ∷ []) sound went (λ r. (λ h. h, λ h. h)) refl refl kept_upper.kept c.keeps.kept raised.thins.kept sound.logs
