-- A forest in which a scope was made anew for the resource that names it.
use Rattle.std.proofs.Common.{◌≡◌, ◌+◌, ◌-◌, ◌<◌, ◌≤◌, ◌^◌, ℕ, List, [], ◌∷◌, length, get_or, map, min, set, Some, refl, sym, ◌∙◌, subst, arith}
use Rattle.pdata_tree.specs.declared.scope.ScopeNode.{ScopeNode}
use Rattle.pdata_tree.specs.declared.resource.ResourceNode.{ResourceNode}
use Rattle.pdata_tree.specs.declared.record.LogRecord.{LogRecord}
use Rattle.shelf.specs.Places.{Places, count_at, item_at}
use Rattle.share_cow.specs.Copies.{AreRaised, InTree, Owns, Went}
use Rattle.share_cow.specs.Kept.{KeepsOthers}
use Rattle.share_cow.specs.Levels.{list_at}
use Rattle.share_cow.specs.Lowering.{Thins}
use Rattle.share_cow.specs.Owning.{NodeCopied, Raises}
use Rattle.share_cow.specs.Store.{IsSound, Part, Store, batch_level, log_level, log_made, resource_level, resource_made, scope_level, scope_made, children_of, den, levels, made, nothing, root_level}
use Rattle.share_cow.specs.declared.node.Node.{Node}
use Rattle.share_cow.proofs.OwnBatch.{child_live, copy_names, item_there, names_live}
use Rattle.share_cow.proofs.OwnLevels.{are_raised, set_child_of}
use Rattle.share_cow.proofs.Owned.{with_thins}
use Rattle.share_cow.proofs.Steps.{child_owns, child_went, step_keeps, step_sound, step_tree}
use Rattle.share_cow.proofs.Ways.{child_there, owns_kept}
use Rattle.std.proofs.lemmas.List.{length-set}

module _ (o s : Store) (root r parent i : ℕ) (sound : IsSound s) (w : Owns (levels o) (levels s) root (0 ∷ r ∷ []) parent) (there : InTree (levels o) root (0 ∷ r ∷ i ∷ [])) where
  abbrev child : ℕ
  child = get_or (list_at (map children_of s.resources.slots) parent) i 0

  pub scope_inside : i < length (list_at (map children_of s.resources.slots) parent)
  scope_inside = (child_there (levels o) (root_level s.roots ∷ batch_level s.batches ∷ []) root (0 ∷ r ∷ []) parent i refl (resource_level s.resources) (scope_level s.scopes) (log_level s.logs ∷ []) w there).0

  pub scope_parent : 0 < count_at s.resources parent
  scope_parent = names_live resource_made s.resources parent i sound.resources scope_inside

  pub scope_live : 0 < count_at s.scopes child
  scope_live = child_live s.resources (scope_level s.scopes) sound.counts.1.1.0 parent i scope_inside

  pub scope_kept : (place : ℕ) → place ≡ child → count_at s.scopes place ≤ 1 → Owns (levels o) (levels s) root (0 ∷ r ∷ i ∷ []) place
  scope_kept place at few =
      subst (λ (q : ℕ). Owns (levels o) (levels s) root (0 ∷ r ∷ i ∷ []) q) (sym at)
      (owns_kept (levels o) (root_level s.roots ∷ batch_level s.batches ∷ []) root (0 ∷ r ∷ []) parent i refl (resource_level s.resources) (scope_level s.scopes) (log_level s.logs ∷ []) w there (subst (λ (q : ℕ). count_at s.scopes q ≤ 1) at few))

  module _ (place new : ℕ) (at : place ≡ child) (content : ScopeNode) (ns : Places (Node ScopeNode)) (cs : Places (Node LogRecord)) (places : List ℕ) (node : Node ScopeNode) (is : item_at s.scopes place ≡ Some node) (same : content ≡ node.content)
      (many : 1 < count_at s.scopes place) (c : NodeCopied place new content s.scopes ns) (are : places ≡ list_at (map children_of ns.slots) new) (raised : Raises places s.logs cs) where
    abbrev pub with_scope : Store
    with_scope = record s { resources = set_child_of s.resources parent i new; scopes = ns; logs = cs }

    abbrev named : (node : Node ResourceNode) × (item_at s.resources parent ≡ Some node)
    named = item_there s.resources parent scope_parent

    here : item_at s.scopes child ≡ Some node
    here = subst (λ (q : ℕ). item_at s.scopes q ≡ Some node) at is

    still_many : 1 < count_at s.scopes child
    still_many = subst (λ (q : ℕ). 1 < count_at s.scopes q) at many

    copied : NodeCopied child new content s.scopes ns
    copied = subst (λ (q : ℕ). NodeCopied q new content s.scopes ns) at c

    below_raised : AreRaised {X = Part} (list_at (map children_of s.scopes.slots) child) (Some (log_level s.logs)) (Some (log_level cs))
    below_raised = subst (λ (qs : List ℕ). AreRaised qs (Some (log_level s.logs)) (Some (log_level cs))) (are ∙ copy_names s.scopes ns child new content copied) (are_raised log_made places s.logs cs raised)

    went : Went nothing (levels s) (levels with_scope) root (0 ∷ r ∷ i ∷ []) 1
    went = child_went resource_made scope_made s.resources s.scopes ns (Some (log_level s.logs)) (Some (log_level cs)) (levels o) (root_level s.roots ∷ batch_level s.batches ∷ []) ([]) root (0 ∷ r ∷ []) parent i new refl named.0 node content named.1 scope_parent scope_inside
        here same still_many copied below_raised sound.counts (sound.apart root) w there

    kept_upper : Thins s.resources (set_child_of s.resources parent i new)
    kept_upper = with_thins s.resources parent scope_parent (λ n. record n { children = set n.children i new }) sound.resources named.0 named.1 (length-set named.0.children i new)

    rose : made with_scope ≡ min (made s + 1) (2 ^ 128 - 1)
    rose = omega (arith, c.keeps.added, raised.thins.added)

    pub scope_owns : Owns (levels o) (levels with_scope) root (0 ∷ r ∷ i ∷ []) new
    scope_owns = child_owns resource_made scope_made s.resources s.scopes ns (Some (log_level s.logs)) (Some (log_level cs)) (levels o) (root_level s.roots ∷ batch_level s.batches ∷ []) ([]) root (0 ∷ r ∷ []) parent i new refl named.0 node content named.1 scope_parent scope_inside
        here same still_many copied below_raised sound.counts (sound.apart root) w there

    pub scope_tree : den with_scope root ≡ den s root
    scope_tree = step_tree s with_scope root (0 ∷ r ∷ i ∷ []) sound went (λ r. (λ h. h, λ h. h)) refl refl root

    pub scope_keeps : KeepsOthers root s with_scope
    scope_keeps = step_keeps s with_scope root (0 ∷ r ∷ i ∷ []) sound went (λ r. (λ h. h, λ h. h)) refl refl rose

    pub scope_sound : IsSound with_scope
    scope_sound = step_sound s with_scope root (0 ∷ r ∷ i ∷ []) sound went (λ r. (λ h. h, λ h. h)) refl refl sound.batches kept_upper.kept c.keeps.kept raised.thins.kept
