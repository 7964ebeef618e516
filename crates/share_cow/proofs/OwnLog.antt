-- A forest in which a log record was made anew for the scope that names it.
use Rattle.std.proofs.Common.{◌≡◌, ◌+◌, ◌-◌, ◌<◌, ◌≤◌, ◌^◌, ℕ, [], ◌∷◌, length, get_or, map, min, set, Some, None, refl, sym, subst, arith}
use Rattle.pdata_tree.specs.declared.record.LogRecord.{LogRecord}
use Rattle.pdata_tree.specs.declared.scope.ScopeNode.{ScopeNode}
use Rattle.shelf.specs.Places.{Places, count_at, item_at}
use Rattle.share_cow.specs.Copies.{AreRaised, InTree, Owns, Went}
use Rattle.share_cow.specs.Kept.{KeepsOthers}
use Rattle.share_cow.specs.Levels.{list_at}
use Rattle.share_cow.specs.Lowering.{Thins}
use Rattle.share_cow.specs.Owning.{NodeCopied}
use Rattle.share_cow.specs.Store.{IsSound, Part, Store, batch_level, log_level, log_made, resource_level, scope_level, scope_made, children_of, den, levels, made, nothing, root_level}
use Rattle.share_cow.specs.declared.node.Node.{Node}
use Rattle.share_cow.proofs.OwnBatch.{child_live, item_there, names_live}
use Rattle.share_cow.proofs.OwnLevels.{set_child_of}
use Rattle.share_cow.proofs.Owned.{with_thins}
use Rattle.share_cow.proofs.Steps.{child_owns, child_went, step_keeps, step_sound, step_tree}
use Rattle.share_cow.proofs.Ways.{child_there, owns_kept}
use Rattle.std.proofs.lemmas.List.{length-set}

module _ (o s : Store) (root r t parent i : ℕ) (sound : IsSound s) (w : Owns (levels o) (levels s) root (0 ∷ r ∷ t ∷ []) parent) (there : InTree (levels o) root (0 ∷ r ∷ t ∷ i ∷ [])) where
  abbrev child : ℕ
  child = get_or (list_at (map children_of s.scopes.slots) parent) i 0

  pub log_inside : i < length (list_at (map children_of s.scopes.slots) parent)
  log_inside = (child_there (levels o) (root_level s.roots ∷ batch_level s.batches ∷ resource_level s.resources ∷ []) root (0 ∷ r ∷ t ∷ []) parent i refl (scope_level s.scopes) (log_level s.logs) ([]) w there).0

  pub log_parent : 0 < count_at s.scopes parent
  log_parent = names_live scope_made s.scopes parent i sound.scopes log_inside

  pub log_live : 0 < count_at s.logs child
  log_live = child_live s.scopes (log_level s.logs) sound.counts.1.1.1.0 parent i log_inside

  pub log_kept : (place : ℕ) → place ≡ child → count_at s.logs place ≤ 1 → Owns (levels o) (levels s) root (0 ∷ r ∷ t ∷ i ∷ []) place
  log_kept place at few =
      subst (λ (q : ℕ). Owns (levels o) (levels s) root (0 ∷ r ∷ t ∷ i ∷ []) q) (sym at)
      (owns_kept (levels o) (root_level s.roots ∷ batch_level s.batches ∷ resource_level s.resources ∷ []) root (0 ∷ r ∷ t ∷ []) parent i refl (scope_level s.scopes) (log_level s.logs) ([]) w there (subst (λ (q : ℕ). count_at s.logs q ≤ 1) at few))

  module _ (place new : ℕ) (at : place ≡ child) (content : LogRecord) (ns : Places (Node LogRecord)) (node : Node LogRecord) (is : item_at s.logs place ≡ Some node) (same : content ≡ node.content)
      (many : 1 < count_at s.logs place) (c : NodeCopied place new content s.logs ns) where
    abbrev pub with_log : Store
    with_log = record s { scopes = set_child_of s.scopes parent i new; logs = ns }

    abbrev named : (node : Node ScopeNode) × (item_at s.scopes parent ≡ Some node)
    named = item_there s.scopes parent log_parent

    here : item_at s.logs child ≡ Some node
    here = subst (λ (q : ℕ). item_at s.logs q ≡ Some node) at is

    still_many : 1 < count_at s.logs child
    still_many = subst (λ (q : ℕ). 1 < count_at s.logs q) at many

    copied : NodeCopied child new content s.logs ns
    copied = subst (λ (q : ℕ). NodeCopied q new content s.logs ns) at c

    below_raised : AreRaised {X = Part} (list_at (map children_of s.logs.slots) child) None None
    below_raised = tt

    went : Went nothing (levels s) (levels with_log) root (0 ∷ r ∷ t ∷ i ∷ []) 1
    went = child_went scope_made log_made s.scopes s.logs ns None None (levels o) (root_level s.roots ∷ batch_level s.batches ∷ resource_level s.resources ∷ []) ([]) root (0 ∷ r ∷ t ∷ []) parent i new refl named.0 node content named.1 log_parent log_inside
        here same still_many copied below_raised sound.counts (sound.apart root) w there

    kept_upper : Thins s.scopes (set_child_of s.scopes parent i new)
    kept_upper = with_thins s.scopes parent log_parent (λ n. record n { children = set n.children i new }) sound.scopes named.0 named.1 (length-set named.0.children i new)

    rose : made with_log ≡ min (made s + 1) (2 ^ 128 - 1)
    rose = omega (arith, c.keeps.added)

    pub log_owns : Owns (levels o) (levels with_log) root (0 ∷ r ∷ t ∷ i ∷ []) new
    log_owns = child_owns scope_made log_made s.scopes s.logs ns None None (levels o) (root_level s.roots ∷ batch_level s.batches ∷ resource_level s.resources ∷ []) ([]) root (0 ∷ r ∷ t ∷ []) parent i new refl named.0 node content named.1 log_parent log_inside
        here same still_many copied below_raised sound.counts (sound.apart root) w there

    pub log_tree : den with_log root ≡ den s root
    log_tree = step_tree s with_log root (0 ∷ r ∷ t ∷ i ∷ []) sound went (λ r. (λ h. h, λ h. h)) refl refl root

    pub log_keeps : KeepsOthers root s with_log
    log_keeps = step_keeps s with_log root (0 ∷ r ∷ t ∷ i ∷ []) sound went (λ r. (λ h. h, λ h. h)) refl refl rose

    pub log_sound : IsSound with_log
    log_sound = step_sound s with_log root (0 ∷ r ∷ t ∷ i ∷ []) sound went (λ r. (λ h. h, λ h. h)) refl refl sound.batches sound.resources kept_upper.kept c.keeps.kept
