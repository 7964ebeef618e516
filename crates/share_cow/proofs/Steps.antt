-- A forest after a node was made anew.
use Rattle.std.proofs.Common.{◌≡◌, ◌+◌, ◌-◌, ◌<◌, ◌≤◌, ◌^◌, ◌↔◌, ℕ, false, true, List, [], ◌∷◌, ◌++◌, length, get_or, take, drop, map, min, Option, Some, ap, arith}
use Rattle.std.specs.Prelude.{count_by, is_some}
use Rattle.std.proofs.lemmas.List.{length-take-le}
use Rattle.shelf.specs.Places.{Places, count_at, item_at}
use Rattle.share_cow.specs.Copies.{AreRaised, Copies, InTree, Owns, Went, onto}
use Rattle.share_cow.specs.Kept.{KeepsOthers}
use Rattle.share_cow.specs.Levels.{AllCounted, IsApart, Level, list_at, shared_places, sum_over}
use Rattle.share_cow.specs.Owning.{NodeCopied}
use Rattle.share_cow.specs.Store.{IsKept, IsLiveRoot, IsSound, Part, Store, as_batch, children_of, den, level_of, levels, made, nothing, places_of, shared, tree_levels}
use Rattle.share_cow.specs.declared.node.Node.{Node}
use Rattle.share_cow.proofs.OwnLevels.{copies, renames_child, set_child_of}
use Rattle.share_cow.proofs.Table.{root_list}
use Rattle.share_cow.proofs.Ways.{owns_copied, went_one}

pub levels_shared : (s : Store) (r : ℕ) → shared_places false (levels s) r ≡ shared s r
levels_shared s r = omega (arith, ap (sum_over (shared_places false (tree_levels s))) (root_list s.roots r))

pub levels_places : (s : Store) (r : ℕ) → shared_places true (levels s) r ≡ 1 + places_of s r
levels_places s r = omega (arith, ap (sum_over (shared_places true (tree_levels s))) (root_list s.roots r))

module _ (s t : Store) (root : ℕ) (path : List ℕ) (sound : IsSound s) (w : Went nothing (levels s) (levels t) root path 1)
    (live : (r : ℕ) → IsLiveRoot t r ↔ IsLiveRoot s r) (roots : count_by is_some t.roots ≡ count_by is_some s.roots) (most : t.most ≡ s.most) where
  pub step_tree : (r : ℕ) → den t r ≡ den s r
  step_tree r = ap as_batch (w.same r)

  step_fewer : (r : ℕ) → shared t r ≤ shared s r
  step_fewer r = omega (arith, w.never_more r, levels_shared s r, levels_shared t r)

  pub step_keeps : made t ≡ min (made s + 1) (2 ^ 128 - 1) → KeepsOthers root s t
  step_keeps rose = record {
    others = record {
      trees = λ other d. record { tree = step_tree other; live = live other };
      shared = λ other d. step_fewer other;
    };
    live = live root;
    places = omega (arith, w.size root, levels_places s root, levels_places t root);
    fewer = step_fewer root;
    rose = omega (arith, rose, w.less, levels_shared s root, levels_shared t root);
    entries = omega (arith, roots, most);
  }

  pub step_sound : IsKept t.batches → IsKept t.resources → IsKept t.scopes → IsKept t.logs → IsSound t
  step_sound batches resources scopes logs = record {
    counts = w.counted;
    apart = λ r. w.apart r (sound.apart r);
    batches = batches;
    resources = resources;
    scopes = scopes;
    logs = logs;
    roots = omega (arith, roots, most, sound.roots);
    most = omega (arith, most, sound.most);
  }

-- a child of a node
module _ {U D : Type 0} (upper : U → List Part → Part) (make : D → List Part → Part) (us : Places (Node U)) (ns ns2 : Places (Node D)) (b b2 : Option (Level Part))
    (os above below : List (Level Part)) (root : ℕ) (front : List ℕ) (parent i new : ℕ) (len : length front ≡ length above) (named : Node U) (node : Node D) (content : D)
    (parent_is : item_at us parent ≡ Some named) (parent_live : 0 < count_at us parent) (inside : i < length (list_at (map children_of us.slots) parent))
    (is : item_at ns (get_or (list_at (map children_of us.slots) parent) i 0) ≡ Some node) (same : content ≡ node.content) (many : 1 < count_at ns (get_or (list_at (map children_of us.slots) parent) i 0))
    (c : NodeCopied (get_or (list_at (map children_of us.slots) parent) i 0) new content ns ns2)
    (raised : AreRaised (list_at (map children_of ns.slots) (get_or (list_at (map children_of us.slots) parent) i 0)) b b2)
    (all : AllCounted (above ++ level_of upper us ∷ level_of make ns ∷ onto b below)) (apart : IsApart (above ++ level_of upper us ∷ level_of make ns ∷ onto b below) root)
    (w : Owns os (above ++ level_of upper us ∷ level_of make ns ∷ onto b below) root front parent) (there : InTree os root (front ++ i ∷ [])) where
  abbrev after : List (Level Part)
  after = above ++ level_of upper (set_child_of us parent i new) ∷ level_of make ns2 ∷ onto b2 below

  child_copies : Copies parent (get_or (list_at (map children_of us.slots) parent) i 0) new (take i (list_at (map children_of us.slots) parent)) (drop (i + 1) (list_at (map children_of us.slots) parent))
      (level_of upper us) (level_of make ns) (level_of upper (set_child_of us parent i new)) (level_of make ns2) b b2
  child_copies =
      copies make ns ns2 (get_or (list_at (map children_of us.slots) parent) i 0) new node content is same many c
      parent (take i (list_at (map children_of us.slots) parent)) (drop (i + 1) (list_at (map children_of us.slots) parent))
      (level_of upper us) (level_of upper (set_child_of us parent i new)) b b2
      (renames_child upper us parent i new named parent_live parent_is inside) raised

  at : length (take i (list_at (map children_of us.slots) parent)) ≡ i
  at = length-take-le i (list_at (map children_of us.slots) parent) (omega (arith, inside))

  pub child_went : Went nothing (above ++ level_of upper us ∷ level_of make ns ∷ onto b below) after root (front ++ i ∷ []) 1
  child_went = went_one os above root front parent i len child_copies below nothing at all apart w there [] tt

  pub child_owns : Owns os after root (front ++ i ∷ []) new
  child_owns = owns_copied os above root front parent i len child_copies below nothing at all apart w there
