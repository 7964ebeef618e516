-- A payload that came beside those that roots name. It may share nodes with one root's tree.
use Rattle.std.proofs.Common.{◌≡◌, ◌≢◌, ◌+◌, ◌<◌, ◌≤◌, ℕ, zero, suc, false, List, [], ◌∷◌, ◌++◌, map, take, Option, Some, None, refl, ap, sym, ◌∙◌, subst, arith, inl, inr, ◌⊎◌}
use Rattle.std.specs.Prelude.{count_by, is_some, slice_index_or, ◌==◌}
use Rattle.std.proofs.lemmas.Bool.Decides.{eqb_tells}
use Rattle.pdata_tree.specs.Tree.{nodes, spine}
use Rattle.pdata_tree.specs.declared.batch.Batch.{Batch}
use Rattle.pdata_tree.specs.declared.record.LogRecord.{LogRecord}
use Rattle.pdata_tree.specs.declared.resource.ResourceNode.{ResourceNode}
use Rattle.pdata_tree.specs.declared.scope.ScopeNode.{ScopeNode}
use Rattle.shelf.specs.Places.{Places, count_at}
use Rattle.share_cow.specs.Kept.{SameTree, SharesWith}
use Rattle.share_cow.specs.Levels.{AllCounted, Counted, IsApart, Level, list_at, shared_places, stands, sum_over, times, value}
use Rattle.share_cow.specs.Lowering.{AllAgree}
use Rattle.share_cow.specs.Scene.{tree_of}
use Rattle.share_cow.specs.Store.{IsKept, IsSound, Part, Store, a_batch, as_batch, batch_level, batch_named, den, first_part, levels, nothing, resource_levels, root_at, root_level, shared, tree_levels}
use Rattle.share_cow.specs.Views.{batch_or_empty}
use Rattle.share_cow.specs.declared.node.Node.{Node}
use Rattle.share_cow.proofs.Apart.{other_place, stands_weighted, weighted_apart}
use Rattle.share_cow.proofs.CopySharing.{over_one, shared_parts}
use Rattle.share_cow.proofs.Growing.{New, some_or_none}
use Rattle.share_cow.proofs.Lists.{named_but, sum_below, times_at}
use Rattle.share_cow.proofs.Same.{SameFrom, all_same, one_at_most, same_from, shared_all, shared_whole}
use Rattle.share_cow.proofs.Steps.{levels_shared}
use Rattle.share_cow.proofs.Table.{apart_same, den_same, live_root, root_list}

-- of what counted, only what stands in the tree of `root` counts more
abbrev pub Touched : ℕ → List (Level Part) → List (Level Part) → List (Level Part) → Type 0
Touched root above [] [] = Unit {0}
Touched root above [] (m ∷ ms) = ⊥
Touched root above (l ∷ ls) [] = ⊥
Touched root above (l ∷ ls) (m ∷ ms) =
    ((p : ℕ) → 0 < l.count p → m.count p ≤ l.count p + stands above p root) × Touched root (above ++ l ∷ []) ls ms

-- what doesn't stand in that tree, or was shared before, shares no more than before
touched_here : (root : ℕ) (above ls ms : List (Level Part)) (l m : Level Part) (p : ℕ) → (m.count p ≤ l.count p + stands above p root) → SameFrom (l ∷ ls) (m ∷ ms) p → (stands above p root ≡ 0) ⊎ (1 < l.count p)
    → (stands above p root ≡ 0 → (q : ℕ) → 0 < times q (list_at l.children p) → shared_places false ms q ≤ shared_places false ls q) → shared_places false (m ∷ ms) p ≤ shared_places false (l ∷ ls) p
touched_here root above ls ms l m p few same out below = elim (over_one (l.count p)) as (λ x. shared_places false (m ∷ ms) p ≤ shared_places false (l ∷ ls) p) [
  | inl many ↦ omega (arith, shared_whole l ls p many, shared_all false (m ∷ ms) p, all_same (l ∷ ls) (m ∷ ms) p same)
  | inr one ↦
      (let none : stands above p root ≡ 0 = elim out as (λ x. stands above p root ≡ 0) [ inl e ↦ e | inr many ↦ absurd (omega (arith, one, many)) ] in
      omega (
        arith,
        shared_parts l ls p one,
        shared_parts m ms p (omega (arith, few, none, one)),
        ap (sum_over (shared_places false ms)) same.0,
        sum_below (shared_places false ms) (shared_places false ls) (list_at l.children p) (below none),
      ))
]

-- a node that another one names too was shared before
named_out : (root : ℕ) (above : List (Level Part)) (l k : Level Part) (p q : ℕ) → Counted l k → stands above p root ≡ 0 → 0 < times q (list_at l.children p) → (stands (above ++ l ∷ []) q root ≡ 0) ⊎ (1 < k.count q)
named_out root above l k p q counted none h = elim (some_or_none (stands (above ++ l ∷ []) q root)) as (λ x. (stands (above ++ l ∷ []) q root ≡ 0) ⊎ (1 < k.count q)) [
  | inl e ↦ inr (omega (arith, h, weighted_apart (λ i. stands above i root) q p l.children none (omega (arith, e, stands_weighted above l q root)), counted q))
  | inr e ↦ inl e
]

touched_less : (root : ℕ) (above ls ms : List (Level Part)) (l m : Level Part) → AllCounted (l ∷ ls) → Touched root above (l ∷ ls) (m ∷ ms)
    → (p : ℕ) → SameFrom (l ∷ ls) (m ∷ ms) p → 0 < l.count p → (stands above p root ≡ 0) ⊎ (1 < l.count p) → shared_places false (m ∷ ms) p ≤ shared_places false (l ∷ ls) p
touched_less root above [] [] l m counted touched p same live out = touched_here root above [] [] l m p (touched.0 p live) same out (λ none q h. omega arith)
touched_less root above [] (m2 ∷ ms) l m counted touched p same live out = absurd touched.1
touched_less root above (l2 ∷ ls) [] l m counted touched p same live out = absurd touched.1
touched_less root above (l2 ∷ ls) (m2 ∷ ms) l m counted touched p same live out =
    touched_here root above (l2 ∷ ls) (m2 ∷ ms) l m p (touched.0 p live) same out
    (λ none q h. touched_less root (above ++ l ∷ []) ls ms l2 m2 counted.1 touched.1 q (same.2 q h) (omega (arith, h, counted.0 q, times_at q l.children p)) (named_out root above l l2 p q counted.0 none h))

-- what counted counts no more where only new nodes came
pub new_stays : (l m : Level Part) (p n : ℕ) → New l m p → 0 < l.count p → m.count p ≤ l.count p + n
new_stays l m p n (inl e) live = omega (arith, e)
new_stays l m p n (inr e) live = absurd (omega (arith, e.0, live))

-- A payload's node came to a place; it stands for a tree. What counted is as it was and the counts
-- are right. So many nodes of the tree, at least, are shared with nobody.
pub record Comes (s : Store) (root place : ℕ) (tree : Batch) (made : ℕ) (b : Places (Node Unit)) (r : Places (Node ResourceNode)) (c : Places (Node ScopeNode)) (l : Places (Node LogRecord)) : Type 0 where
  pub counts : (p : ℕ) → count_at b p ≡ count_at s.batches p + times p (place ∷ [])
  pub agree : AllAgree (tree_levels s) (tree_levels s) (batch_level b ∷ resource_levels r c l)
  pub counted : AllCounted (batch_level b ∷ resource_levels r c l)
  pub value : value nothing (batch_level b ∷ resource_levels r c l) place ≡ a_batch tree
  pub touched : Touched root (root_level s.roots ∷ []) (tree_levels s) (batch_level b ∷ resource_levels r c l)
  pub apart : (depth q : ℕ) → depth < 4 → stands (take depth (batch_level b ∷ resource_levels r c l)) q place ≤ 1
  pub own : shared_places false (batch_level b ∷ resource_levels r c l) place + made ≤ nodes tree

-- a root more, which names it
module _ (s : Store) (root place : ℕ) (tree : Batch) (own : ℕ) (b : Places (Node Unit)) (r : Places (Node ResourceNode)) (c : Places (Node ScopeNode)) (l : Places (Node LogRecord))
    (sound : IsSound s) (come : Comes s root place tree own b r c l) (key : ℕ) (roots : List (Option ℕ)) (free : root_at s key ≡ None) (set : slice_index_or roots key None ≡ Some place)
    (others : (other : ℕ) → other ≢ key → slice_index_or roots other None ≡ root_at s other) where
  abbrev pub with_part : Store
  with_part = record { roots = roots; most = s.most; batches = b; resources = r; scopes = c; logs = l }

  same_at : (r2 p : ℕ) → 0 < times p (batch_named (root_at s r2)) → SameFrom (tree_levels s) (tree_levels with_part) p
  same_at r2 p h = same_from (batch_level s.batches) (resource_levels s.resources s.scopes s.logs) (tree_levels s) (tree_levels with_part) sound.counts.1 come.agree p (live_root s sound r2 p h)

  pub come_others : (other : ℕ) → other ≢ key → SameTree s with_part other
  come_others other d = record {
    tree = den_same s with_part other other (others other d) (same_at other);
    live = rw (others other d) (λ h. h, λ h. h);
  }

  pub come_tree : den with_part key ≡ Some tree
  come_tree =
      ap (λ (qs : List ℕ). as_batch (first_part (map (value nothing (tree_levels with_part)) qs))) (root_list roots key ∙ ap batch_named set)
      ∙ ap as_batch come.value

  pub come_nodes : nodes (tree_of with_part key) ≡ nodes tree
  come_nodes = ap (λ (o : Option Batch). nodes (batch_or_empty o)) come_tree

  pub come_spine : spine (tree_of with_part key) ≡ spine tree
  come_spine = ap (λ (o : Option Batch). spine (batch_or_empty o)) come_tree

  pub come_roots : Counted (root_level roots) (batch_level b)
  come_roots p =
      omega (
        arith,
        named_but p (map batch_named s.roots) (map batch_named roots) key (λ j d. root_list roots j ∙ ap batch_named (others j d) ∙ sym (root_list s.roots j)),
        ap (times p) (root_list s.roots key ∙ ap batch_named free),
        ap (times p) (root_list roots key ∙ ap batch_named set),
        come.counts p,
        sound.counts.0 p,
      )

  key_apart : IsApart (levels with_part) key
  key_apart zero q h = one_at_most (key == q)
  key_apart (suc depth) q h =
      omega (arith, come.apart depth q (omega (arith, h)), ap (sum_over (stands (take depth (tree_levels with_part)) q)) (root_list roots key ∙ ap batch_named set))

  pub come_apart : (r2 : ℕ) → IsApart (levels with_part) r2
  come_apart r2 = elim (eqb_tells r2 key) as (λ x. IsApart (levels with_part) r2) [
    | inl e ↦ subst (λ (k : ℕ). IsApart (levels with_part) k) (sym e.1) key_apart
    | inr e ↦ apart_same s with_part r2 r2 (others r2 e.1) (same_at r2) (sound.apart r2)
  ]

  -- no other root shares more
  root_same : (other : ℕ) → other ≢ key → SameFrom (levels s) (levels with_part) other
  root_same other d = (
    root_list roots other ∙ ap batch_named (others other d) ∙ sym (root_list s.roots other),
    refl,
    λ q h. same_at other q (omega (arith, h, ap (times q) (root_list s.roots other))),
  )

  elsewhere : (other : ℕ) → other ≢ root → stands {X = Part} [] other root ≡ 0
  elsewhere other d = other_place root other d

  pub come_shared : (other : ℕ) → other ≢ key → other ≢ root → shared with_part other ≤ shared s other
  come_shared other d e =
      omega (
        arith,
        levels_shared s other,
        levels_shared with_part other,
        touched_less root [] (tree_levels s) (tree_levels with_part) (root_level s.roots) (root_level roots) sound.counts (λ p h. omega arith, come.touched) other (root_same other d) (omega arith) (inl (elsewhere other e)),
      )

  pub come_own : shared with_part key + own ≤ nodes tree
  come_own = omega (arith, come.own, ap (λ (o : Option ℕ). sum_over (shared_places false (tree_levels with_part)) (batch_named o)) set)

  pub come_sound : IsKept b → IsKept r → IsKept c → IsKept l → count_by is_some roots ≤ s.most → IsSound with_part
  come_sound batches resources scopes logs fewer = record {
    counts = (come_roots, come.counted);
    apart = come_apart;
    batches = batches;
    resources = resources;
    scopes = scopes;
    logs = logs;
    roots = fewer;
    most = sound.most;
  }

  pub come_shares : SharesWith root key s with_part
  come_shares = record { trees = come_others; shared = come_shared }
