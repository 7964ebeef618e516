-- The path of a write: what it owes falls by one with each copied node.
use Rattle.std.proofs.Common.{◌≡◌, ◌+◌, ◌<◌, ◌≤◌, ℕ, List, [], ◌∷◌, ◌++◌, Option, Some, None, length, get_or, refl, ap, sym, ◌∙◌, subst, arith}
use Rattle.std.proofs.lemmas.Bool.{lt-ltb, le-ltb}
use Rattle.std.proofs.lemmas.List.{get_or_at, length-append}
use Rattle.share_cow.specs.Copies.{AreRaised, Copies, InTree, OpenPath, onto, owed, stands_open}
use Rattle.share_cow.specs.Levels.{Level, list_at, times}
use Rattle.share_cow.proofs.Lists.{entry_times, sum_at_least, times_at}
use Rattle.share_cow.proofs.CopyExact.{open_parts, stands_here}
use Rattle.share_cow.proofs.CopySharing.{BelowCounted}

module _ {X : Type 0} where
  pub path_stands : (ls : List (Level X)) (p : ℕ) (is : List ℕ) (q : ℕ) → OpenPath ls p is q → 0 < stands_open ls q p
  path_stands [] p [] q h = omega (arith, stands_here X p q h)
  path_stands [] p (i ∷ is) q h = absurd h
  path_stands (l ∷ ls) p [] q h = absurd h
  path_stands (l ∷ ls) p (i ∷ is) q h =
      let rest = path_stands ls (get_or (list_at l.children p) i 0) is q h.2 in
      omega (arith, rest, open_parts l ls q p h.0, sum_at_least (stands_open ls q) (get_or (list_at l.children p) i 0) (list_at l.children p) (entry_times (list_at l.children p) i h.1))

  -- a path goes on through an unshared node
  pub path_on : (ls : List (Level X)) (l : Level X) (p : ℕ) (is : List ℕ) (q i : ℕ) → OpenPath ls p is q → l.count q ≤ 1 → i < length (list_at l.children q) →
      OpenPath (ls ++ l ∷ []) p (is ++ i ∷ []) (get_or (list_at l.children q) i 0)
  path_on [] l p [] q i h one here = subst (λ (r : ℕ). OpenPath (l ∷ []) r (i ∷ []) (get_or (list_at l.children q) i 0)) (sym h) (one, here, refl)
  path_on [] l p (j ∷ is) q i h one here = absurd h
  path_on (d ∷ ls) l p [] q i h one here = absurd h
  path_on (d ∷ ls) l p (j ∷ is) q i h one here = (h.0, h.1, path_on ls l (get_or (list_at d.children p) j 0) is q i h.2 one here)

  pub owed_shared : (l : Level X) (ls : List (Level X)) (p : ℕ) (is : List ℕ) → 1 < l.count p → owed (l ∷ ls) p is ≡ 1 + length is
  owed_shared l ls p [] h = rw (lt-ltb 1 (l.count p) h) (omega arith)
  owed_shared l ls p (i ∷ is) h = rw (lt-ltb 1 (l.count p) h) (omega arith)

  pub owed_end : (l : Level X) (ls : List (Level X)) (p : ℕ) → l.count p ≤ 1 → owed (l ∷ ls) p [] ≡ 0
  owed_end l ls p h = rw (le-ltb 1 (l.count p) h) refl

  pub owed_on : (l : Level X) (ls : List (Level X)) (p i : ℕ) (is : List ℕ) → l.count p ≤ 1 → owed (l ∷ ls) p (i ∷ is) ≡ owed ls (get_or (list_at l.children p) i 0) is
  owed_on l ls p i is h = rw (le-ltb 1 (l.count p) h) refl

-- a child of the copied node is shared afterwards, so what is below it is owed whole
child_owed : {X : Type 0} (m : Level X) (old child : ℕ) (is : List ℕ) (below : List (Level X)) → 0 < times child (list_at m.children old) → (b b2 : Option (Level X))
    → AreRaised (list_at m.children old) b b2 → BelowCounted m b → InTree (onto b below) child is → owed (onto b2 below) child is ≡ 1 + length is
child_owed m old child is below names None None raised counted there = absurd there
child_owed m old child is below names None (Some l) raised counted there = absurd raised
child_owed m old child is below names (Some l) None raised counted there = absurd raised
child_owed m old child is below names (Some b) (Some b2) raised counted there =
    owed_shared b2 below child is (omega (arith, names, raised.counts child, counted child, times_at child m.children old))

module _ {X : Type 0} {parent old new : ℕ} {before after : List ℕ} {k m k2 m2 : Level X} {b b2 : Option (Level X)} (c : Copies parent old new before after k m k2 m2 b b2) (below : List (Level X)) (counted_below : BelowCounted m b) where
  -- after the copy, the path below it is owed whole
  new_owed : (is : List ℕ) → InTree (m ∷ onto b below) old is → owed (m2 ∷ onto b2 below) new is ≡ length is
  new_owed [] h = owed_end m2 (onto b2 below) new (omega (arith, c.copy_count))
  new_owed (i ∷ is) h =
      let on = owed_on m2 (onto b2 below) new i is (omega (arith, c.copy_count)) in
      let same = ap (λ (qs : List ℕ). owed (onto b2 below) (get_or qs i 0) is) c.copy in
      let child = get_or (list_at m.children old) i 0 in
      let names : 0 < times child (list_at m.children old) = entry_times (list_at m.children old) i h.0 in
      let whole = child_owed m old child is below names b b2 c.below counted_below h.1 in
      omega (arith, on, same, whole)

  -- each copy pays for one node of the path
  pub owed_falls : k.count parent ≤ 1 → (above : List (Level X)) (root : ℕ) (front is : List ℕ) → OpenPath above root front parent → InTree (m ∷ onto b below) old is →
      owed (above ++ k2 ∷ m2 ∷ onto b2 below) root (front ++ length before ∷ is) + 1 ≡ owed (above ++ k ∷ m ∷ onto b below) root (front ++ length before ∷ is)
  owed_falls one [] root [] is path there =
      subst (λ (r : ℕ). owed (k2 ∷ m2 ∷ onto b2 below) r (length before ∷ is) + 1 ≡ owed (k ∷ m ∷ onto b below) r (length before ∷ is)) (sym path)
      (let on = owed_on k2 (m2 ∷ onto b2 below) parent (length before) is (omega (arith, one, c.upper_counts parent)) in
      let was_on = owed_on k (m ∷ onto b below) parent (length before) is one in
      let is_new : get_or (list_at k2.children parent) (length before) 0 ≡ new = ap (λ (qs : List ℕ). get_or qs (length before) 0) c.entry ∙ get_or_at before new after 0 (length before) refl in
      let is_old : get_or (list_at k.children parent) (length before) 0 ≡ old = ap (λ (qs : List ℕ). get_or qs (length before) 0) c.was_entry ∙ get_or_at before old after 0 (length before) refl in
      omega (arith, on, was_on, ap (λ (r : ℕ). owed (m2 ∷ onto b2 below) r is) is_new, ap (λ (r : ℕ). owed (m ∷ onto b below) r is) is_old, new_owed is there, owed_shared m (onto b below) old is c.was_shared))
  owed_falls one [] root (i ∷ front) is path there = absurd path
  owed_falls one (l ∷ above) root [] is path there = absurd path
  owed_falls one (l ∷ above) root (i ∷ front) is path there =
      omega (
        arith,
        owed_on l (above ++ k2 ∷ m2 ∷ onto b2 below) root i (front ++ length before ∷ is) path.0,
        owed_on l (above ++ k ∷ m ∷ onto b below) root i (front ++ length before ∷ is) path.0,
        owed_falls one above (get_or (list_at l.children root) i 0) front is path.2 there,
      )

  -- the copy is reached by an open path
  pub path_to_copy : k.count parent ≤ 1 → (above : List (Level X)) (root : ℕ) (front : List ℕ) → OpenPath above root front parent →
      OpenPath (above ++ k2 ∷ []) root (front ++ length before ∷ []) new
  path_to_copy one above root front path =
      let is_new : get_or (list_at k2.children parent) (length before) 0 ≡ new = ap (λ (qs : List ℕ). get_or qs (length before) 0) c.entry ∙ get_or_at before new after 0 (length before) refl in
      subst (λ (r : ℕ). OpenPath (above ++ k2 ∷ []) root (front ++ length before ∷ []) r) is_new
      (path_on above k2 root front parent (length before) path (omega (arith, one, c.upper_counts parent)) (omega (arith, ap length c.entry, length-append before (new ∷ after))))
