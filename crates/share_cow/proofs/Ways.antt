-- A path that becomes a root's own, node by node.
use Rattle.std.proofs.Common.{◌≡◌, ◌<◌, ◌≤◌, ℕ, List, [], ◌∷◌, ◌++◌, Option, Some, None, length, get_or, refl, ap, sym, ◌∙◌, subst, append_assoc, arith, inl, inr}
use Rattle.std.proofs.lemmas.List.{get_or_at}
use Rattle.share_cow.specs.Copies.{AreRaised, Copies, InTree, OpenPath, Owns, Went, end_of, onto, owed}
use Rattle.share_cow.specs.Levels.{AllCounted, IsApart, Level, list_at}
use Rattle.share_cow.proofs.CopyPaths.{owed_end, owed_on, owed_shared, path_on, path_to_copy}
use Rattle.share_cow.proofs.CopySharing.{over_one}
use Rattle.share_cow.proofs.CopyWent.{counted_next, paid, went_by_copy}

module _ {X : Type 0} where
  end_open : (above rest : List (Level X)) (p : ℕ) (is : List ℕ) (q : ℕ) → OpenPath above p is q → end_of (above ++ rest) p is ≡ q
  end_open [] [] p [] q h = h
  end_open [] (r ∷ rest) p [] q h = h
  end_open [] rest p (i ∷ is) q h = absurd h
  end_open (l ∷ above) rest p [] q h = absurd h
  end_open (l ∷ above) rest p (i ∷ is) q h = end_open above rest (get_or (list_at l.children p) i 0) is q h.2

  in_tree_on : (above rest : List (Level X)) (m : Level X) (p : ℕ) (is more : List ℕ) (q : ℕ) → OpenPath above p is q → InTree (m ∷ rest) q more → InTree (above ++ m ∷ rest) p (is ++ more)
  in_tree_on [] rest m p [] more q h there = subst (λ (r : ℕ). InTree (m ∷ rest) r more) (sym h) there
  in_tree_on [] rest m p (i ∷ is) more q h there = absurd h
  in_tree_on (l ∷ above) rest m p [] more q h there = absurd h
  in_tree_on (l ∷ above) rest m p (i ∷ is) more q h there = (h.1, in_tree_on above rest m (get_or (list_at l.children p) i 0) is more q h.2 there)

  in_tree_from : (above rest : List (Level X)) (m : Level X) (p : ℕ) (is more : List ℕ) (q : ℕ) → OpenPath above p is q → InTree (above ++ m ∷ rest) p (is ++ more) → InTree (m ∷ rest) q more
  in_tree_from [] rest m p [] more q h there = subst (λ (r : ℕ). InTree (m ∷ rest) r more) h there
  in_tree_from [] rest m p (i ∷ is) more q h there = absurd h
  in_tree_from (l ∷ above) rest m p [] more q h there = absurd h
  in_tree_from (l ∷ above) rest m p (i ∷ is) more q h there = in_tree_from above rest m (get_or (list_at l.children p) i 0) is more q h.2 there.1

  pub few_end : (l : Level X) (ls : List (Level X)) (p : ℕ) (is : List ℕ) → owed (l ∷ ls) p is ≡ 0 → l.count p ≤ 1
  few_end l ls p is none = elim (over_one (l.count p)) as (λ x. l.count p ≤ 1) [
    | inl t ↦ absurd (omega (arith, none, owed_shared l ls p is t))
    | inr t ↦ t
  ]

  -- a path that owes nothing is open
  pub open_of : (above rest : List (Level X)) (m : Level X) (p : ℕ) (is more : List ℕ) → length is ≡ length above → InTree (above ++ m ∷ rest) p (is ++ more) → owed (above ++ m ∷ rest) p is ≡ 0
      → OpenPath above p is (end_of (above ++ m ∷ rest) p is) × (m.count (end_of (above ++ m ∷ rest) p is) ≤ 1)
  open_of [] rest m p [] more len there none = (refl, few_end m rest p [] none)
  open_of [] rest m p (i ∷ is) more len there none = absurd (omega (arith, len))
  open_of (l ∷ above) rest m p [] more len there none = absurd (omega (arith, len))
  open_of (l ∷ above) rest m p (i ∷ is) more len there none =
      let few = few_end l (above ++ m ∷ rest) p (i ∷ is) none in
      let below = open_of above rest m (get_or (list_at l.children p) i 0) is more (omega (arith, len)) there.1
      (sym (owed_on l (above ++ m ∷ rest) p i is few) ∙ none) in
      ((few, there.0, below.0), below.1)

  -- where nothing was done yet
  pub owns_none : (l : Level X) (ls : List (Level X)) (root : ℕ) → l.count root ≤ 1 → Owns (l ∷ ls) (l ∷ ls) root [] root
  owns_none l ls root one = record {
    ends = refl;
    own = owed_end l ls root one;
    left = omega (arith, owed_end l ls root one);
    longer = λ rest there. (there, omega (arith, owed_end l ls root one));
  }

  -- a path that owes nothing is the root's own already
  pub owns_already : (ls : List (Level X)) (root : ℕ) (path : List ℕ) (place : ℕ) → end_of ls root path ≡ place → owed ls root path ≡ 0 → Owns ls ls root path place
  owns_already ls root path place ends own = record {
    ends = ends;
    own = own;
    left = omega (arith, own);
    longer = λ rest there. (there, omega (arith, own));
  }

  below_there : (m : Level X) (places : List ℕ) (below : List (Level X)) (b b2 : Option (Level X)) → AreRaised places b b2 → (p : ℕ) (rest : List ℕ) → InTree (onto b below) p rest → InTree (onto b2 below) p rest
  below_there m places below None None raised p rest h = h
  below_there m places below None (Some b2) raised p rest h = absurd raised
  below_there m places below (Some b) None raised p rest h = absurd raised
  below_there m places below (Some b) (Some b2) raised p [] h = tt
  below_there m places below (Some b) (Some b2) raised p (i ∷ rest) h =
      subst (λ (qs : List ℕ). (i < length qs) × InTree below (get_or qs i 0) rest) (sym (raised.children p)) h

module _ {X : Type 0} (os above : List (Level X)) (root : ℕ) (front : List ℕ) (parent i : ℕ) (len : length front ≡ length above) where
  joined : (rest : List ℕ) → (front ++ i ∷ []) ++ rest ≡ front ++ i ∷ rest
  joined rest = append_assoc front (i ∷ []) rest

  module _ (k m : Level X) (lower : List (Level X)) (w : Owns os (above ++ k ∷ m ∷ lower) root front parent) (there : InTree os root (front ++ i ∷ [])) where
    opened : OpenPath above root front parent × (k.count parent ≤ 1)
    opened =
        let open_path = open_of above (m ∷ lower) k root front (i ∷ []) len (w.longer (i ∷ []) there).0 w.own in
        subst (λ (q : ℕ). OpenPath above root front q × (k.count q ≤ 1)) w.ends open_path

    pub child_there : (i < length (list_at k.children parent)) × InTree (m ∷ lower) (get_or (list_at k.children parent) i 0) []
    child_there = in_tree_from above (m ∷ lower) k root front (i ∷ []) parent opened.0 (w.longer (i ∷ []) there).0

    -- the next node is unshared already
    pub owns_kept : m.count (get_or (list_at k.children parent) i 0) ≤ 1 → Owns os (above ++ k ∷ m ∷ lower) root (front ++ i ∷ []) (get_or (list_at k.children parent) i 0)
    owns_kept few =
        let child = get_or (list_at k.children parent) i 0 in
        let path = path_on above k root front parent i opened.0 opened.1 child_there.0 in
        let same = append_assoc above (k ∷ []) (m ∷ lower) in
        let own : owed (above ++ k ∷ m ∷ lower) root (front ++ i ∷ []) ≡ 0 =
        ap (λ (ls : List (Level X)). owed ls root (front ++ i ∷ [])) (sym same) ∙ paid (above ++ k ∷ []) m lower root (front ++ i ∷ []) child path few in
        let here = (w.longer (i ∷ []) there).1 in
        record {
          ends = ap (λ (ls : List (Level X)). end_of ls root (front ++ i ∷ [])) (sym same) ∙ end_open (above ++ k ∷ []) (m ∷ lower) root (front ++ i ∷ []) child path;
          own = own;
          left = omega (arith, w.left, own, here);
          longer = λ rest inside.
              (let on = w.longer (i ∷ rest) (subst (λ (is : List ℕ). InTree os root is) (joined rest) inside) in (
                subst (λ (is : List ℕ). InTree (above ++ k ∷ m ∷ lower) root is) (sym (joined rest)) on.0,
                omega (
                  arith,
                  on.1,
                  own,
                  here,
                  ap (owed (above ++ k ∷ m ∷ lower) root) (joined rest),
                  ap (owed os root) (joined rest),
                ),
              ));
        }

  -- or it was made anew
  module _ {old new : ℕ} {before after : List ℕ} {k m k2 m2 : Level X} {b b2 : Option (Level X)} (c : Copies parent old new before after k m k2 m2 b b2) (below : List (Level X)) (none : X)
      (at : length before ≡ i) (all : AllCounted (above ++ k ∷ m ∷ onto b below)) (apart : IsApart (above ++ k ∷ m ∷ onto b below) root)
      (w : Owns os (above ++ k ∷ m ∷ onto b below) root front parent) (there : InTree os root (front ++ i ∷ [])) where
    way_open : OpenPath above root front parent × (k.count parent ≤ 1)
    way_open = opened k m (onto b below) w there

    is_old : get_or (list_at k.children parent) i 0 ≡ old
    is_old = ap (λ (qs : List ℕ). get_or qs i 0) c.was_entry ∙ get_or_at before old after 0 i at

    old_there : (rest : List ℕ) → InTree (above ++ k ∷ m ∷ onto b below) root (front ++ i ∷ rest) → InTree (m ∷ onto b below) old rest
    old_there rest h =
        subst (λ (q : ℕ). InTree (m ∷ onto b below) q rest) is_old
        (in_tree_from above (m ∷ onto b below) k root front (i ∷ rest) parent way_open.0 h).1

    new_there : (rest : List ℕ) → InTree (m ∷ onto b below) old rest → InTree (m2 ∷ onto b2 below) new rest
    new_there [] h = tt
    new_there (j ∷ rest) h =
        subst (λ (qs : List ℕ). (j < length qs) × InTree (onto b2 below) (get_or qs j 0) rest) (sym c.copy)
        (h.0, below_there m (list_at m.children old) below b b2 c.below (get_or (list_at m.children old) j 0) rest h.1)

    pub went_one : (rest : List ℕ) → InTree (m ∷ onto b below) old rest → Went none (above ++ k ∷ m ∷ onto b below) (above ++ k2 ∷ m2 ∷ onto b2 below) root (front ++ i ∷ rest) 1
    went_one rest inside =
        subst (λ (n : ℕ). Went none (above ++ k ∷ m ∷ onto b below) (above ++ k2 ∷ m2 ∷ onto b2 below) root (front ++ n ∷ rest) 1) at
        (went_by_copy c none above below root front rest all apart way_open.0 way_open.1 inside)

    path_new : OpenPath (above ++ k2 ∷ []) root (front ++ i ∷ []) new
    path_new =
        subst (λ (n : ℕ). OpenPath (above ++ k2 ∷ []) root (front ++ n ∷ []) new) at
        (path_to_copy c below (counted_next above below k m b all) way_open.1 above root front way_open.0)

    pub owns_copied : Owns os (above ++ k2 ∷ m2 ∷ onto b2 below) root (front ++ i ∷ []) new
    owns_copied =
        let same = append_assoc above (k2 ∷ []) (m2 ∷ onto b2 below) in
        let own : owed (above ++ k2 ∷ m2 ∷ onto b2 below) root (front ++ i ∷ []) ≡ 0 =
        ap (λ (ls : List (Level X)). owed ls root (front ++ i ∷ [])) (sym same) ∙ paid (above ++ k2 ∷ []) m2 (onto b2 below) root (front ++ i ∷ []) new path_new (omega (arith, c.copy_count)) in
        let first = w.longer (i ∷ []) there in
        let step = went_one [] tt in
        record {
          ends = ap (λ (ls : List (Level X)). end_of ls root (front ++ i ∷ [])) (sym same) ∙ end_open (above ++ k2 ∷ []) (m2 ∷ onto b2 below) root (front ++ i ∷ []) new path_new;
          own = own;
          left = omega (arith, w.left, own, first.1, step.pays, step.less);
          longer = λ rest inside.
              (let on = w.longer (i ∷ rest) (subst (λ (is : List ℕ). InTree os root is) (joined rest) inside) in
              let under = old_there rest on.0 in
              let further = went_one rest under in (
                subst (λ (ls : List (Level X)). InTree ls root ((front ++ i ∷ []) ++ rest)) same
                    (in_tree_on (above ++ k2 ∷ []) (onto b2 below) m2 root (front ++ i ∷ []) rest new path_new (new_there rest under)),
                omega (
                  arith,
                  on.1,
                  own,
                  first.1,
                  step.pays,
                  further.pays,
                  ap (owed (above ++ k2 ∷ m2 ∷ onto b2 below) root) (joined rest),
                  ap (owed os root) (joined rest),
                ),
              ));
        }
