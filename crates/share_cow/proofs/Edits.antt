-- A node with the count 1 at the end of a path of unshared nodes stands for something else: that changes one root's tree there, and no other.
use Rattle.std.proofs.Common.{◌≡◌, ◌≢◌, ◌+◌, ◌<◌, ◌≤◌, ℕ, zero, suc, Bool, List, [], ◌∷◌, ◌++◌, length, get_or, set, take, map, refl, ap, sym, ◌∙◌, subst, append_assoc, arith}
use Rattle.std.specs.Prelude.{◌||◌, cond, nat_lt}
use Rattle.std.proofs.lemmas.List.{append-nil}
use Rattle.share_cow.specs.Copies.{InTree, OpenPath, end_of, owed}
use Rattle.share_cow.specs.Levels.{AllCounted, Counted, IsApart, Level, list_at, shared_places, stands, sum_over, times, value}
use Rattle.share_cow.proofs.CopyExact.{open_stands, stands_here, stands_not, sum_is_times}
use Rattle.share_cow.proofs.CopyPaths.{path_stands}
use Rattle.share_cow.proofs.Lists.{both_name, entry_times, map_same, named_same, sum_at_least, sum_same, times_head}

-- one node of a level stands for something else
pub record Edits {X : Type 0} (place : ℕ) (m m2 : Level X) : Type 0 where
  pub children : (p : ℕ) → list_at m2.children p ≡ list_at m.children p
  pub counts : (p : ℕ) → m2.count p ≡ m.count p
  pub builds : (p : ℕ) → p ≢ place → m2.build p ≡ m.build p

module _ {X : Type 0} where
  -- what `p` stands for, where the node that the indices lead to stands for `x` instead
  abbrev pub replaced : X → X → List (Level X) → List (Level X) → ℕ → List ℕ → X
  replaced none x [] rest p is = x
  replaced none x (l ∷ ls) rest p [] = none
  replaced none x (l ∷ ls) rest p (i ∷ is) =
      l.build p (set (map (value none (ls ++ rest)) (list_at l.children p)) i (replaced none x ls rest (get_or (list_at l.children p) i 0) is))

sum_none : (f : ℕ → ℕ) (qs : List ℕ) → sum_over f qs ≡ 0 → (q : ℕ) → 0 < times q qs → f q ≡ 0
sum_none f qs none q h = omega (arith, none, sum_at_least f q qs h)

pub all_none : (f : ℕ → ℕ) (qs : List ℕ) → ((q : ℕ) → 0 < times q qs → f q ≡ 0) → sum_over f qs ≡ 0
all_none f [] h = refl
all_none f (q ∷ qs) h = omega (arith, h q (omega (arith, times_head q qs)), all_none f qs (λ r g. h r (omega arith)))

path_reaches : {X : Type 0} (ls : List (Level X)) (p : ℕ) (is : List ℕ) (q : ℕ) → OpenPath ls p is q → 0 < stands ls q p
path_reaches ls p is q path = omega (arith, path_stands ls p is q path, open_stands ls q p)

module _ {X : Type 0} where
  -- where a parent doesn't stand, neither does what it alone names
  alone_on : (k m : Level X) → Counted k m → (ls : List (Level X)) (parent p other : ℕ) → 0 < times p (list_at k.children parent) → m.count p ≤ 1
      → stands ls parent other ≡ 0 → stands (ls ++ k ∷ []) p other ≡ 0
  alone_on k m counted [] parent p other named one none =
      let d : other ≢ parent = λ e. absurd (omega (arith, none, stands_here X other parent e)) in
      omega (arith, sum_is_times X p (list_at k.children other), both_name p k.children other parent d, named, one, counted p)
  alone_on k m counted (l ∷ ls) parent p other named one none =
      all_none (stands (ls ++ k ∷ []) p) (list_at l.children other) (λ q h. alone_on k m counted ls parent p q named one (sum_none (stands ls parent) (list_at l.children other) none q h))

  alone_path : (ls above rest : List (Level X)) (m : Level X) (p other : ℕ) (is : List ℕ) (place : ℕ) → AllCounted (above ++ m ∷ rest) → OpenPath above p is place → m.count place ≤ 1
      → stands ls p other ≡ 0 → stands (ls ++ above) place other ≡ 0
  alone_path ls [] rest m p other [] place all path one none =
      subst (λ (q : ℕ). stands (ls ++ []) q other ≡ 0) path (subst (λ (ks : List (Level X)). stands ks p other ≡ 0) (sym (append-nil ls)) none)
  alone_path ls [] rest m p other (i ∷ is) place all path one none = absurd path
  alone_path ls (k ∷ above) rest m p other [] place all path one none = absurd path
  alone_path ls (k ∷ []) rest m p other (i ∷ []) place all path one none =
      let child = get_or (list_at k.children p) i 0 in
      let one_child : m.count child ≤ 1 = subst (λ (q : ℕ). m.count q ≤ 1) (sym path.2) one in
      subst (λ (q : ℕ). stands (ls ++ k ∷ []) q other ≡ 0) path.2 (alone_on k m all.0 ls p child other (entry_times (list_at k.children p) i path.1) one_child none)
  alone_path ls (k ∷ []) rest m p other (i ∷ j ∷ is) place all path one none = absurd path.2
  alone_path ls (k ∷ k2 ∷ above) rest m p other (i ∷ []) place all path one none = absurd path.2
  alone_path ls (k ∷ k2 ∷ above) rest m p other (i ∷ j ∷ is) place all path one none =
      let child = get_or (list_at k.children p) i 0 in
      let here = alone_on k k2 all.0 ls p child other (entry_times (list_at k.children p) i path.1) path.2.0 none in
      let below = alone_path (ls ++ k ∷ []) (k2 ∷ above) rest m child other (j ∷ is) place all.1 path.2 one here in
      subst (λ (ks : List (Level X)). stands ks place other ≡ 0) (append_assoc ls (k ∷ []) (k2 ∷ above)) below

  -- another root doesn't reach the node
  pub alone : (above rest : List (Level X)) (m : Level X) (root other : ℕ) (is : List ℕ) (place : ℕ) → AllCounted (above ++ m ∷ rest) → OpenPath above root is place → m.count place ≤ 1
      → other ≢ root → stands above place other ≡ 0
  alone above rest m root other is place all path one d = alone_path [] above rest m root other is place all path one (stands_not X other root d)

module _ {X : Type 0} {place : ℕ} {m m2 : Level X} (e : Edits place m m2) where
  counted_below : (rest : List (Level X)) → AllCounted (m ∷ rest) → AllCounted (m2 ∷ rest)
  counted_below [] all = tt
  counted_below (b ∷ rest) all = (λ p. all.0 p ∙ sym (named_same p m.children m2.children e.children), all.1)

  pub edit_counted : (rest above : List (Level X)) → AllCounted (above ++ m ∷ rest) → AllCounted (above ++ m2 ∷ rest)
  edit_counted rest [] all = counted_below rest all
  edit_counted rest (j ∷ []) all = (λ p. e.counts p ∙ all.0 p, counted_below rest all.1)
  edit_counted rest (i ∷ j ∷ above) all = (all.0, edit_counted rest (j ∷ above) all.1)

  pub edit_stands : (rest above : List (Level X)) (n q p : ℕ) → stands (take n (above ++ m2 ∷ rest)) q p ≡ stands (take n (above ++ m ∷ rest)) q p
  edit_stands rest [] zero q p = refl
  edit_stands rest [] (suc n) q p = ap (sum_over (stands (take n rest) q)) (e.children p)
  edit_stands rest (l ∷ above) zero q p = refl
  edit_stands rest (l ∷ above) (suc n) q p =
      sum_same (stands (take n (above ++ m2 ∷ rest)) q) (stands (take n (above ++ m ∷ rest)) q) (list_at l.children p) (λ r h. edit_stands rest above n q r)

  edit_length : (rest above : List (Level X)) → length (above ++ m2 ∷ rest) ≡ length (above ++ m ∷ rest)
  edit_length rest [] = refl
  edit_length rest (l ∷ above) = ap suc (edit_length rest above)

  pub edit_apart : (rest above : List (Level X)) (r : ℕ) → IsApart (above ++ m ∷ rest) r → IsApart (above ++ m2 ∷ rest) r
  edit_apart rest above r apart n q h = omega (arith, edit_stands rest above n q r, apart n q (omega (arith, h, edit_length rest above)))

  pub edit_shared : (a : Bool) (rest above : List (Level X)) (p : ℕ) → shared_places a (above ++ m2 ∷ rest) p ≡ shared_places a (above ++ m ∷ rest) p
  edit_shared a rest [] p = rw (e.counts p, e.children p) refl
  edit_shared a rest (l ∷ above) p =
      ap (λ (n : ℕ). cond (a || nat_lt 1 (l.count p)) 1 0 + n)
      (sum_same (shared_places (a || nat_lt 1 (l.count p)) (above ++ m2 ∷ rest)) (shared_places (a || nat_lt 1 (l.count p)) (above ++ m ∷ rest)) (list_at l.children p)
      (λ q h. edit_shared (a || nat_lt 1 (l.count p)) rest above q))

  pub edit_owed : (rest above : List (Level X)) (p : ℕ) (is : List ℕ) → owed (above ++ m2 ∷ rest) p is ≡ owed (above ++ m ∷ rest) p is
  edit_owed rest [] p [] = ap (λ (n : ℕ). cond (nat_lt 1 n) 1 0) (e.counts p)
  edit_owed rest [] p (i ∷ is) = rw (e.counts p, e.children p) refl
  edit_owed rest (l ∷ above) p [] = refl
  edit_owed rest (l ∷ above) p (i ∷ is) = ap (cond (nat_lt 1 (l.count p)) (2 + length is)) (edit_owed rest above (get_or (list_at l.children p) i 0) is)

  pub edit_end : (rest above : List (Level X)) (p : ℕ) (is : List ℕ) → end_of (above ++ m2 ∷ rest) p is ≡ end_of (above ++ m ∷ rest) p is
  edit_end rest [] p [] = refl
  edit_end rest [] p (i ∷ is) = ap (λ (qs : List ℕ). end_of rest (get_or qs i 0) is) (e.children p)
  edit_end rest (l ∷ above) p [] = refl
  edit_end rest (l ∷ above) p (i ∷ is) = edit_end rest above (get_or (list_at l.children p) i 0) is

  pub edit_in_tree : (rest above : List (Level X)) (p : ℕ) (is : List ℕ) → InTree (above ++ m ∷ rest) p is → InTree (above ++ m2 ∷ rest) p is
  edit_in_tree rest [] p [] there = tt
  edit_in_tree rest [] p (i ∷ is) there = subst (λ (qs : List ℕ). (i < length qs) × InTree rest (get_or qs i 0) is) (sym (e.children p)) there
  edit_in_tree rest (l ∷ above) p [] there = tt
  edit_in_tree rest (l ∷ above) p (i ∷ is) there = (there.0, edit_in_tree rest above (get_or (list_at l.children p) i 0) is there.1)

  module _ (none : X) (rest : List (Level X)) where
    -- the tree of a root that doesn't reach the place stays
    pub edit_stays : (above : List (Level X)) (p : ℕ) → stands above place p ≡ 0 → value none (above ++ m2 ∷ rest) p ≡ value none (above ++ m ∷ rest) p
    edit_stays [] p out =
        let d : p ≢ place = λ same. absurd (omega (arith, out, stands_here X p place same)) in
        let built = e.builds p d in
        let kids = ap (map (value none rest)) (e.children p) in
        cc
    edit_stays (l ∷ above) p out =
        ap (l.build p)
        (map_same (value none (above ++ m2 ∷ rest)) (value none (above ++ m ∷ rest)) (list_at l.children p)
        (λ q h. edit_stays above q (sum_none (stands above place) (list_at l.children p) out q h)))

    map_one : (f g : ℕ → X) (w : ℕ → ℕ) (qs : List ℕ) (i : ℕ) → i < length qs → sum_over w qs ≤ 1 → 0 < w (get_or qs i 0) → ((q : ℕ) → w q ≡ 0 → g q ≡ f q)
        → map g qs ≡ set (map f qs) i (g (get_or qs i 0))
    map_one f g w [] i h one here same = absurd (omega arith)
    map_one f g w (q ∷ qs) zero h one here same =
        ap (λ (xs : List X). g q ∷ xs) (map_same g f qs (λ r n. same r (omega (arith, one, here, sum_at_least w r qs n))))
    map_one f g w (q ∷ qs) (suc i) h one here same =
        let head = same q (omega (arith, one, here, sum_at_least w (get_or qs i 0) qs (entry_times qs i (omega arith)))) in
        let tail = map_one f g w qs i (omega arith) (omega (arith, one)) here same in
        cc

    -- and the tree of the root itself is changed at the path's end alone
    pub edit_replaces : (above : List (Level X)) (p : ℕ) (is : List ℕ) → OpenPath above p is place → stands above place p ≤ 1
        → value none (above ++ m2 ∷ rest) p ≡ replaced none (value none (m2 ∷ rest) place) above (m ∷ rest) p is
    edit_replaces [] p [] path once = ap (value none (m2 ∷ rest)) path
    edit_replaces [] p (i ∷ is) path once = absurd path
    edit_replaces (l ∷ above) p [] path once = absurd path
    edit_replaces (l ∷ above) p (i ∷ is) path once =
        let child = get_or (list_at l.children p) i 0 in
        let here : 0 < stands above place child = path_reaches above child is place path.2 in
        let child_once : stands above place child ≤ 1 = omega (arith, once, sum_at_least (stands above place) child (list_at l.children p) (entry_times (list_at l.children p) i path.1)) in
        let one = map_one (value none (above ++ m ∷ rest)) (value none (above ++ m2 ∷ rest)) (stands above place) (list_at l.children p) i path.1 once here (λ q out. edit_stays above q out) in
        let inner = edit_replaces above child is path.2 child_once in
        ap (l.build p) (one ∙ ap (set (map (value none (above ++ m ∷ rest)) (list_at l.children p)) i) inner)
