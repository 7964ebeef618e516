-- The way of a write down its path, as steps that each do nothing or copy one node.
use Rattle.std.proofs.Common.{◌≡◌, ◌+◌, ◌≤◌, ℕ, suc, List, [], ◌∷◌, ◌++◌, Option, Some, None, length, get_or, take, refl, ap, sym, ◌∙◌, subst, arith}
use Rattle.std.proofs.lemmas.List.{length-append}
use Rattle.share_cow.specs.Copies.{Copies, InTree, OpenPath, Went, onto, owed}
use Rattle.share_cow.specs.Levels.{AllCounted, Counted, IsApart, Level, list_at, stands}
use Rattle.share_cow.proofs.CopyApart.{stays_apart}
use Rattle.share_cow.proofs.CopyCounts.{all_counted}
use Rattle.share_cow.proofs.CopyExact.{one_less}
use Rattle.share_cow.proofs.CopyPaths.{owed_end, owed_falls, owed_on, path_stands}
use Rattle.share_cow.proofs.CopySharing.{BelowCounted, never_more, same_size, shared}
use Rattle.share_cow.proofs.CopyTrees.{same_value}

module _ {X : Type 0} where
  pub counted_pair : (above rest : List (Level X)) (k m : Level X) → AllCounted (above ++ k ∷ m ∷ rest) → Counted k m
  counted_pair [] rest k m all = all.0
  counted_pair (j ∷ []) rest k m all = counted_pair [] rest k m all.1
  counted_pair (i ∷ j ∷ above) rest k m all = counted_pair (j ∷ above) rest k m all.1

  pub counted_next : (above below : List (Level X)) (k m : Level X) (b : Option (Level X)) → AllCounted (above ++ k ∷ m ∷ onto b below) → BelowCounted m b
  counted_next [] below k m None all = tt
  counted_next [] below k m (Some b) all = all.1.0
  counted_next (j ∷ []) below k m b all = counted_next [] below k m b all.1
  counted_next (i ∷ j ∷ above) below k m b all = counted_next (j ∷ above) below k m b all.1

  take_front : (above rest : List (Level X)) (k : Level X) → take (suc (length above)) (above ++ k ∷ rest) ≡ above ++ k ∷ []
  take_front [] rest k = refl
  take_front (l ∷ above) rest k = ap (λ (ls : List (Level X)). l ∷ ls) (take_front above rest k)

  pub went_nowhere : (none : X) (ls : List (Level X)) (root : ℕ) (path : List ℕ) → AllCounted ls → Went none ls ls root path 0
  went_nowhere none ls root path all = record {
    counted = all;
    apart = λ r a. a;
    same = λ r. refl;
    never_more = λ r. omega arith;
    less = omega arith;
    pays = omega arith;
    size = λ r. refl;
  }

  pub went_on : {none : X} {ls ls2 ls3 : List (Level X)} {root : ℕ} {path : List ℕ} {made more : ℕ} → Went none ls ls2 root path made → Went none ls2 ls3 root path more → Went none ls ls3 root path (made + more)
  went_on {root = root} a b = record {
    counted = b.counted;
    apart = λ r h. b.apart r (a.apart r h);
    same = λ r. b.same r ∙ a.same r;
    never_more = λ r. omega (arith, a.never_more r, b.never_more r);
    less = omega (arith, a.less, b.less);
    pays = omega (arith, a.pays, b.pays);
    size = λ r. b.size r ∙ a.size r;
  }

  pub went_by_copy : {parent old new : ℕ} {before after : List ℕ} {k m k2 m2 : Level X} {b b2 : Option (Level X)} → Copies parent old new before after k m k2 m2 b b2 →
      (none : X) (above below : List (Level X)) (root : ℕ) (front rest : List ℕ) → AllCounted (above ++ k ∷ m ∷ onto b below) → IsApart (above ++ k ∷ m ∷ onto b below) root →
      OpenPath above root front parent → k.count parent ≤ 1 → InTree (m ∷ onto b below) old rest →
      Went none (above ++ k ∷ m ∷ onto b below) (above ++ k2 ∷ m2 ∷ onto b2 below) root (front ++ length before ∷ rest) 1
  went_by_copy {parent = parent} {old = old} {k = k} {m = m} {b = b} c none above below root front rest all apart path one there =
      let upper = counted_pair above (onto b below) k m all in
      let lower = counted_next above below k m b all in
      let once : stands (above ++ k ∷ []) old root ≤ 1 = subst (λ (ls : List (Level X)). stands ls old root ≤ 1) (take_front above (m ∷ onto b below) k) (apart (suc (length above)) old (omega (arith, length-append above (k ∷ m ∷ onto b below)))) in
      record {
        counted = all_counted c above below all;
        apart = λ r a. stays_apart c below upper above r a;
        same = λ r. same_value c none below upper above r;
        never_more = λ r. never_more c below upper lower above r;
        less = one_less c below upper lower one above root once (path_stands above root front parent path);
        pays = owed_falls c below lower one above root front rest path there;
        size = λ r. same_size c below upper above r;
      }

  -- at the end of an open path nothing is owed
  pub paid : (ls : List (Level X)) (m : Level X) (rest : List (Level X)) (root : ℕ) (path : List ℕ) (p : ℕ) → OpenPath ls root path p → m.count p ≤ 1 → owed (ls ++ m ∷ rest) root path ≡ 0
  paid [] m rest root [] p path one = owed_end m rest root (subst (λ (q : ℕ). m.count q ≤ 1) (sym path) one)
  paid [] m rest root (i ∷ is) p path one = absurd path
  paid (l ∷ ls) m rest root [] p path one = absurd path
  paid (l ∷ ls) m rest root (i ∷ is) p path one =
      owed_on l (ls ++ m ∷ rest) root i is path.0 ∙ paid ls m rest (get_or (list_at l.children root) i 0) is p path.2 one

  -- so a walk to the path's end made exactly what was owed, and the root's shared places fell by that
  pub went_to_end : {none : X} {ls : List (Level X)} {made : ℕ} (ls2 : List (Level X)) (m : Level X) (rest : List (Level X)) (root : ℕ) (path : List ℕ) (p : ℕ) →
      Went none ls (ls2 ++ m ∷ rest) root path made → OpenPath ls2 root path p → m.count p ≤ 1 →
      (made ≡ owed ls root path) × (shared (ls2 ++ m ∷ rest) root + owed ls root path ≡ shared ls root)
  went_to_end ls2 m rest root path p w open_path one =
      let none_left = paid ls2 m rest root path p open_path one in
      (omega (arith, w.pays, none_left), omega (arith, w.pays, w.less, none_left))
