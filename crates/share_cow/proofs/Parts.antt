-- Parts of trees that are made anew, one after another, and what is left where they go again.
use Rattle.std.proofs.Common.{◌≡◌, ◌+◌, ◌<◌, ◌≤◌, ℕ, List, [], ◌∷◌, ◌++◌, map, refl, ap, ◌∙◌, arith, inl, inr}
use Rattle.std.proofs.lemmas.List.{map-append}
use Rattle.shelf.specs.Places.{Adds, Places}
use Rattle.share_cow.specs.Levels.{AllCounted, Level, times, value}
use Rattle.share_cow.specs.Lowering.{Lowers}
use Rattle.share_cow.specs.Owning.{Raises}
use Rattle.share_cow.specs.Parting.{Parts}
use Rattle.share_cow.specs.Planting.{AllMore, Restores}
use Rattle.share_cow.specs.Store.{Part, built, children_of, level_of, nothing}
use Rattle.share_cow.specs.declared.node.Node.{Node}
use Rattle.share_cow.proofs.Added.{add_agrees, add_counts, add_fresh, add_value, names_new, names_old, names_other}
use Rattle.share_cow.proofs.Falling.{agree_refl}
use Rattle.share_cow.proofs.Growing.{AllStill, AllTidy, New, agree_still, back, more_on, more_refl, restored_more, some_or_none, still}
use Rattle.share_cow.proofs.Lists.{map_same, named_but, times_append}
use Rattle.share_cow.proofs.Same.{same_from, value_same}
use Rattle.share_cow.proofs.Slots.{names_same}

pub new_by : (places : List ℕ) (l m : Level Part) → ((p : ℕ) → m.count p ≡ l.count p + times p places) → ((p : ℕ) → 0 < times p places → m.count p ≡ 1) → (p : ℕ) → New l m p
new_by places l m counts fresh p = elim (some_or_none (times p places)) as (λ x. New l m p) [
  | inl e ↦ inr (omega (arith, e, counts p, fresh p e), fresh p e)
  | inr e ↦ inl (omega (arith, e, counts p))
]

still_more : (ls ms : List (Level Part)) (k n : Level Part) → AllMore ls ms → ((p : ℕ) → k.count p ≤ n.count p) → AllStill (ls ++ k ∷ []) (ms ++ n ∷ [])
still_more [] [] k n more less = (λ p h. omega (arith, h, less p), tt)
still_more [] (m ∷ ms) k n more less = absurd more
still_more (l ∷ ls) [] k n more less = absurd more
still_more (l ∷ ls) (m ∷ ms) k n more less = (λ p h. still l m p (more.0 p) h, still_more ls ms k n more.1 less)

-- what counted counts still
pub parts_still : {most : ℕ → ℕ} (xs : List ℕ) (P : List Part) (l m : Level Part) (ls ms : List (Level Part)) (k n : Level Part) → Parts most xs P l m ls ms k n
    → AllStill (l ∷ ls ++ k ∷ []) (m ∷ ms ++ n ∷ [])
parts_still xs P l m ls ms k n a = still_more (l ∷ ls) (m ∷ ms) k n (new_by xs l m a.counts a.fresh, a.more) a.no_fewer

-- where nothing comes
pub parts_none : (most : ℕ → ℕ) (l : Level Part) (ls : List (Level Part)) (k : Level Part) → AllCounted (l ∷ ls ++ k ∷ []) → Parts most [] [] l l ls ls k k
parts_none most l ls k counted = record {
  counts = λ p. omega arith;
  fresh = λ p h. absurd (omega (arith, h));
  more = more_refl ls;
  no_fewer = λ p. omega arith;
  rose = λ p. omega arith;
  agree = agree_refl (l ∷ ls ++ k ∷ []);
  counted = counted;
  values = refl;
}

-- what comes in turn comes in all
pub parts_on : (most1 most2 most : ℕ → ℕ) (xs ys : List ℕ) (P Q : List Part) (l m n : Level Part) (ls ms ns : List (Level Part)) (k1 k2 k3 : Level Part)
    → Parts most1 xs P l m ls ms k1 k2 → Parts most2 ys Q m n ms ns k2 k3 → ((p : ℕ) → most1 p + most2 p ≤ most p) → Parts most (xs ++ ys) (P ++ Q) l n ls ns k1 k3
parts_on most1 most2 most xs ys P Q l m n ls ms ns k1 k2 k3 a b both = record {
  counts = λ p. omega (arith, a.counts p, b.counts p, times_append p xs ys);
  fresh = λ p h.
      elim (new_by ys m n b.counts b.fresh p) as (λ x. n.count p ≡ 1) [
        | inl e ↦ e ∙ a.fresh p (omega (arith, h, e, b.counts p, times_append p xs ys))
        | inr e ↦ e.1
      ];
  more = more_on ls ms ns a.more b.more;
  no_fewer = λ p. omega (arith, a.no_fewer p, b.no_fewer p);
  rose = λ p. omega (arith, a.rose p, b.rose p, both p);
  agree = agree_still (l ∷ ls ++ k1 ∷ []) (m ∷ ms ++ k2 ∷ []) (n ∷ ns ++ k3 ∷ []) a.agree b.agree (parts_still xs P l m ls ms k1 k2 a);
  counted = b.counted;
  values =
      (let both = map-append (value nothing (n ∷ ns ++ k3 ∷ [])) xs ys in
      let old = map_same (value nothing (n ∷ ns ++ k3 ∷ [])) (value nothing (m ∷ ms ++ k2 ∷ [])) xs
      (λ q h. value_same nothing (m ∷ ms ++ k2 ∷ []) (n ∷ ns ++ k3 ∷ []) q (same_from m (ms ++ k2 ∷ []) (m ∷ ms ++ k2 ∷ []) (n ∷ ns ++ k3 ∷ []) a.counted b.agree q (omega (arith, h, a.counts q)))) in
      let first = a.values in
      let second = b.values in
      cc);
}

-- what came before a refusal is still there
pub parts_restored : (most : ℕ → ℕ) (xs : List ℕ) (P : List Part) (l m n l2 m2 n2 k1 k2 k3 : Level Part) → Parts most xs P l m (l2 ∷ []) (m2 ∷ []) k1 k2
    → Restores (m ∷ m2 ∷ k2 ∷ []) (n ∷ n2 ∷ k3 ∷ []) → Parts most xs P l n (l2 ∷ []) (n2 ∷ []) k1 k3
parts_restored most xs P l m n l2 m2 n2 k1 k2 k3 a r = record {
  counts = λ p. r.counts.0 p ∙ a.counts p;
  fresh = λ p h. r.counts.0 p ∙ a.fresh p h;
  more = restored_more (l2 ∷ []) (m2 ∷ []) (n2 ∷ []) a.more (r.counts.1.0, tt);
  no_fewer = λ p. omega (arith, a.no_fewer p, r.counts.1.1.0 p);
  rose = λ p. omega (arith, a.rose p, r.counts.1.1.0 p);
  agree = agree_still (l ∷ l2 ∷ k1 ∷ []) (m ∷ m2 ∷ k2 ∷ []) (n ∷ n2 ∷ k3 ∷ []) a.agree r.agree (parts_still xs P l m (l2 ∷ []) (m2 ∷ []) k1 k2 a);
  counted = r.counted;
  values = map_same (value nothing (n ∷ n2 ∷ k3 ∷ [])) (value nothing (m ∷ m2 ∷ k2 ∷ [])) xs
      (λ q h. value_same nothing (m ∷ m2 ∷ k2 ∷ []) (n ∷ n2 ∷ k3 ∷ []) q (same_from m (m2 ∷ k2 ∷ []) (m ∷ m2 ∷ k2 ∷ []) (n ∷ n2 ∷ k3 ∷ []) a.counted r.agree q (omega (arith, h, a.counts q))))
      ∙ a.values;
}

-- what came and went again left all as it was
pub parts_undone : (most : ℕ → ℕ) (xs : List ℕ) (P : List Part) (l m n : Level Part) (ls ms ns : List (Level Part)) (k1 k2 : Level Part) → Parts most xs P l m ls ms k1 k2
    → Lowers xs m n (ms ++ k2 ∷ []) ns → AllCounted (l ∷ ls ++ k1 ∷ []) → AllTidy (l ∷ ls ++ k1 ∷ []) → AllTidy (n ∷ ns) → Restores (l ∷ ls ++ k1 ∷ []) (n ∷ ns)
parts_undone most xs P l m n ls ms ns k1 k2 a low counted tl tn =
    let both = back l m n (ls ++ k1 ∷ []) (ms ++ k2 ∷ []) ns a.agree low.agree tl tn counted low.counted (λ p. omega (arith, a.counts p, low.counts p)) in
    record { counts = both.0; agree = both.1; counted = low.counted }

-- a node that came names what came below it
module _ {D : Type 0} (make : D → List Part → Part) (s t : Places (Node D)) (place : ℕ) (node : Node D) (add : Adds s t place node) where
  pub parts_above : (most : ℕ → ℕ) (l m : Level Part) (ls ms : List (Level Part)) (k1 k2 : Level Part) (P : List Part) → AllCounted (level_of make s ∷ l ∷ ls ++ k1 ∷ [])
      → Parts most node.children P l m ls ms k1 k2 → Parts most (place ∷ []) (make node.content P ∷ []) (level_of make s) (level_of make t) (l ∷ ls) (m ∷ ms) k1 k2
  parts_above most l m ls ms k1 k2 P counted below = record {
    counts = add_counts s t place node add;
    fresh = add_fresh s t place node add;
    more = (new_by node.children l m below.counts below.fresh, below.more);
    no_fewer = below.no_fewer;
    rose = below.rose;
    agree = (add_agrees make s t place node add, below.agree);
    counted = (
      λ q. omega (
        arith,
        below.counts q,
        counted.0 q,
        named_but q (map children_of s.slots) (map children_of t.slots) place (names_other make s t place node add),
        ap (times q) (names_new make s t place node add),
        ap (times q) (names_old make s t place node add),
      ),
      below.counted,
    );
    values = ap (λ (x : Part). x ∷ []) (add_value make s t place node add (m ∷ ms ++ k2 ∷ []) ∙ ap (make node.content) below.values);
  }

  -- or nodes that were there
  module _ {E : Type 0} (leaf : E → List Part → Part) (u v : Places (Node E)) (raised : Raises node.children u v) where
    leaf_value : (q : ℕ) → value nothing (level_of leaf v ∷ []) q ≡ value nothing (level_of leaf u ∷ []) q
    leaf_value q = value_same nothing (level_of leaf u ∷ []) (level_of leaf v ∷ []) q (names_same u v q (raised.items q), ap (built leaf) (raised.items q), λ r h. tt)

    pub parts_over : (most : ℕ → ℕ) → AllCounted (level_of make s ∷ level_of leaf u ∷ []) → ((q : ℕ) → times q node.children ≤ most q)
        → Parts most (place ∷ []) (make node.content (map (value nothing (level_of leaf u ∷ [])) node.children) ∷ []) (level_of make s) (level_of make t) [] [] (level_of leaf u) (level_of leaf v)
    parts_over most counted few = record {
      counts = add_counts s t place node add;
      fresh = add_fresh s t place node add;
      more = tt;
      no_fewer = λ p. omega (arith, raised.counts p);
      rose = λ p. omega (arith, raised.counts p, few p);
      agree = (
        add_agrees make s t place node add,
        (
          record {
            children = λ p h. names_same u v p (raised.items p);
            builds = λ p h. ap (built leaf) (raised.items p);
            counted = λ p h. refl;
          },
          tt,
        ),
      );
      counted = (
        λ q. omega (
          arith,
          raised.counts q,
          counted.0 q,
          named_but q (map children_of s.slots) (map children_of t.slots) place (names_other make s t place node add),
          ap (times q) (names_new make s t place node add),
          ap (times q) (names_old make s t place node add),
        ),
        tt,
      );
      values = ap (λ (x : Part). x ∷ [])
          (add_value make s t place node add (level_of leaf v ∷ [])
          ∙ ap (make node.content) (map_same (value nothing (level_of leaf v ∷ [])) (value nothing (level_of leaf u ∷ [])) node.children (λ q h. leaf_value q)));
    }

-- where nothing came below, nothing comes above
pub parts_without : (most : ℕ → ℕ) (j l m : Level Part) (ls ms : List (Level Part)) (k1 k2 : Level Part) (P : List Part) → AllCounted (j ∷ l ∷ ls ++ k1 ∷ [])
    → Parts most [] P l m ls ms k1 k2 → Parts most [] [] j j (l ∷ ls) (m ∷ ms) k1 k2
parts_without most j l m ls ms k1 k2 P counted below = record {
  counts = λ p. omega arith;
  fresh = λ p h. absurd (omega (arith, h));
  more = (new_by [] l m below.counts below.fresh, below.more);
  no_fewer = below.no_fewer;
  rose = below.rose;
  agree = (record { children = λ p h. refl; builds = λ p h. refl; counted = λ p h. refl }, below.agree);
  counted = (λ q. omega (arith, below.counts q, counted.0 q), below.counted);
  values = refl;
}
