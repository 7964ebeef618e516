-- Trees that are the same node by node.
use Rattle.std.proofs.Common.{◌≡◌, ◌+◌, ◌<◌, ◌≤◌, ℕ, zero, suc, Bool, true, false, List, [], ◌∷◌, map, take, refl, ap, ◌∙◌, arith}
use Rattle.std.specs.Prelude.{cond, nat_lt, ◌||◌}
use Rattle.std.proofs.lemmas.Bool.{lt-ltb}
use Rattle.std.proofs.lemmas.Bool.Decides.{nat_tests}
use Rattle.share_cow.specs.Levels.{Level, AllCounted, list_at, shared_places, stands, sum_over, times, value}
use Rattle.share_cow.specs.Lowering.{AllAgree, AllFewer}
use Rattle.share_cow.proofs.Lists.{map_same, sum_below, sum_same, times_at}

pub one_at_most : (t : Bool) → cond t 1 0 ≤ 1
one_at_most true = omega arith
one_at_most false = omega arith

module _ {X : Type 0} where
  -- from the node at a place on, both have the same children, built alike
  abbrev pub SameFrom : List (Level X) → List (Level X) → ℕ → Type 0
  SameFrom [] [] p = Unit {0}
  SameFrom [] (m ∷ ms) p = ⊥
  SameFrom (l ∷ ls) [] p = ⊥
  SameFrom (l ∷ ls) (m ∷ ms) p =
      (list_at m.children p ≡ list_at l.children p) × (m.build p ≡ l.build p)
      × ((q : ℕ) → 0 < times q (list_at l.children p) → SameFrom ls ms q)

  pub value_same : (none : X) (ls ms : List (Level X)) (p : ℕ) → SameFrom ls ms p → value none ms p ≡ value none ls p
  value_same none [] [] p same = refl
  value_same none [] (m ∷ ms) p same = absurd same
  value_same none (l ∷ ls) [] p same = absurd same
  value_same none (l ∷ ls) (m ∷ ms) p same =
      let children = ap (map (value none ms)) same.0 in
      let below = map_same (value none ms) (value none ls) (list_at l.children p) (λ q h. value_same none ls ms q (same.2 q h)) in
      let built = same.1 in
      cc

  pub stands_same : (ls ms : List (Level X)) (p : ℕ) → SameFrom ls ms p → (depth q : ℕ) → stands (take depth ms) q p ≡ stands (take depth ls) q p
  stands_same [] [] p same depth q = refl
  stands_same [] (m ∷ ms) p same depth q = absurd same
  stands_same (l ∷ ls) [] p same depth q = absurd same
  stands_same (l ∷ ls) (m ∷ ms) p same zero q = refl
  stands_same (l ∷ ls) (m ∷ ms) p same (suc depth) q =
      ap (sum_over (stands (take depth ms) q)) same.0
      ∙ sum_same (stands (take depth ms) q) (stands (take depth ls) q) (list_at l.children p) (λ r h. stands_same ls ms r (same.2 r h) depth q)

  -- then a node that is counted has the same tree in both
  pub same_from : (w : Level X) (ws ls ms : List (Level X)) → AllCounted (w ∷ ws) → AllAgree (w ∷ ws) ls ms → (p : ℕ) → 0 < w.count p → SameFrom ls ms p
  same_from w ws [] ms counted agree p live = absurd agree
  same_from w ws (l ∷ ls) [] counted agree p live = absurd agree
  same_from w [] (l ∷ []) (m ∷ []) counted agree p live =
      (agree.0.children p live, agree.0.builds p live, λ q h. tt)
  same_from w [] (l ∷ []) (m ∷ n ∷ ms) counted agree p live = absurd agree.1
  same_from w [] (l ∷ k ∷ ls) (m ∷ ms) counted agree p live = absurd agree.1
  same_from w (v ∷ ws) (l ∷ ls) (m ∷ ms) counted agree p live = (
    agree.0.children p live,
    agree.0.builds p live,
    λ q h. same_from v ws ls ms counted.1 agree.1 q
        (omega (arith, h, counted.0 q, times_at q w.children p, ap (times q) (agree.0.counted p live))),
  )

  -- there are no more shared places than places
  pub shared_all : (above : Bool) (ls : List (Level X)) (p : ℕ) → shared_places above ls p ≤ shared_places true ls p
  shared_all above [] p = omega arith
  shared_all true (l ∷ ls) p = omega arith
  shared_all false (l ∷ ls) p =
      omega (
        arith,
        one_at_most (nat_lt 1 (l.count p)),
        sum_below (shared_places (nat_lt 1 (l.count p)) ls) (shared_places true ls) (list_at l.children p) (λ q h. shared_all (nat_lt 1 (l.count p)) ls q),
      )

  pub all_same : (ls ms : List (Level X)) (p : ℕ) → SameFrom ls ms p → shared_places true ms p ≡ shared_places true ls p
  all_same [] [] p same = refl
  all_same [] (m ∷ ms) p same = absurd same
  all_same (l ∷ ls) [] p same = absurd same
  all_same (l ∷ ls) (m ∷ ms) p same =
      ap (λ (n : ℕ). 1 + n) (ap (sum_over (shared_places true ms)) same.0
      ∙ sum_same (shared_places true ms) (shared_places true ls) (list_at l.children p) (λ q h. all_same ls ms q (same.2 q h)))

  -- below a count above 1 every place is shared
  pub shared_whole : (l : Level X) (ls : List (Level X)) (p : ℕ) → 1 < l.count p → shared_places false (l ∷ ls) p ≡ shared_places true (l ∷ ls) p
  shared_whole l ls p h = rw (lt-ltb 1 (l.count p) h) refl

  -- where only the first level differs, a node there that is as it was shares as much
  pub one_level_same : (l m : Level X) (ls : List (Level X)) (p : ℕ) → m.count p ≡ l.count p → list_at m.children p ≡ list_at l.children p
      → shared_places false (m ∷ ls) p ≡ shared_places false (l ∷ ls) p
  one_level_same l m ls p count children = rw (count, children) refl

or_less : (a b : Bool) (m l : ℕ) → cond a 1 0 ≤ cond b 1 0 → m ≤ l → cond (a || nat_lt 1 m) 1 0 ≤ cond (b || nat_lt 1 l) 1 0
or_less true true m l h less = omega arith
or_less true false m l h less = absurd (omega (arith, h))
or_less false true m l h less = one_at_most (nat_lt 1 m)
or_less false false m l h less = grind (arith, nat_tests)

module _ {X : Type 0} where
  -- where the counts are no greater, no more is shared
  pub shared_less : (a b : Bool) (ls ms : List (Level X)) (p : ℕ) → cond a 1 0 ≤ cond b 1 0 → SameFrom ls ms p → AllFewer ls ms
      → shared_places a ms p ≤ shared_places b ls p
  shared_less a b [] [] p h same fewer = omega arith
  shared_less a b [] (m ∷ ms) p h same fewer = absurd same
  shared_less a b (l ∷ ls) [] p h same fewer = absurd same
  shared_less a b (l ∷ ls) (m ∷ ms) p h same fewer =
      let less = or_less a b (m.count p) (l.count p) h (fewer.0 p) in
      let children = ap (sum_over (shared_places (a || nat_lt 1 (m.count p)) ms)) same.0 in
      let below = sum_below (shared_places (a || nat_lt 1 (m.count p)) ms) (shared_places (b || nat_lt 1 (l.count p)) ls) (list_at l.children p)
      (λ q at. shared_less (a || nat_lt 1 (m.count p)) (b || nat_lt 1 (l.count p)) ls ms q less (same.2 q at) fewer.1) in
      omega (arith, less, children, below)

  -- no node of a tree counts more
  abbrev pub FewerFrom : List (Level X) → List (Level X) → ℕ → Type 0
  FewerFrom [] [] p = Unit {0}
  FewerFrom [] (m ∷ ms) p = ⊥
  FewerFrom (l ∷ ls) [] p = ⊥
  FewerFrom (l ∷ ls) (m ∷ ms) p = (m.count p ≤ l.count p) × ((q : ℕ) → 0 < times q (list_at l.children p) → FewerFrom ls ms q)

  pub shared_fewer : (a b : Bool) (ls ms : List (Level X)) (p : ℕ) → cond a 1 0 ≤ cond b 1 0 → SameFrom ls ms p → FewerFrom ls ms p
      → shared_places a ms p ≤ shared_places b ls p
  shared_fewer a b [] [] p h same fewer = omega arith
  shared_fewer a b [] (m ∷ ms) p h same fewer = absurd same
  shared_fewer a b (l ∷ ls) [] p h same fewer = absurd same
  shared_fewer a b (l ∷ ls) (m ∷ ms) p h same fewer =
      let less = or_less a b (m.count p) (l.count p) h fewer.0 in
      let children = ap (sum_over (shared_places (a || nat_lt 1 (m.count p)) ms)) same.0 in
      let below = sum_below (shared_places (a || nat_lt 1 (m.count p)) ms) (shared_places (b || nat_lt 1 (l.count p)) ls) (list_at l.children p)
      (λ q at. shared_fewer (a || nat_lt 1 (m.count p)) (b || nat_lt 1 (l.count p)) ls ms q less (same.2 q at) (fewer.1 q at)) in
      omega (arith, less, children, below)
