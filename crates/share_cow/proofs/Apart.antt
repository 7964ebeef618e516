-- No node stands twice in a tree of new nodes.
use Rattle.std.proofs.Common.{◌≡◌, ◌≢◌, ◌+◌, ◌*◌, ◌<◌, ◌≤◌, ℕ, zero, suc, pred, List, [], ◌∷◌, ◌++◌, take, refl, ap, sym, ◌∙◌, arith, inl, inr}
use Rattle.std.specs.Prelude.{cond, ◌==◌}
use Rattle.std.proofs.Math.Nat.{add-mul}
use Rattle.std.proofs.lemmas.Bool.Decides.{nat_tests}
use Rattle.share_cow.specs.Levels.{Counted, Level, list_at, named, stands, sum_over, times}
use Rattle.share_cow.specs.Lowering.{Agree}
use Rattle.share_cow.specs.Store.{Part}
use Rattle.share_cow.proofs.Growing.{New, Tidy, some_or_none}
use Rattle.share_cow.proofs.Lists.{sum_same, times_at, times_head}
use Rattle.share_cow.proofs.Same.{one_at_most}

-- how often a place is named in lists that count so often each
abbrev weighted : (ℕ → ℕ) → ℕ → List (List ℕ) → ℕ
weighted f q [] = 0
weighted f q (l ∷ ls) = f zero * times q l + weighted (λ i. f (suc i)) q ls

few_times : (n t : ℕ) → n ≤ 1 → n * t ≤ t
few_times zero t h = omega arith
few_times (suc zero) t h = omega arith
few_times (suc (suc n)) t h = absurd (omega (arith, h))

weighted_at_most : (f : ℕ → ℕ) (q : ℕ) (ls : List (List ℕ)) → ((i : ℕ) → f i ≤ 1) → weighted f q ls ≤ named q ls
weighted_at_most f q [] few = omega arith
weighted_at_most f q (l ∷ ls) few =
    omega (arith, few_times (f zero) (times q l) (few zero), weighted_at_most (λ i. f (suc i)) q ls (λ i. few (suc i)))

weighted_zero : (f : ℕ → ℕ) (q : ℕ) (ls : List (List ℕ)) → ((i : ℕ) → f i ≡ 0) → weighted f q ls ≡ 0
weighted_zero f q [] none = refl
weighted_zero f q (l ∷ ls) none =
    omega (arith, ap (λ (n : ℕ). n * times q l) (none zero), weighted_zero (λ i. f (suc i)) q ls (λ i. none (suc i)))

weighted_add : (f g : ℕ → ℕ) (q : ℕ) (ls : List (List ℕ)) → weighted f q ls + weighted g q ls ≡ weighted (λ i. f i + g i) q ls
weighted_add f g q [] = refl
weighted_add f g q (l ∷ ls) = omega (arith, add-mul (f zero) (g zero) (times q l), weighted_add (λ i. f (suc i)) (λ i. g (suc i)) q ls)

weighted_sum : (F : ℕ → ℕ → ℕ) (q : ℕ) (ls : List (List ℕ)) (rs : List ℕ) → sum_over (λ r. weighted (F r) q ls) rs ≡ weighted (λ i. sum_over (λ r. F r i) rs) q ls
weighted_sum F q ls [] = sym (weighted_zero (λ i. 0) q ls (λ i. refl))
weighted_sum F q ls (r ∷ rs) = omega (arith, weighted_sum F q ls rs, weighted_add (F r) (λ i. sum_over (λ r. F r i) rs) q ls)

weighted_pick : (f : ℕ → ℕ) (q p : ℕ) (ls : List (List ℕ)) → f p ≡ 1 → ((i : ℕ) → i ≢ p → f i ≡ 0) → weighted f q ls ≡ times q (list_at ls p)
weighted_pick f q p [] one none = refl
weighted_pick f q zero (l ∷ ls) one none =
    omega (arith, ap (λ (n : ℕ). n * times q l) one, weighted_zero (λ i. f (suc i)) q ls (λ i. none (suc i) (λ e. absurd (omega (arith, e)))))
weighted_pick f q (suc p) (l ∷ ls) one none =
    omega (arith, ap (λ (n : ℕ). n * times q l) (none zero (λ e. absurd (omega (arith, e)))), weighted_pick (λ i. f (suc i)) q p ls one (λ i d. none (suc i) (λ e. d (ap pred e))))

same_place : (p : ℕ) → cond {A = ℕ} (p == p) 1 0 ≡ 1
same_place p = grind (arith, nat_tests)

pub other_place : (p i : ℕ) → i ≢ p → cond {A = ℕ} (p == i) 1 0 ≡ 0
other_place p i d = grind (arith, nat_tests)

pub sum_is_times : (q : ℕ) (rs : List ℕ) → sum_over (stands {X = Part} [] q) rs ≡ times q rs
sum_is_times q [] = refl
sum_is_times q (r ∷ rs) = omega (arith, sum_is_times q rs)

-- what is named with a weight is named
weighted_named : (f : ℕ → ℕ) (q : ℕ) (ls : List (List ℕ)) → 0 < weighted f q ls → 0 < named q ls
weighted_named f q [] h = absurd (omega (arith, h))
weighted_named f q (l ∷ ls) h = elim (some_or_none (times q l)) as (λ x. 0 < named q (l ∷ ls)) [
  | inl e ↦ omega (arith, e)
  | inr e ↦ omega (arith, weighted_named (λ i. f (suc i)) q ls (omega (arith, h, ap (λ (n : ℕ). f zero * n) e)))
]

-- and where a list has none, another one names it too
pub weighted_apart : (f : ℕ → ℕ) (q p : ℕ) (ls : List (List ℕ)) → f p ≡ 0 → 0 < weighted f q ls → times q (list_at ls p) < named q ls
weighted_apart f q p [] none h = absurd (omega (arith, h))
weighted_apart f q zero (l ∷ ls) none h =
    omega (arith, weighted_named (λ i. f (suc i)) q ls (omega (arith, h, ap (λ (n : ℕ). n * times q l) none)))
weighted_apart f q (suc p) (l ∷ ls) none h = elim (some_or_none (times q l)) as (λ x. times q (list_at ls p) < named q (l ∷ ls)) [
  | inl e ↦ omega (arith, e, times_at q ls p)
  | inr e ↦ omega (arith, weighted_apart (λ i. f (suc i)) q p ls none (omega (arith, h, ap (λ (n : ℕ). f zero * n) e)))
]

-- a place stands as often as the nodes above it that name it
pub stands_weighted : (ls : List (Level Part)) (k : Level Part) (q p : ℕ) → stands (ls ++ k ∷ []) q p ≡ weighted (λ i. stands ls i p) q k.children
stands_weighted [] k q p =
    sum_is_times q (list_at k.children p) ∙ sym (weighted_pick (λ i. stands {X = Part} [] i p) q p k.children (same_place p) (λ i d. other_place p i d))
stands_weighted (l ∷ ls) k q p =
    sum_same (stands (ls ++ k ∷ []) q) (λ r. weighted (λ i. stands ls i r) q k.children) (list_at l.children p) (λ r h. stands_weighted ls k q r)
    ∙ weighted_sum (λ r i. stands ls i r) q k.children (list_at l.children p)

named_less : (q : ℕ) (ls ms : List (List ℕ)) → ((i : ℕ) → times q (list_at ls i) ≤ times q (list_at ms i)) → named q ls ≤ named q ms
named_less q [] ms less = omega arith
named_less q (l ∷ ls) [] less = omega (arith, less zero, named_less q ls [] (λ i. less (suc i)))
named_less q (l ∷ ls) (m ∷ ms) less = omega (arith, less zero, named_less q ls ms (λ i. less (suc i)))

-- a list that came names what it names beside all others
named_more : (q p : ℕ) (ls ms : List (List ℕ)) → ((i : ℕ) → times q (list_at ls i) ≤ times q (list_at ms i)) → list_at ls p ≡ []
    → named q ls + times q (list_at ms p) ≤ named q ms
named_more q p ls [] less none = omega (arith, named_less q ls [] less)
named_more q zero [] (m ∷ ms) less none = omega arith
named_more q (suc p) [] (m ∷ ms) less none = omega (arith, named_more q p [] ms (λ i. less (suc i)) refl)
named_more q zero (l ∷ ls) (m ∷ ms) less none = omega (arith, ap (times q) none, named_less q ls ms (λ i. less (suc i)))
named_more q (suc p) (l ∷ ls) (m ∷ ms) less none = omega (arith, less zero, named_more q p ls ms (λ i. less (suc i)) none)

module _ (l m l2 m2 : Level Part) (before : Counted l l2) (after : Counted m m2) (agree : Agree l l m) (tidy : Tidy l) (new : (q : ℕ) → New l2 m2 q) where
  no_fewer : (r i : ℕ) → times r (list_at l.children i) ≤ times r (list_at m.children i)
  no_fewer r i = elim (some_or_none (l.count i)) as (λ x. times r (list_at l.children i) ≤ times r (list_at m.children i)) [
    | inl e ↦ omega (arith, ap (times r) (agree.children i e))
    | inr e ↦ omega (arith, ap (times r) (tidy i e))
  ]

  -- a new node names new nodes alone
  pub new_children : (p r : ℕ) → l.count p ≡ 0 → 0 < times r (list_at m.children p) → l2.count r ≡ 0
  new_children p r none h = elim (new r) as (λ x. l2.count r ≡ 0) [
    | inl e ↦ absurd (omega (arith, e, h, before r, after r, named_more r p l.children m.children (no_fewer r) (tidy p none)))
    | inr e ↦ e.0
  ]

weighted_more : (f : ℕ → ℕ) (q : ℕ) (ls ms : List (List ℕ)) → ((i : ℕ) → times q (list_at ls i) + f i * times q (list_at ms i) ≤ times q (list_at ms i)) → named q ls + weighted f q ms ≤ named q ms
weighted_more f q [] [] more = omega arith
weighted_more f q [] (m ∷ ms) more = omega (arith, more zero, weighted_more (λ i. f (suc i)) q [] ms (λ i. more (suc i)))
weighted_more f q (l ∷ ls) [] more = omega (arith, more zero, weighted_more (λ i. f (suc i)) q ls [] (λ i. more (suc i)))
weighted_more f q (l ∷ ls) (m ∷ ms) more = omega (arith, more zero, weighted_more (λ i. f (suc i)) q ls ms (λ i. more (suc i)))

-- places that don't come again below a node
pub sum_none : (f : ℕ → ℕ) (qs : List ℕ) → ((q : ℕ) → 0 < times q qs → f q ≡ 0) → sum_over f qs ≡ 0
sum_none f [] none = refl
sum_none f (q ∷ qs) none = omega (arith, none q (omega (arith, times_head q qs)), sum_none f qs (λ r h. none r (omega (arith, h))))

-- where each new node stands at most once above, it does so below
once_below : (above : List (Level Part)) (k m l : Level Part) (p : ℕ) → Counted k m → ((q : ℕ) → New l m q) → ((i : ℕ) → stands above i p ≤ 1)
    → ((q : ℕ) → 0 < l.count q → stands (above ++ k ∷ []) q p ≡ 0) → (q : ℕ) → stands (above ++ k ∷ []) q p ≤ 1
once_below above k m l p counted new once none q = elim (some_or_none (l.count q)) as (λ x. stands (above ++ k ∷ []) q p ≤ 1) [
  | inl e ↦ omega (arith, none q e)
  | inr e ↦
      (let few : m.count q ≤ 1 = elim (new q) as (λ x. m.count q ≤ 1) [ inl d ↦ omega (arith, d, e) | inr d ↦ omega (arith, d.1) ] in
      omega (arith, stands_weighted above k q p, weighted_at_most (λ i. stands above i p) q k.children once, counted q, few))
]

module _ (l0 l1 l2 l3 m0 m1 m2 m3 : Level Part) (b01 : Counted l0 l1) (b12 : Counted l1 l2) (b23 : Counted l2 l3) (a01 : Counted m0 m1) (a12 : Counted m1 m2) (a23 : Counted m2 m3)
    (g0 : Agree l0 l0 m0) (g1 : Agree l1 l1 m1) (g2 : Agree l2 l2 m2) (t0 : Tidy l0) (t1 : Tidy l1) (t2 : Tidy l2)
    (n1 : (q : ℕ) → New l1 m1 q) (n2 : (q : ℕ) → New l2 m2 q) where
  none_1 : (p q : ℕ) → l0.count p ≡ 0 → 0 < l1.count q → stands (m0 ∷ []) q p ≡ 0
  none_1 p q new old = sum_none (stands {X = Part} [] q) (list_at m0.children p)
      (λ r h. other_place r q (λ e. absurd (omega (arith, old, new_children l0 m0 l1 m1 b01 a01 g0 t0 n1 p r new h, ap l1.count e))))

  none_2' : (p q : ℕ) → l1.count p ≡ 0 → 0 < l2.count q → stands (m1 ∷ []) q p ≡ 0
  none_2' p q new old = sum_none (stands {X = Part} [] q) (list_at m1.children p)
      (λ r h. other_place r q (λ e. absurd (omega (arith, old, new_children l1 m1 l2 m2 b12 a12 g1 t1 n2 p r new h, ap l2.count e))))

  none_2 : (p q : ℕ) → l0.count p ≡ 0 → 0 < l2.count q → stands (m0 ∷ m1 ∷ []) q p ≡ 0
  none_2 p q new old = sum_none (stands (m1 ∷ []) q) (list_at m0.children p)
      (λ r h. none_2' r q (new_children l0 m0 l1 m1 b01 a01 g0 t0 n1 p r new h) old)

  module _ (p : ℕ) (new : l0.count p ≡ 0) where
    once_0 : (q : ℕ) → stands {X = Part} [] q p ≤ 1
    once_0 q = one_at_most (p == q)

    once_1 : (q : ℕ) → stands (m0 ∷ []) q p ≤ 1
    once_1 = once_below [] m0 m1 l1 p a01 n1 once_0 (λ q old. none_1 p q new old)

    once_2 : (q : ℕ) → stands (m0 ∷ m1 ∷ []) q p ≤ 1
    once_2 = once_below (m0 ∷ []) m1 m2 l2 p a12 n2 once_1 (λ q old. none_2 p q new old)

    once_all : ((q : ℕ) → stands (m0 ∷ m1 ∷ m2 ∷ []) q p ≤ 1) → (depth q : ℕ) → depth < 4 → stands (take depth (m0 ∷ m1 ∷ m2 ∷ m3 ∷ [])) q p ≤ 1
    once_all last zero q h = once_0 q
    once_all last (suc zero) q h = once_1 q
    once_all last (suc (suc zero)) q h = once_2 q
    once_all last (suc (suc (suc zero))) q h = last q
    once_all last (suc (suc (suc (suc depth)))) q h = absurd (omega (arith, h))

    -- of the last level the new node has what is named more often than before
    more_named : (q i : ℕ) → times q (list_at l2.children i) + stands (m0 ∷ m1 ∷ []) i p * times q (list_at m2.children i) ≤ times q (list_at m2.children i)
    more_named q i = elim (some_or_none (l2.count i)) as (λ x. times q (list_at l2.children i) + stands (m0 ∷ m1 ∷ []) i p * times q (list_at m2.children i) ≤ times q (list_at m2.children i)) [
      | inl e ↦ omega (arith, ap (times q) (g2.children i e), ap (λ (n : ℕ). n * times q (list_at m2.children i)) (none_2 p i new e))
      | inr e ↦ omega (arith, ap (times q) (t2 i e), few_times (stands (m0 ∷ m1 ∷ []) i p) (times q (list_at m2.children i)) (once_2 i))
    ]

    -- where the last level's nodes are those from before, which count more by 1 at most
    pub parts_apart : ((q : ℕ) → m3.count q ≤ l3.count q + 1) → (depth q : ℕ) → depth < 4 → stands (take depth (m0 ∷ m1 ∷ m2 ∷ m3 ∷ [])) q p ≤ 1
    parts_apart few = once_all (λ q.
        (let more = weighted_more (λ i. stands (m0 ∷ m1 ∷ []) i p) q l2.children m2.children (more_named q) in
        omega (arith, more, stands_weighted (m0 ∷ m1 ∷ []) m2 q p, b23 q, a23 q, few q)))

  module _ (n3 : (q : ℕ) → New l3 m3 q) where
    none_3'' : (p q : ℕ) → l2.count p ≡ 0 → 0 < l3.count q → stands (m2 ∷ []) q p ≡ 0
    none_3'' p q new old = sum_none (stands {X = Part} [] q) (list_at m2.children p)
        (λ r h. other_place r q (λ e. absurd (omega (arith, old, new_children l2 m2 l3 m3 b23 a23 g2 t2 n3 p r new h, ap l3.count e))))

    none_3' : (p q : ℕ) → l1.count p ≡ 0 → 0 < l3.count q → stands (m1 ∷ m2 ∷ []) q p ≡ 0
    none_3' p q new old = sum_none (stands (m2 ∷ []) q) (list_at m1.children p)
        (λ r h. none_3'' r q (new_children l1 m1 l2 m2 b12 a12 g1 t1 n2 p r new h) old)

    none_3 : (p q : ℕ) → l0.count p ≡ 0 → 0 < l3.count q → stands (m0 ∷ m1 ∷ m2 ∷ []) q p ≡ 0
    none_3 p q new old = sum_none (stands (m1 ∷ m2 ∷ []) q) (list_at m0.children p)
        (λ r h. none_3' r q (new_children l0 m0 l1 m1 b01 a01 g0 t0 n1 p r new h) old)

    -- no node stands twice in the tree of a new one
    pub new_apart : (p : ℕ) → l0.count p ≡ 0 → (depth q : ℕ) → depth < 4 → stands (take depth (m0 ∷ m1 ∷ m2 ∷ m3 ∷ [])) q p ≤ 1
    new_apart p new = once_all p new (once_below (m0 ∷ m1 ∷ []) m2 m3 l3 p a23 n3 (once_2 p new) (λ q old. none_3 p q new old))
