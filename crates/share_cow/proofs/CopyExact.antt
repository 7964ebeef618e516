-- The tree whose path is taken loses exactly one shared place.
use Rattle.std.proofs.Common.{◌≡◌, ◌≢◌, ◌+◌, ◌<◌, ◌≤◌, ℕ, List, [], ◌∷◌, ◌++◌, Option, refl, ap, sym, ◌∙◌, subst, arith, inl, inr}
use Rattle.std.proofs.lemmas.Bool.{lt-ltb, le-ltb}
use Rattle.std.proofs.lemmas.Bool.Decides.{eqb_tells, nat_tests}
use Rattle.share_cow.specs.Copies.{Copies, onto, stands_open}
use Rattle.share_cow.specs.Levels.{Counted, Level, list_at, stands, sum_over, times}
use Rattle.share_cow.proofs.Lists.{sum_below, sum_same, times_append, times_head, times_other}
use Rattle.share_cow.proofs.CopyCounts.{after_is_not_new, before_is_not_new, named_is_not_new}
use Rattle.share_cow.proofs.CopySharing.{BelowCounted, new_shared, other_shared, over_one, same_size, shared, shared_parts, shared_whole, sum_entry, upper_size}

sum_plus : (f g : ℕ → ℕ) (qs : List ℕ) → sum_over (λ q. f q + g q) qs ≡ sum_over f qs + sum_over g qs
sum_plus f g [] = omega arith
sum_plus f g (q ∷ qs) = omega (arith, sum_plus f g qs)

-- where no term is below its fellow and the sums are not above, no term is above
sum_tight : (f g : ℕ → ℕ) (qs : List ℕ) → ((q : ℕ) → f q ≤ g q) → sum_over g qs ≤ sum_over f qs → (q : ℕ) → 0 < times q qs → g q ≤ f q
sum_tight f g [] below tight q h = absurd (omega arith)
sum_tight f g (r ∷ qs) below tight q h =
    let rest = sum_below f g qs (λ x y. below x) in
    elim (eqb_tells r q) as (λ x. g q ≤ f q) [
      | inl t ↦ subst (λ (x : ℕ). g x ≤ f x) t.1 (omega (arith, rest, tight, below r))
      | inr t ↦ sum_tight f g qs below (omega (arith, rest, tight, below r)) q (omega (arith, h, times_other q r qs t.1))
    ]

pub sum_is_times : (X : Type 0) (p : ℕ) (qs : List ℕ) → sum_over (stands {X = X} [] p) qs ≡ times p qs
sum_is_times X p [] = refl
sum_is_times X p (q ∷ qs) = omega (arith, sum_is_times X p qs)

pub stands_here : (X : Type 0) (p q : ℕ) → p ≡ q → stands {X = X} [] q p ≡ 1
stands_here X p q e = grind (arith, nat_tests)

pub stands_not : (X : Type 0) (p q : ℕ) → p ≢ q → stands {X = X} [] q p ≡ 0
stands_not X p q e = grind (arith, nat_tests)

pub open_shut : {X : Type 0} (l : Level X) (ls : List (Level X)) (q p : ℕ) → 1 < l.count p → stands_open (l ∷ ls) q p ≡ 0
open_shut l ls q p h = rw (lt-ltb 1 (l.count p) h) refl

pub open_parts : {X : Type 0} (l : Level X) (ls : List (Level X)) (q p : ℕ) → l.count p ≤ 1 → stands_open (l ∷ ls) q p ≡ sum_over (stands_open ls q) (list_at l.children p)
open_parts l ls q p h = rw (le-ltb 1 (l.count p) h) refl

pub open_stands : {X : Type 0} (ls : List (Level X)) (q p : ℕ) → stands_open ls q p ≤ stands ls q p
open_stands [] q p = omega arith
open_stands (l ∷ ls) q p = elim (over_one (l.count p)) as (λ x. stands_open (l ∷ ls) q p ≤ stands (l ∷ ls) q p) [
  | inl t ↦ omega (arith, open_shut l ls q p t)
  | inr t ↦ omega (arith, open_parts l ls q p t, sum_below (stands_open ls q) (stands ls q) (list_at l.children p) (λ r h. open_stands ls q r))
]

module _ {X : Type 0} {parent old new : ℕ} {before after : List ℕ} {k m k2 m2 : Level X} {b b2 : Option (Level X)} (c : Copies parent old new before after k m k2 m2 b b2) where
  names_old : 0 < times old (list_at k.children parent)
  names_old = omega (arith, ap (times old) c.was_entry, times_append old before (old ∷ after), times_head old after)

  -- wherever the parent stands, the copied node stands below it
  pub stands_covers : (above : List (Level X)) (p : ℕ) → stands above parent p ≤ stands (above ++ k ∷ []) old p
  stands_covers [] p = elim (eqb_tells p parent) as (λ x. stands {X = X} [] parent p ≤ stands (k ∷ []) old p) [
    | inl t ↦ omega (arith, stands_here X p parent t.1, sum_is_times X old (list_at k.children p), names_old, ap (λ (r : ℕ). times old (list_at k.children r)) t.1)
    | inr t ↦ omega (arith, stands_not X p parent t.1)
  ]
  stands_covers (l ∷ above) p = sum_below (stands above parent) (stands (above ++ k ∷ []) old) (list_at l.children p) (λ q h. stands_covers above q)

  module _ (below : List (Level X)) (counted : Counted k m) (counted_below : BelowCounted m b) where
    upper_same : (p : ℕ) → p ≢ parent → times old (list_at k.children p) ≡ 0 → shared (k2 ∷ m2 ∷ onto b2 below) p ≡ shared (k ∷ m ∷ onto b below) p
    upper_same p d none = elim (over_one (k.count p)) as (λ x. shared (k2 ∷ m2 ∷ onto b2 below) p ≡ shared (k ∷ m ∷ onto b below) p) [
      | inl t ↦ shared_whole k2 (m2 ∷ onto b2 below) p (omega (arith, t, c.upper_counts p)) ∙ upper_size c below counted p ∙ sym (shared_whole k (m ∷ onto b below) p t)
      | inr t ↦ shared_parts k2 (m2 ∷ onto b2 below) p (omega (arith, t, c.upper_counts p)) ∙ ap (sum_over (shared (m2 ∷ onto b2 below))) (c.other_entries p d)
          ∙ sum_same (shared (m2 ∷ onto b2 below)) (shared (m ∷ onto b below)) (list_at k.children p)
          (λ q h. other_shared c below counted_below q (λ e. absurd (omega (arith, h, none, ap (λ (r : ℕ). times r (list_at k.children p)) e))) (named_is_not_new c counted p q h))
          ∙ sym (shared_parts k (m ∷ onto b below) p t)
    ]

    upper_less : k.count parent ≤ 1 → times old before ≡ 0 → times old after ≡ 0 → shared (k2 ∷ m2 ∷ onto b2 below) parent + 1 ≡ shared (k ∷ m ∷ onto b below) parent
    upper_less one none_before none_after =
        let is = shared_parts k2 (m2 ∷ onto b2 below) parent (omega (arith, one, c.upper_counts parent)) in
        let was = shared_parts k (m ∷ onto b below) parent one in
        let old_kids = ap (sum_over (shared (m ∷ onto b below))) c.was_entry in
        let new_kids = ap (sum_over (shared (m2 ∷ onto b2 below))) c.entry in
        let head = sum_same (shared (m2 ∷ onto b2 below)) (shared (m ∷ onto b below)) before
        (λ q h. other_shared c below counted_below q (λ e. absurd (omega (arith, h, none_before, ap (λ (r : ℕ). times r before) e))) (before_is_not_new c counted q h)) in
        let rest = sum_same (shared (m2 ∷ onto b2 below)) (shared (m ∷ onto b below)) after
        (λ q h. other_shared c below counted_below q (λ e. absurd (omega (arith, h, none_after, ap (λ (r : ℕ). times r after) e))) (after_is_not_new c counted q h)) in
        let step = sum_entry (shared (m ∷ onto b below)) (shared (m2 ∷ onto b2 below)) old new before after head rest in
        omega (arith, is, was, old_kids, new_kids, step, new_shared c below counted_below)

    -- where the copied node stands only below the parent, the shared places fall by the number of the parent's places under unshared nodes
    pub exact : k.count parent ≤ 1 → (above : List (Level X)) (p : ℕ) → stands (above ++ k ∷ []) old p ≤ stands above parent p →
        shared (above ++ k2 ∷ m2 ∷ onto b2 below) p + stands_open above parent p ≡ shared (above ++ k ∷ m ∷ onto b below) p
    exact one [] p only = elim (eqb_tells p parent) as (λ x. shared (k2 ∷ m2 ∷ onto b2 below) p + stands_open {X = X} [] parent p ≡ shared (k ∷ m ∷ onto b below) p) [
      | inl t ↦
          (let once : times old (list_at k.children p) ≤ 1 = omega (arith, only, sum_is_times X old (list_at k.children p), stands_here X p parent t.1) in
          let list = ap (λ (r : ℕ). times old (list_at k.children r)) t.1 ∙ ap (times old) c.was_entry in
          let less = upper_less one (omega (arith, once, list, times_append old before (old ∷ after), times_head old after)) (omega (arith, once, list, times_append old before (old ∷ after), times_head old after)) in
          let here : stands_open {X = X} [] parent p ≡ 1 = stands_here X p parent t.1 in
          let there : shared (k2 ∷ m2 ∷ onto b2 below) p + 1 ≡ shared (k ∷ m ∷ onto b below) p = subst (λ (r : ℕ). shared (k2 ∷ m2 ∷ onto b2 below) r + 1 ≡ shared (k ∷ m ∷ onto b below) r) (sym t.1) less in
          omega (arith, here, there))
      | inr t ↦
          (let none : times old (list_at k.children p) ≡ 0 = omega (arith, only, sum_is_times X old (list_at k.children p), stands_not X p parent t.1) in
          let not : stands_open {X = X} [] parent p ≡ 0 = stands_not X p parent t.1 in
          omega (arith, not, upper_same p t.1 none))
    ]
    exact one (l ∷ above) p only = elim (over_one (l.count p)) as (λ x. shared (l ∷ (above ++ k2 ∷ m2 ∷ onto b2 below)) p + stands_open (l ∷ above) parent p ≡ shared (l ∷ (above ++ k ∷ m ∷ onto b below)) p) [
      | inl t ↦ omega (arith, open_shut l above parent p t, shared_whole l (above ++ k2 ∷ m2 ∷ onto b2 below) p t, shared_whole l (above ++ k ∷ m ∷ onto b below) p t, same_size c below counted (l ∷ above) p)
      | inr t ↦
          (let tight = sum_tight (stands above parent) (stands (above ++ k ∷ []) old) (list_at l.children p) (stands_covers above) only in
          let same = sum_same (λ q. shared (above ++ k2 ∷ m2 ∷ onto b2 below) q + stands_open above parent q) (shared (above ++ k ∷ m ∷ onto b below)) (list_at l.children p) (λ q h. exact one above q (tight q h)) in
          omega (
            arith,
            same,
            sum_plus (shared (above ++ k2 ∷ m2 ∷ onto b2 below)) (stands_open above parent) (list_at l.children p),
            open_parts l above parent p t,
            shared_parts l (above ++ k2 ∷ m2 ∷ onto b2 below) p t,
            shared_parts l (above ++ k ∷ m ∷ onto b below) p t,
          ))
    ]

    -- a root that reaches the parent by an unshared path, and the copied node once, loses exactly one shared place
    pub one_less : k.count parent ≤ 1 → (above : List (Level X)) (root : ℕ) → stands (above ++ k ∷ []) old root ≤ 1 → 0 < stands_open above parent root →
        shared (above ++ k2 ∷ m2 ∷ onto b2 below) root + 1 ≡ shared (above ++ k ∷ m ∷ onto b below) root
    one_less one above root once path =
        let open_in = open_stands above parent root in
        let covers = stands_covers above root in
        omega (arith, exact one above root (omega (arith, once, path, open_in)), once, path, open_in, covers)
