-- After a node is copied no node stands twice in a tree where none did.
use Rattle.std.proofs.Common.{◌≡◌, ◌≢◌, ◌≤◌, ℕ, zero, suc, List, [], ◌∷◌, ◌++◌, Option, Some, None, length, take, refl, ap, sym, ◌∙◌, subst, arith, inl, inr, ◌⊎◌}
use Rattle.std.proofs.lemmas.Bool.Decides.{eqb_tells}
use Rattle.share_cow.specs.Copies.{AreRaised, Copies, onto}
use Rattle.share_cow.specs.Levels.{Counted, IsApart, Level, list_at, stands, sum_over, times}
use Rattle.share_cow.proofs.Lists.{sum_below, sum_same, times_append, times_head, times_other}
use Rattle.share_cow.proofs.CopyCounts.{after_is_not_new, before_is_not_new, named_is_not_new, new_unnamed, times_entry}
use Rattle.share_cow.proofs.CopyExact.{stands_here, stands_not, sum_is_times}
use Rattle.share_cow.proofs.CopySharing.{sum_entry}

raised_stands : {X : Type 0} (below : List (Level X)) (places : List ℕ) (b b2 : Option (Level X)) → AreRaised places b b2 → (j q p : ℕ)
    → stands (take j (onto b2 below)) q p ≡ stands (take j (onto b below)) q p
raised_stands below places None None raised j q p = refl
raised_stands below places None (Some m) raised j q p = absurd raised
raised_stands below places (Some l) None raised j q p = absurd raised
raised_stands below places (Some l) (Some m) raised zero q p = refl
raised_stands below places (Some l) (Some m) raised (suc j) q p = ap (sum_over (stands (take j below) q)) (raised.children p)

raised_length : {X : Type 0} (below : List (Level X)) (places : List ℕ) (b b2 : Option (Level X)) → AreRaised places b b2 → length (onto b2 below) ≡ length (onto b below)
raised_length below places None None raised = refl
raised_length below places None (Some m) raised = absurd raised
raised_length below places (Some l) None raised = absurd raised
raised_length below places (Some l) (Some m) raised = refl

module _ {X : Type 0} {parent old new : ℕ} {before after : List ℕ} {k m k2 m2 : Level X} {b b2 : Option (Level X)} (c : Copies parent old new before after k m k2 m2 b b2) (below : List (Level X)) (counted : Counted k m) where
  -- on the level of the copied node
  level_new : (p : ℕ) → stands (k2 ∷ []) new p ≡ stands {X = X} [] parent p
  level_new p =
      let sum = sum_is_times X new (list_at k2.children p) in
      let none = new_unnamed c counted parent in
      elim (eqb_tells p parent) as (λ x. stands (k2 ∷ []) new p ≡ stands {X = X} [] parent p) [
        | inl t ↦
            (let kids = ap (λ (r : ℕ). times new (list_at k2.children r)) t.1 ∙ ap (times new) c.entry in
            omega (arith, sum, kids, none, ap (times new) c.was_entry, times_append new before (new ∷ after), times_append new before (old ∷ after), times_head new after, stands_here X p parent t.1))
        | inr t ↦ omega (arith, sum, ap (times new) (c.other_entries p t.1), new_unnamed c counted p, stands_not X p parent t.1)
      ]

  level_other : (q : ℕ) → q ≢ new → (p : ℕ) → stands (k2 ∷ []) q p ≤ stands (k ∷ []) q p
  level_other q d p =
      let is = sum_is_times X q (list_at k2.children p) in
      let was = sum_is_times X q (list_at k.children p) in
      elim (eqb_tells p parent) as (λ x. stands (k2 ∷ []) q p ≤ stands (k ∷ []) q p) [
        | inl t ↦
            (let kids = ap (λ (r : ℕ). times q (list_at k2.children r)) t.1 ∙ ap (times q) c.entry in
            let old_kids = ap (λ (r : ℕ). times q (list_at k.children r)) t.1 ∙ ap (times q) c.was_entry in
            omega (arith, is, was, kids, old_kids, times_entry q old new before after, times_other q new [] (λ e. d (sym e))))
        | inr t ↦ omega (arith, is, was, ap (times q) (c.other_entries p t.1))
      ]

  -- and on the levels below it
  below_stands : (j q p : ℕ) → stands (take j (onto b2 below)) q p ≡ stands (take j (onto b below)) q p
  below_stands = raised_stands below (list_at m.children old) b b2 c.below

  other_stands : (j q p : ℕ) → p ≢ new → stands (m2 ∷ take j (onto b2 below)) q p ≡ stands (m ∷ take j (onto b below)) q p
  other_stands j q p d = ap (sum_over (stands (take j (onto b2 below)) q)) (c.other_children p d) ∙ sum_same (stands (take j (onto b2 below)) q) (stands (take j (onto b below)) q) (list_at m.children p) (λ r h. below_stands j q r)

  new_stands : (j q : ℕ) → stands (m2 ∷ take j (onto b2 below)) q new ≡ stands (m ∷ take j (onto b below)) q old
  new_stands j q = ap (sum_over (stands (take j (onto b2 below)) q)) c.copy ∙ sum_same (stands (take j (onto b2 below)) q) (stands (take j (onto b below)) q) (list_at m.children old) (λ r h. below_stands j q r)

  deep_stands : (j q p : ℕ) → stands (k2 ∷ m2 ∷ take j (onto b2 below)) q p ≡ stands (k ∷ m ∷ take j (onto b below)) q p
  deep_stands j q p = elim (eqb_tells p parent) as (λ x. stands (k2 ∷ m2 ∷ take j (onto b2 below)) q p ≡ stands (k ∷ m ∷ take j (onto b below)) q p) [
    | inl t ↦ subst (λ (r : ℕ). stands (k2 ∷ m2 ∷ take j (onto b2 below)) q r ≡ stands (k ∷ m ∷ take j (onto b below)) q r) (sym t.1)
        (let old_kids = ap (sum_over (stands (m ∷ take j (onto b below)) q)) c.was_entry in
        let new_kids = ap (sum_over (stands (m2 ∷ take j (onto b2 below)) q)) c.entry in
        let head = sum_same (stands (m2 ∷ take j (onto b2 below)) q) (stands (m ∷ take j (onto b below)) q) before (λ r h. other_stands j q r (before_is_not_new c counted r h)) in
        let rest = sum_same (stands (m2 ∷ take j (onto b2 below)) q) (stands (m ∷ take j (onto b below)) q) after (λ r h. other_stands j q r (after_is_not_new c counted r h)) in
        let same = sum_entry (stands (m ∷ take j (onto b below)) q) (stands (m2 ∷ take j (onto b2 below)) q) old new before after head rest in
        omega (arith, old_kids, new_kids, same, new_stands j q))
    | inr t ↦ ap (sum_over (stands (m2 ∷ take j (onto b2 below)) q)) (c.other_entries p t.1)
        ∙ sum_same (stands (m2 ∷ take j (onto b2 below)) q) (stands (m ∷ take j (onto b below)) q) (list_at k.children p) (λ r h. other_stands j q r (named_is_not_new c counted p r h))
  ]

  -- no node stands more often, but that the new one stands where its parent does
  abbrev AsBefore : List (Level X) → ℕ → ℕ → Type 0
  AsBefore above n q =
      ((p : ℕ) → stands (take n (above ++ k2 ∷ m2 ∷ onto b2 below)) q p ≤ stands (take n (above ++ k ∷ m ∷ onto b below)) q p)
      ⊎ ((j : ℕ) × (j ≤ n) × ((p : ℕ) → stands (take n (above ++ k2 ∷ m2 ∷ onto b2 below)) q p ≡ stands (take j (above ++ k ∷ m ∷ onto b below)) parent p))

  compared : (above : List (Level X)) (n q : ℕ) → AsBefore above n q
  compared [] zero q = inl (λ p. omega arith)
  compared [] (suc zero) q = elim (eqb_tells q new) as (λ x. AsBefore [] (suc zero) q) [
    | inl t ↦ inr (0, omega arith, λ p. ap (λ (r : ℕ). stands (k2 ∷ []) r p) t.1 ∙ level_new p)
    | inr t ↦ inl (λ p. level_other q t.1 p)
  ]
  compared [] (suc (suc j)) q = inl (λ p. omega (arith, deep_stands j q p))
  compared (l ∷ above) zero q = inl (λ p. omega arith)
  compared (l ∷ above) (suc n) q = elim (compared above n q) as (λ x. AsBefore (l ∷ above) (suc n) q) [
    | inl t ↦ inl (λ p. sum_below (stands (take n (above ++ k2 ∷ m2 ∷ onto b2 below)) q) (stands (take n (above ++ k ∷ m ∷ onto b below)) q) (list_at l.children p) (λ r h. t r))
    | inr t ↦ inr (suc t.0, omega (arith, t.1), λ p. sum_same (stands (take n (above ++ k2 ∷ m2 ∷ onto b2 below)) q) (stands (take t.0 (above ++ k ∷ m ∷ onto b below)) parent) (list_at l.children p) (λ r h. t.2 r))
  ]

  same_length : (above : List (Level X)) → length (above ++ k2 ∷ m2 ∷ onto b2 below) ≡ length (above ++ k ∷ m ∷ onto b below)
  same_length [] = omega (arith, raised_length below (list_at m.children old) b b2 c.below)
  same_length (l ∷ above) = omega (arith, same_length above)

  pub stays_apart : (above : List (Level X)) (root : ℕ) → IsApart (above ++ k ∷ m ∷ onto b below) root → IsApart (above ++ k2 ∷ m2 ∷ onto b2 below) root
  stays_apart above root was n q h = elim (compared above n q) as (λ x. stands (take n (above ++ k2 ∷ m2 ∷ onto b2 below)) q root ≤ 1) [
    | inl t ↦ omega (arith, t root, was n q (omega (arith, h, same_length above)))
    | inr t ↦ omega (arith, t.2 root, was t.0 parent (omega (arith, h, t.1, same_length above)))
  ]
