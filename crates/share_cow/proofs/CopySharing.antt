-- What a copied node does to the shared places of each tree.
use Rattle.std.proofs.Common.{◌≡◌, ◌≢◌, ◌+◌, ◌<◌, ◌≤◌, ℕ, zero, suc, true, false, List, [], ◌∷◌, ◌++◌, Option, Some, None, refl, ap, sym, ◌∙◌, subst, arith, inl, inr, ◌⊎◌}
use Rattle.std.proofs.lemmas.Bool.{lt-ltb, le-ltb}
use Rattle.std.proofs.lemmas.Bool.Decides.{eqb_tells}
use Rattle.share_cow.specs.Copies.{AreRaised, Copies, Raised, onto}
use Rattle.share_cow.specs.Levels.{Counted, Level, list_at, shared_places, sum_over, times}
use Rattle.share_cow.proofs.Lists.{both_name, sum_append, sum_below, sum_same, times_at}
use Rattle.share_cow.proofs.CopyCounts.{after_is_not_new, before_is_not_new, named_is_not_new}
use Rattle.share_cow.proofs.Same.{shared_all}

-- the places of a tree, and those of them that are shared
abbrev pub size : {X : Type 0} → List (Level X) → ℕ → ℕ
size = shared_places true

abbrev pub shared : {X : Type 0} → List (Level X) → ℕ → ℕ
shared = shared_places false

-- the sums over a list and over the list with another entry
pub sum_entry : (f g : ℕ → ℕ) (old new : ℕ) (before after : List ℕ) → sum_over g before ≡ sum_over f before → sum_over g after ≡ sum_over f after →
    sum_over g (before ++ new ∷ after) + f old ≡ sum_over f (before ++ old ∷ after) + g new
sum_entry f g old new before after head rest = omega (arith, head, rest, sum_append g before (new ∷ after), sum_append f before (old ∷ after))

raised_size : {X : Type 0} (below : List (Level X)) (places : List ℕ) (b b2 : Option (Level X)) → AreRaised places b b2 → (p : ℕ) → size (onto b2 below) p ≡ size (onto b below) p
raised_size below places None None raised p = refl
raised_size below places None (Some m) raised p = absurd raised
raised_size below places (Some l) None raised p = absurd raised
raised_size below places (Some l) (Some m) raised p = ap (λ (qs : List ℕ). 1 + sum_over (size below) qs) (raised.children p)

module _ {X : Type 0} {parent old new : ℕ} {before after : List ℕ} {k m k2 m2 : Level X} {b b2 : Option (Level X)} (c : Copies parent old new before after k m k2 m2 b b2) (below : List (Level X)) where
  pub below_size : (p : ℕ) → size (onto b2 below) p ≡ size (onto b below) p
  below_size p = raised_size below (list_at m.children old) b b2 c.below p

  pub kids_size : (qs : List ℕ) → sum_over (size (onto b2 below)) qs ≡ sum_over (size (onto b below)) qs
  kids_size qs = sum_same (size (onto b2 below)) (size (onto b below)) qs (λ q h. below_size q)

  pub other_size : (p : ℕ) → p ≢ new → size (m2 ∷ onto b2 below) p ≡ size (m ∷ onto b below) p
  other_size p d = ap (λ (qs : List ℕ). 1 + sum_over (size (onto b2 below)) qs) (c.other_children p d) ∙ ap (λ (n : ℕ). 1 + n) (kids_size (list_at m.children p))

  pub new_size : size (m2 ∷ onto b2 below) new ≡ size (m ∷ onto b below) old
  new_size = ap (λ (qs : List ℕ). 1 + sum_over (size (onto b2 below)) qs) c.copy ∙ ap (λ (n : ℕ). 1 + n) (kids_size (list_at m.children old))

  pub upper_size : Counted k m → (p : ℕ) → size (k2 ∷ m2 ∷ onto b2 below) p ≡ size (k ∷ m ∷ onto b below) p
  upper_size counted p = elim (eqb_tells p parent) as (λ x. size (k2 ∷ m2 ∷ onto b2 below) p ≡ size (k ∷ m ∷ onto b below) p) [
    | inl t ↦ subst (λ (q : ℕ). size (k2 ∷ m2 ∷ onto b2 below) q ≡ size (k ∷ m ∷ onto b below) q) (sym t.1)
        (let old_kids = ap (sum_over (size (m ∷ onto b below))) c.was_entry in
        let new_kids = ap (sum_over (size (m2 ∷ onto b2 below))) c.entry in
        let head = sum_same (size (m2 ∷ onto b2 below)) (size (m ∷ onto b below)) before (λ q h. other_size q (before_is_not_new c counted q h)) in
        let rest = sum_same (size (m2 ∷ onto b2 below)) (size (m ∷ onto b below)) after (λ q h. other_size q (after_is_not_new c counted q h)) in
        let same = sum_entry (size (m ∷ onto b below)) (size (m2 ∷ onto b2 below)) old new before after head rest in
        omega (arith, old_kids, new_kids, same, new_size))
    | inr t ↦
        (let kids = ap (sum_over (size (m2 ∷ onto b2 below))) (c.other_entries p t.1) in
        let same = sum_same (size (m2 ∷ onto b2 below)) (size (m ∷ onto b below)) (list_at k.children p) (λ q h. other_size q (named_is_not_new c counted p q h)) in
        omega (arith, kids, same))
  ]

  pub same_size : Counted k m → (above : List (Level X)) (p : ℕ) → size (above ++ k2 ∷ m2 ∷ onto b2 below) p ≡ size (above ++ k ∷ m ∷ onto b below) p
  same_size counted [] p = upper_size counted p
  same_size counted (l ∷ above) p =
      ap (λ (n : ℕ). 1 + n) (sum_same (size (above ++ k2 ∷ m2 ∷ onto b2 below)) (size (above ++ k ∷ m ∷ onto b below)) (list_at l.children p) (λ q h. same_size counted above q))

-- the two cases of a node
pub shared_whole : {X : Type 0} (l : Level X) (ls : List (Level X)) (p : ℕ) → 1 < l.count p → shared (l ∷ ls) p ≡ size (l ∷ ls) p
shared_whole l ls p h = rw (lt-ltb 1 (l.count p) h) refl

pub shared_parts : {X : Type 0} (l : Level X) (ls : List (Level X)) (p : ℕ) → l.count p ≤ 1 → shared (l ∷ ls) p ≡ sum_over (shared ls) (list_at l.children p)
shared_parts l ls p h = rw (le-ltb 1 (l.count p) h) (omega arith)

pub over_one : (n : ℕ) → (1 < n) ⊎ (n ≤ 1)
over_one zero = inr (omega arith)
over_one (suc zero) = inr (omega arith)
over_one (suc (suc n)) = inl (omega arith)

over_none : (n : ℕ) → (0 < n) ⊎ (n ≡ 0)
over_none zero = inr refl
over_none (suc n) = inl (omega arith)

-- the counts of the level below are right, where there is one
abbrev pub BelowCounted : {X : Type 0} → Level X → Option (Level X) → Type 0
BelowCounted m None = Unit {0}
BelowCounted m (Some b) = Counted m b

module _ {X : Type 0} (places : List ℕ) (old : ℕ) (below : List (Level X)) (m : Level X) (is : places ≡ list_at m.children old) where
  -- a child of the copied node that another node names too was shared before
  one_child_same : (b b2 : Level X) → Raised places b b2 → Counted m b → (p q : ℕ) → p ≢ old → 0 < times q (list_at m.children p) → shared (b2 ∷ below) q ≡ shared (b ∷ below) q
  one_child_same b b2 r counted p q d h = elim (over_none (times q places)) as (λ x. shared (b2 ∷ below) q ≡ shared (b ∷ below) q) [
    | inl t ↦
        (let both = both_name q m.children p old d in
        let was : 1 < b.count q = omega (arith, both, h, t, ap (times q) is, counted q) in
        let now : 1 < b2.count q = omega (arith, was, r.counts q) in
        shared_whole b2 below q now ∙ ap (λ (qs : List ℕ). 1 + sum_over (size below) qs) (r.children q) ∙ sym (shared_whole b below q was))
    | inr t ↦
        (let count : b2.count q ≡ b.count q = omega (arith, t, r.counts q) in
        elim (over_one (b.count q)) as (λ x. shared (b2 ∷ below) q ≡ shared (b ∷ below) q) [
          | inl u ↦ shared_whole b2 below q (omega (arith, u, count)) ∙ ap (λ (qs : List ℕ). 1 + sum_over (size below) qs) (r.children q) ∙ sym (shared_whole b below q u)
          | inr u ↦ shared_parts b2 below q (omega (arith, u, count)) ∙ ap (sum_over (shared below)) (r.children q) ∙ sym (shared_parts b below q u)
        ])
  ]

  child_same : (b b2 : Option (Level X)) → AreRaised places b b2 → BelowCounted m b → (p q : ℕ) → p ≢ old → 0 < times q (list_at m.children p)
      → shared (onto b2 below) q ≡ shared (onto b below) q
  child_same None None r counted p q d h = refl
  child_same None (Some l) r counted p q d h = absurd r
  child_same (Some l) None r counted p q d h = absurd r
  child_same (Some b) (Some b2) r counted p q d h = one_child_same b b2 r counted p q d h

  -- a child of the copied node is shared afterwards
  child_whole : (b b2 : Option (Level X)) → AreRaised places b b2 → BelowCounted m b → (q : ℕ) → 0 < times q (list_at m.children old)
      → shared (onto b2 below) q ≡ size (onto b below) q
  child_whole None None r counted q h = refl
  child_whole None (Some l) r counted q h = absurd r
  child_whole (Some l) None r counted q h = absurd r
  child_whole (Some b) (Some b2) r counted q h =
      shared_whole b2 below q (omega (arith, h, times_at q m.children old, ap (times q) is, counted q, r.counts q))
      ∙ ap (λ (qs : List ℕ). 1 + sum_over (size below) qs) (r.children q)

module _ {X : Type 0} {parent old new : ℕ} {before after : List ℕ} {k m k2 m2 : Level X} {b b2 : Option (Level X)} (c : Copies parent old new before after k m k2 m2 b b2) (below : List (Level X)) where
  pub other_shared : BelowCounted m b → (p : ℕ) → p ≢ old → p ≢ new → shared (m2 ∷ onto b2 below) p ≡ shared (m ∷ onto b below) p
  other_shared counted p d e = elim (over_one (m.count p)) as (λ x. shared (m2 ∷ onto b2 below) p ≡ shared (m ∷ onto b below) p) [
    | inl t ↦ shared_whole m2 (onto b2 below) p (omega (arith, t, c.other_counts p d e)) ∙ other_size c below p e ∙ sym (shared_whole m (onto b below) p t)
    | inr t ↦ shared_parts m2 (onto b2 below) p (omega (arith, t, c.other_counts p d e)) ∙ ap (sum_over (shared (onto b2 below))) (c.other_children p e)
        ∙ sum_same (shared (onto b2 below)) (shared (onto b below)) (list_at m.children p) (λ q h. child_same (list_at m.children old) old below m refl b b2 c.below counted p q d h) ∙ sym (shared_parts m (onto b below) p t)
  ]

  pub new_shared : BelowCounted m b → shared (m2 ∷ onto b2 below) new + 1 ≡ shared (m ∷ onto b below) old
  new_shared counted =
      let whole = shared_whole m (onto b below) old c.was_shared in
      let parts = shared_parts m2 (onto b2 below) new (omega (arith, c.copy_count)) in
      let kids = ap (sum_over (shared (onto b2 below))) c.copy in
      let same = sum_same (shared (onto b2 below)) (size (onto b below)) (list_at m.children old) (λ q h. child_whole (list_at m.children old) old below m refl b b2 c.below counted q h) in
      omega (arith, whole, parts, kids, same)

  pub not_more : BelowCounted m b → (p : ℕ) → p ≢ new → shared (m2 ∷ onto b2 below) p ≤ shared (m ∷ onto b below) p
  not_more counted p e = elim (eqb_tells p old) as (λ x. shared (m2 ∷ onto b2 below) p ≤ shared (m ∷ onto b below) p) [
    | inl t ↦
        (let whole : shared (m ∷ onto b below) p ≡ size (m ∷ onto b below) p = shared_whole m (onto b below) p (subst (λ (q : ℕ). 1 < m.count q) (sym t.1) c.was_shared) in
        omega (arith, whole, shared_all false (m2 ∷ onto b2 below) p, other_size c below p e))
    | inr t ↦ omega (arith, other_shared counted p t.1 e)
  ]

  upper_not_more : Counted k m → BelowCounted m b → (p : ℕ) → shared (k2 ∷ m2 ∷ onto b2 below) p ≤ shared (k ∷ m ∷ onto b below) p
  upper_not_more counted counted_below p = elim (over_one (k.count p)) as (λ x. shared (k2 ∷ m2 ∷ onto b2 below) p ≤ shared (k ∷ m ∷ onto b below) p) [
    | inl t ↦ omega (arith, shared_whole k2 (m2 ∷ onto b2 below) p (omega (arith, t, c.upper_counts p)), upper_size c below counted p, shared_whole k (m ∷ onto b below) p t)
    | inr t ↦
        (let is = shared_parts k2 (m2 ∷ onto b2 below) p (omega (arith, t, c.upper_counts p)) in
        let was = shared_parts k (m ∷ onto b below) p t in
        elim (eqb_tells p parent) as (λ x. shared (k2 ∷ m2 ∷ onto b2 below) p ≤ shared (k ∷ m ∷ onto b below) p) [
          | inl u ↦
              (let old_kids = ap (λ (r : ℕ). sum_over (shared (m ∷ onto b below)) (list_at k.children r)) u.1 ∙ ap (sum_over (shared (m ∷ onto b below))) c.was_entry in
              let new_kids = ap (λ (r : ℕ). sum_over (shared (m2 ∷ onto b2 below)) (list_at k2.children r)) u.1 ∙ ap (sum_over (shared (m2 ∷ onto b2 below))) c.entry in
              let head = sum_below (shared (m2 ∷ onto b2 below)) (shared (m ∷ onto b below)) before (λ q h. not_more counted_below q (before_is_not_new c counted q h)) in
              let rest = sum_below (shared (m2 ∷ onto b2 below)) (shared (m ∷ onto b below)) after (λ q h. not_more counted_below q (after_is_not_new c counted q h)) in
              omega (arith, is, was, old_kids, new_kids, head, rest, new_shared counted_below, sum_append (shared (m2 ∷ onto b2 below)) before (new ∷ after), sum_append (shared (m ∷ onto b below)) before (old ∷ after)))
          | inr u ↦
              (let kids = ap (sum_over (shared (m2 ∷ onto b2 below))) (c.other_entries p u.1) in
              let less = sum_below (shared (m2 ∷ onto b2 below)) (shared (m ∷ onto b below)) (list_at k.children p) (λ q h. not_more counted_below q (named_is_not_new c counted p q h)) in
              omega (arith, is, was, kids, less))
        ])
  ]

  -- of no tree, on however many levels, do the shared places grow
  pub never_more : Counted k m → BelowCounted m b → (above : List (Level X)) (p : ℕ) → shared (above ++ k2 ∷ m2 ∷ onto b2 below) p ≤ shared (above ++ k ∷ m ∷ onto b below) p
  never_more counted counted_below [] p = upper_not_more counted counted_below p
  never_more counted counted_below (l ∷ above) p = elim (over_one (l.count p)) as (λ x. shared (l ∷ (above ++ k2 ∷ m2 ∷ onto b2 below)) p ≤ shared (l ∷ (above ++ k ∷ m ∷ onto b below)) p) [
    | inl t ↦ omega (arith, shared_whole l (above ++ k2 ∷ m2 ∷ onto b2 below) p t, shared_whole l (above ++ k ∷ m ∷ onto b below) p t, same_size c below counted (l ∷ above) p)
    | inr t ↦ omega (
      arith,
      shared_parts l (above ++ k2 ∷ m2 ∷ onto b2 below) p t,
      shared_parts l (above ++ k ∷ m ∷ onto b below) p t,
      sum_below (shared (above ++ k2 ∷ m2 ∷ onto b2 below)) (shared (above ++ k ∷ m ∷ onto b below)) (list_at l.children p) (λ q h. never_more counted counted_below above q),
    )
  ]
