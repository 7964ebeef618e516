-- A copied node keeps every count right.
use Rattle.std.proofs.Common.{◌≡◌, ◌≢◌, ◌+◌, ◌<◌, ℕ, List, [], ◌∷◌, ◌++◌, Option, Some, None, ap, sym, ◌∙◌, subst, arith, inl, inr}
use Rattle.std.proofs.lemmas.Bool.Decides.{eqb_tells}
use Rattle.share_cow.specs.Copies.{AreRaised, Copies, Raised, onto}
use Rattle.share_cow.specs.Levels.{AllCounted, Counted, Level, list_at, named, times}
use Rattle.share_cow.proofs.Lists.{named_but, named_same, times_append, times_at, times_head, times_other}

-- one entry of a list becomes another
pub times_entry : (p old new : ℕ) (before after : List ℕ) →
    times p (before ++ new ∷ after) + times p (old ∷ []) ≡ times p (before ++ old ∷ after) + times p (new ∷ [])
times_entry p old new before after = omega (arith, times_append p before (new ∷ after), times_append p before (old ∷ after))

module _ {X : Type 0} {parent old new : ℕ} {before after : List ℕ} {k m k2 m2 : Level X} {b b2 : Option (Level X)} (c : Copies parent old new before after k m k2 m2 b b2) where
  pub old_is_not_new : old ≢ new
  old_is_not_new e = absurd (omega (arith, c.was_shared, c.was_free, ap m.count e))

  counted_at : (p : ℕ) → m.count p ≡ named p k.children → m2.count p + times p (old ∷ []) ≡ m.count p + times p (new ∷ []) → m2.count p ≡ named p k2.children
  counted_at p was now =
      let there = named_but p k.children k2.children parent c.other_entries in
      let list = ap (times p) c.was_entry in
      let step = times_entry p old new before after in
      let lists = ap (times p) c.entry in
      omega (arith, was, now, there, list, step, lists)

  moved : (p : ℕ) → m2.count p + times p (old ∷ []) ≡ m.count p + times p (new ∷ [])
  moved p = elim (eqb_tells p old) as (λ x. m2.count p + times p (old ∷ []) ≡ m.count p + times p (new ∷ [])) [
    | inl t ↦ subst (λ (q : ℕ). m2.count q + times q (old ∷ []) ≡ m.count q + times q (new ∷ [])) (sym t.1)
        (omega (arith, times_head old [], times_other old new [] (λ e. old_is_not_new (sym e)), c.old_count))
    | inr t ↦ elim (eqb_tells p new) as (λ x. m2.count p + times p (old ∷ []) ≡ m.count p + times p (new ∷ [])) [
      | inl u ↦ subst (λ (q : ℕ). m2.count q + times q (old ∷ []) ≡ m.count q + times q (new ∷ [])) (sym u.1)
          (omega (arith, times_head new [], times_other new old [] old_is_not_new, c.copy_count, c.was_free))
      | inr u ↦ omega (arith, c.other_counts p t.1 u.1, times_other p old [] (λ e. t.1 (sym e)), times_other p new [] (λ e. u.1 (sym e)))
    ]
  ]

  pub entry_counted : Counted k m → Counted k2 m2
  entry_counted counted p = counted_at p (counted p) (moved p)

  copy_counted : (b b2 : Level X) → Raised (list_at m.children old) b b2 → Counted m b → Counted m2 b2
  copy_counted b b2 raised counted p =
      let there = named_but p m.children m2.children new c.other_children in
      let none = ap (times p) c.names_nothing in
      omega (arith, there, none, ap (times p) c.copy, counted p, raised.counts p)

  above_counted : (j : Level X) → Counted j k → Counted j k2
  above_counted j counted p = c.upper_counts p ∙ counted p

  below_counted : (b b2 : Level X) → Raised (list_at m.children old) b b2 → (below : List (Level X)) → AllCounted (b ∷ below) → AllCounted (b2 ∷ below)
  below_counted b b2 raised [] all = tt
  below_counted b b2 raised (d ∷ below) all = (λ p. all.0 p ∙ sym (named_same p b.children b2.children raised.children), all.1)

  from_copy : (b b2 : Option (Level X)) → AreRaised (list_at m.children old) b b2 → (below : List (Level X)) → AllCounted (m ∷ onto b below) → AllCounted (m2 ∷ onto b2 below)
  from_copy None None raised below all = tt
  from_copy None (Some l) raised below all = absurd raised
  from_copy (Some l) None raised below all = absurd raised
  from_copy (Some b) (Some b2) raised below all = (copy_counted b b2 raised all.0, below_counted b b2 raised below all.1)

  -- the step keeps all counts right, on however many levels
  pub all_counted : (above below : List (Level X)) → AllCounted (above ++ k ∷ m ∷ onto b below) → AllCounted (above ++ k2 ∷ m2 ∷ onto b2 below)
  all_counted [] below all = (entry_counted all.0, from_copy b b2 c.below below all.1)
  all_counted (j ∷ []) below all = (above_counted j all.0, all_counted [] below all.1)
  all_counted (i ∷ j ∷ above) below all = (all.0, all_counted (j ∷ above) below all.1)

  -- nothing names the place of the new node before
  pub new_unnamed : Counted k m → (p : ℕ) → times new (list_at k.children p) ≡ 0
  new_unnamed counted p = omega (arith, counted new, c.was_free, times_at new k.children p)

  pub named_is_not_new : Counted k m → (p q : ℕ) → 0 < times q (list_at k.children p) → q ≢ new
  named_is_not_new counted p q h e = absurd (omega (arith, h, new_unnamed counted p, ap (λ (r : ℕ). times r (list_at k.children p)) e))

  pub before_is_not_new : Counted k m → (q : ℕ) → 0 < times q before → q ≢ new
  before_is_not_new counted q h =
      named_is_not_new counted parent q (omega (arith, h, ap (times q) c.was_entry, times_append q before (old ∷ after)))

  pub after_is_not_new : Counted k m → (q : ℕ) → 0 < times q after → q ≢ new
  after_is_not_new counted q h =
      named_is_not_new counted parent q (omega (arith, h, ap (times q) c.was_entry, times_append q before (old ∷ after)))
