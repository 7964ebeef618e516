-- Lists of slots, and what they keep.
use Rattle.std.proofs.Common.{◌≡◌, ◌<◌, ◌≤◌, ℕ, zero, suc, List, [], ◌∷◌, ◌++◌, length, get_or, set, map, Option, None, refl, ap, sym, ◌∙◌, arith}
use Rattle.std.specs.Prelude.{option_and_then, option_map, slice_get}
use Rattle.std.proofs.lemmas.List.{length-map}
use Rattle.shelf.specs.declared.slot.Slot.{Slot}
use Rattle.shelf.specs.declared.slot.Slot.TheVariants.{Full, Free}
use Rattle.shelf.specs.Places.{PutIn, put_at, count_of}
use Rattle.shelf.specs.Slots.{kept_of, slot_with}

module _ {T : Type 0} where
  -- what a list of slots keeps at a place
  abbrev pub kept_in : List (Slot T) → ℕ → Option (T × ℕ)
  kept_in ss place = option_and_then (λ slot. slot) (slice_get (map kept_of ss) place)

  pub kept_got : (ss : List (Slot T)) (i : ℕ) (s : Slot T) → i < length ss → s ≡ get_or ss i s → kept_in ss i ≡ kept_of s
  kept_got [] i s h e = absurd (omega arith)
  kept_got (x ∷ ss) zero s h e = cc
  kept_got (x ∷ ss) (suc i) s h e = kept_got ss i s (omega arith) e

  pub kept_within : (ss : List (Slot T)) (i : ℕ) → 0 < count_of (kept_in ss i) → i < length ss
  kept_within [] i h = absurd (omega arith)
  kept_within (x ∷ ss) zero h = omega arith
  kept_within (x ∷ ss) (suc i) h = omega (arith, kept_within ss i h)

  pub kept_past : (ss : List (Slot T)) (i : ℕ) → length ss ≤ i → kept_in ss i ≡ None
  kept_past [] i h = refl
  kept_past (x ∷ ss) zero h = absurd (omega arith)
  kept_past (x ∷ ss) (suc i) h = kept_past ss i (omega arith)

  pub kept_set : (ss : List (Slot T)) (i : ℕ) (s : Slot T) → i < length ss → map kept_of (set ss i s) ≡ put_at (map kept_of ss) i (kept_of s)
  kept_set [] i s h = absurd (omega arith)
  kept_set (x ∷ ss) zero s h = refl
  kept_set (x ∷ ss) (suc i) s h = ap (λ (ks : List (Option (T × ℕ))). kept_of x ∷ ks) (kept_set ss i s (omega arith))

  pub kept_push : (ss : List (Slot T)) (s : Slot T) → map kept_of (ss ++ s ∷ []) ≡ put_at (map kept_of ss) (length ss) (kept_of s)
  kept_push [] s = refl
  kept_push (x ∷ ss) s = ap (λ (ks : List (Option (T × ℕ))). kept_of x ∷ ks) (kept_push ss s)

  -- a slot that changed, among the others
  pub set_slot : (ss : List (Slot T)) (i : ℕ) (old new : Slot T) (change : Option (T × ℕ) → Option (T × ℕ)) → 0 < count_of (kept_in ss i)
      → old ≡ get_or ss i old → kept_of new ≡ change (kept_of old) → map kept_of (set ss i new) ≡ put_at (map kept_of ss) i (change (kept_in ss i))
  set_slot ss i old new change live got is =
      let there = kept_within ss i live in
      kept_set ss i new there ∙ ap (put_at (map kept_of ss) i) (is ∙ ap change (sym (kept_got ss i old there got)))

  -- what is kept at a place is what its slot keeps
  pub kept_here : (ss : List (Slot T)) (i : ℕ) (s : Slot T) → 0 < count_of (kept_in ss i) → s ≡ get_or ss i s → kept_in ss i ≡ kept_of s
  kept_here ss i s live got = kept_got ss i s (kept_within ss i live) got

  -- a free slot is filled
  pub put_in_free : (ss : List (Slot T)) (i next : ℕ) (s : Slot T) (item : T) → i < length ss → s ≡ get_or ss i s → s ≡ Free next
      → PutIn (map kept_of ss) (map kept_of (set ss i (Full item 1))) i item
  put_in_free ss i next s item there got free = record {
    was_free = kept_got ss i s there got ∙ ap kept_of free;
    within = omega (arith, there, length-map ss kept_of);
    put = kept_set ss i (Full item 1) there;
  }

  -- a slot comes behind the others
  pub put_behind : (ss : List (Slot T)) (item : T) → PutIn (map kept_of ss) (map kept_of (ss ++ Full item 1 ∷ [])) (length ss) item
  put_behind ss item = record {
    was_free = kept_past ss (length ss) (omega arith);
    within = omega (arith, length-map ss kept_of);
    put = kept_push ss (Full item 1);
  }

  -- a slot with another item keeps its count
  pub kept_with : (s : Slot T) (item : T) → kept_of (slot_with s item) ≡ option_map (λ kept. (item, kept.1)) (kept_of s)
  kept_with (Full old count) item = refl
  kept_with (Free next) item = refl
