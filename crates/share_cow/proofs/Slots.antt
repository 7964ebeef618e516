-- What stands at the places of a shelf, and what a change at one place does.
use Rattle.std.proofs.Common.{◌≡◌, ◌≢◌, ◌+◌, ◌<◌, ◌≤◌, ℕ, zero, suc, List, [], ◌∷◌, length, map, Option, Some, None, refl, ap, sym, ◌∙◌, subst, arith, inl, inr}
use Rattle.std.specs.Prelude.{option_and_then, option_map, slice_get}
use Rattle.std.proofs.lemmas.Bool.Decides.{eqb_tells}
use Rattle.shelf.specs.Places.{Places, count_at, count_of, item_at, put_at, raised, slot_at, with_slot}
use Rattle.share_cow.specs.Levels.{list_at}
use Rattle.share_cow.specs.Store.{children_of}
use Rattle.share_cow.specs.declared.node.Node.{Node}

module _ {A : Type 0} where
  -- what a list of slots has at a place
  abbrev pub slot_in : List (Option A) → ℕ → Option A
  slot_in slots p = option_and_then (λ slot. slot) (slice_get slots p)

  pub put_same : (slots : List (Option A)) (i : ℕ) (slot : Option A) → i ≤ length slots → slot_in (put_at slots i slot) i ≡ slot
  put_same [] zero slot h = refl
  put_same [] (suc i) slot h = absurd (omega arith)
  put_same (s ∷ slots) zero slot h = refl
  put_same (s ∷ slots) (suc i) slot h = put_same slots i slot (omega arith)

  pub put_other : (slots : List (Option A)) (i j : ℕ) (slot : Option A) → i ≤ length slots → j ≢ i → slot_in (put_at slots i slot) j ≡ slot_in slots j
  put_other [] zero zero slot h d = absurd (d refl)
  put_other [] zero (suc j) slot h d = refl
  put_other [] (suc i) j slot h d = absurd (omega arith)
  put_other (s ∷ slots) zero zero slot h d = absurd (d refl)
  put_other (s ∷ slots) zero (suc j) slot h d = refl
  put_other (s ∷ slots) (suc i) zero slot h d = refl
  put_other (s ∷ slots) (suc i) (suc j) slot h d = put_other slots i j slot (omega arith) (λ e. d (ap suc e))

  pub length_put : (slots : List (Option A)) (i : ℕ) (slot : Option A) → i < length slots → length (put_at slots i slot) ≡ length slots
  length_put [] i slot h = absurd (omega arith)
  length_put (s ∷ slots) zero slot h = refl
  length_put (s ∷ slots) (suc i) slot h = ap suc (length_put slots i slot (omega arith))

module _ {T : Type 0} where
  pub live_within : (slots : List (Option (T × ℕ))) (p : ℕ) → 0 < count_of (slot_in slots p) → p < length slots
  live_within [] p h = absurd (omega arith)
  live_within (s ∷ slots) zero h = omega arith
  live_within (s ∷ slots) (suc p) h = omega (arith, live_within slots p h)

  raised_item : (slot : Option (T × ℕ)) → option_map (λ kept. kept.0) (raised slot) ≡ option_map (λ kept. kept.0) slot
  raised_item None = refl
  raised_item (Some kept) = refl

  raised_count : (slot : Option (T × ℕ)) → 0 < count_of slot → count_of (raised slot) ≡ count_of slot + 1
  raised_count None h = absurd (omega arith)
  raised_count (Some kept) h = refl

  -- the shelf with the count at a place raised
  abbrev pub raised_at : Places T → ℕ → Places T
  raised_at s i = with_slot s i (raised (slot_at s i))

  module _ (s : Places T) (i : ℕ) (live : 0 < count_at s i) where
    raise_within : i < length s.slots
    raise_within = live_within s.slots i live

    pub raise_slot : slot_at (raised_at s i) i ≡ raised (slot_at s i)
    raise_slot = put_same s.slots i (raised (slot_at s i)) (omega (arith, raise_within))

    pub raise_slot_other : (j : ℕ) → j ≢ i → slot_at (raised_at s i) j ≡ slot_at s j
    raise_slot_other j d = put_other s.slots i j (raised (slot_at s i)) (omega (arith, raise_within)) d

    pub raise_item : (j : ℕ) → item_at (raised_at s i) j ≡ item_at s j
    raise_item j = elim (eqb_tells j i) as (λ x. item_at (raised_at s i) j ≡ item_at s j) [
      | inl t ↦ subst (λ (k : ℕ). item_at (raised_at s i) k ≡ item_at s k) (sym t.1)
          (ap (option_map (λ kept. kept.0)) raise_slot ∙ raised_item (slot_at s i))
      | inr t ↦ ap (option_map (λ kept. kept.0)) (raise_slot_other j t.1)
    ]

    pub raise_count : count_at (raised_at s i) i ≡ count_at s i + 1
    raise_count = ap count_of raise_slot ∙ raised_count (slot_at s i) live

    pub raise_count_other : (j : ℕ) → j ≢ i → count_at (raised_at s i) j ≡ count_at s j
    raise_count_other j d = ap count_of (raise_slot_other j d)

module _ {D : Type 0} where
  -- the places that a node names, where there is one
  abbrev pub names : Option (Node D) → List ℕ
  names None = []
  names (Some node) = node.children

  names_of_slot : (slot : Option (Node D × ℕ)) → children_of slot ≡ names (option_map (λ kept. kept.0) slot)
  names_of_slot None = refl
  names_of_slot (Some kept) = refl

  list_of_slot : (slots : List (Option (Node D × ℕ))) (p : ℕ) → list_at (map children_of slots) p ≡ children_of (slot_in slots p)
  list_of_slot [] p = refl
  list_of_slot (s ∷ slots) zero = refl
  list_of_slot (s ∷ slots) (suc p) = list_of_slot slots p

  -- the list of a level is what the node names
  pub names_at : (s : Places (Node D)) (p : ℕ) → list_at (map children_of s.slots) p ≡ names (item_at s p)
  names_at s p = list_of_slot s.slots p ∙ names_of_slot (slot_at s p)

  -- where the items are the same, so is what they name
  pub names_same : (s t : Places (Node D)) (p : ℕ) → item_at t p ≡ item_at s p → list_at (map children_of t.slots) p ≡ list_at (map children_of s.slots) p
  names_same s t p same = names_at t p ∙ ap names same ∙ sym (names_at s p)
