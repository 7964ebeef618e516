-- A count that falls, and the node that goes with its last count.
use Rattle.std.proofs.Common.{◌≡◌, ◌≢◌, ◌+◌, ◌-◌, ◌<◌, ◌≤◌, ◌^◌, ℕ, zero, suc, List, [], ◌∷◌, length, map, Option, Some, None, refl, ap, sym, ◌∙◌, subst, arith, inl, inr, ◌⊎◌}
use Rattle.std.specs.Prelude.{option_map}
use Rattle.std.proofs.lemmas.Bool.{lt-ltb, le-ltb}
use Rattle.std.proofs.lemmas.Bool.Decides.{eqb_tells}
use Rattle.shelf.specs.Places.{Places, count_at, count_of, given_up, item_at, lowered, slot_at, with_slot}
use Rattle.share_cow.specs.Levels.{list_at, times}
use Rattle.share_cow.specs.Lowering.{Agree, Thins}
use Rattle.share_cow.specs.Store.{IsKept, Part, built, children_of, level_of}
use Rattle.share_cow.specs.declared.node.Node.{Node}
use Rattle.share_cow.proofs.Lists.{times_head, times_other}
use Rattle.share_cow.proofs.Slots.{length_put, live_within, names, names_at, names_same, put_other, put_same}

pub over_one : (n : ℕ) → (1 < n) ⊎ (n ≤ 1)
over_one zero = inr (omega arith)
over_one (suc zero) = inr (omega arith)
over_one (suc (suc n)) = inl (omega arith)

module _ {T : Type 0} where
  many_slot : (slot : Option (T × ℕ)) → 1 < count_of slot → lowered slot ≡ option_map (λ kept. (kept.0, kept.1 - 1)) slot
  many_slot None h = absurd (omega arith)
  many_slot (Some kept) h = rw (lt-ltb 1 kept.1 h) refl

  few_slot : (slot : Option (T × ℕ)) → count_of slot ≤ 1 → lowered slot ≡ None
  few_slot None h = refl
  few_slot (Some kept) h = rw (le-ltb 1 kept.1 h) refl

  item_kept : (slot : Option (T × ℕ)) → option_map (λ (kept : T × ℕ). kept.0) (option_map (λ (kept : T × ℕ). (kept.0, kept.1 - 1)) slot) ≡ option_map (λ (kept : T × ℕ). kept.0) slot
  item_kept None = refl
  item_kept (Some kept) = refl

  count_less : (slot : Option (T × ℕ)) → count_of (option_map (λ kept. (kept.0, kept.1 - 1)) slot) ≡ count_of slot - 1
  count_less None = refl
  count_less (Some kept) = refl

  pub many_item : (slot : Option (T × ℕ)) → 1 < count_of slot → option_map (λ kept. kept.0) (lowered slot) ≡ option_map (λ kept. kept.0) slot
  many_item slot h = ap (option_map (λ kept. kept.0)) (many_slot slot h) ∙ item_kept slot

  pub many_count : (slot : Option (T × ℕ)) → 1 < count_of slot → count_of (lowered slot) + 1 ≡ count_of slot
  many_count slot h = omega (arith, h, ap count_of (many_slot slot h), count_less slot)

  pub given_many : (slot : Option (T × ℕ)) → 1 < count_of slot → given_up slot ≡ None
  given_many None h = refl
  given_many (Some kept) h = rw (lt-ltb 1 kept.1 h) refl

  pub given_last : (slot : Option (T × ℕ)) → count_of slot ≤ 1 → given_up slot ≡ option_map (λ kept. kept.0) slot
  given_last None h = refl
  given_last (Some kept) h = rw (le-ltb 1 kept.1 h) refl

  -- the shelf with the count at a place lowered
  abbrev pub lowered_at : Places T → ℕ → Places T
  lowered_at s i = with_slot s i (lowered (slot_at s i))

  module _ (s : Places T) (i : ℕ) (live : 0 < count_at s i) where
    within : i < length s.slots
    within = live_within s.slots i live

    pub lower_slot : slot_at (lowered_at s i) i ≡ lowered (slot_at s i)
    lower_slot = put_same s.slots i (lowered (slot_at s i)) (omega (arith, within))

    pub lower_other : (j : ℕ) → j ≢ i → slot_at (lowered_at s i) j ≡ slot_at s j
    lower_other j d = put_other s.slots i j (lowered (slot_at s i)) (omega (arith, within)) d

    pub lower_count : count_at (lowered_at s i) i + 1 ≡ count_at s i
    lower_count = elim (over_one (count_at s i)) as (λ x. count_at (lowered_at s i) i + 1 ≡ count_at s i) [
      | inl t ↦ omega (arith, live, t, ap count_of (lower_slot ∙ many_slot (slot_at s i) t), count_less (slot_at s i))
      | inr t ↦ omega (arith, live, t, ap count_of (lower_slot ∙ few_slot (slot_at s i) t))
    ]

    pub lower_count_other : (j : ℕ) → j ≢ i → count_at (lowered_at s i) j ≡ count_at s j
    lower_count_other j d = ap count_of (lower_other j d)

    pub lower_counts : (j : ℕ) → count_at (lowered_at s i) j + times j (i ∷ []) ≡ count_at s j
    lower_counts j = elim (eqb_tells j i) as (λ x. count_at (lowered_at s i) j + times j (i ∷ []) ≡ count_at s j) [
      | inl t ↦ subst (λ (k : ℕ). count_at (lowered_at s i) k + times k (i ∷ []) ≡ count_at s k) (sym t.1) (omega (arith, lower_count, times_head i []))
      | inr t ↦ omega (arith, lower_count_other j t.1, times_other j i [] (λ e. t.1 (sym e)))
    ]

    -- what still counts is as it was
    pub lower_item : (j : ℕ) → 0 < count_at (lowered_at s i) j → item_at (lowered_at s i) j ≡ item_at s j
    lower_item j h = elim (eqb_tells j i) as (λ x. item_at (lowered_at s i) j ≡ item_at s j) [
      | inl t ↦
          (let many : 1 < count_at s i = omega (arith, h, lower_count, ap (count_at (lowered_at s i)) t.1) in
          subst (λ (k : ℕ). item_at (lowered_at s i) k ≡ item_at s k) (sym t.1)
          (ap (option_map (λ kept. kept.0)) (lower_slot ∙ many_slot (slot_at s i) many) ∙ item_kept (slot_at s i)))
      | inr t ↦ ap (option_map (λ kept. kept.0)) (lower_other j t.1)
    ]

    -- with its last count the item is gone
    pub lower_last : count_at s i ≤ 1 → slot_at (lowered_at s i) i ≡ None
    lower_last h = lower_slot ∙ few_slot (slot_at s i) h

    pub lower_many : 1 < count_at s i → (j : ℕ) → item_at (lowered_at s i) j ≡ item_at s j
    lower_many h j = elim (eqb_tells j i) as (λ x. item_at (lowered_at s i) j ≡ item_at s j) [
      | inl t ↦ subst (λ (k : ℕ). item_at (lowered_at s i) k ≡ item_at s k) (sym t.1) (lower_item i (omega (arith, h, lower_count)))
      | inr t ↦ ap (option_map (λ kept. kept.0)) (lower_other j t.1)
    ]

module _ {D : Type 0} (make : D → List Part → Part) (s : Places (Node D)) (i : ℕ) (live : 0 < count_at s i) where
  -- on its level
  pub lower_agrees : Agree (level_of make (lowered_at s i)) (level_of make s) (level_of make (lowered_at s i))
  lower_agrees = record {
    children = λ p h. names_same s (lowered_at s i) p (lower_item s i live p h);
    builds = λ p h. ap (built make) (lower_item s i live p h);
    counted = λ p h. names_same s (lowered_at s i) p (lower_item s i live p h);
  }

module _ {D : Type 0} (s : Places (Node D)) (i : ℕ) (live : 0 < count_at s i) where
  lower_tidy : IsKept s → (p : ℕ) → count_at (lowered_at s i) p ≡ 0 → slot_at (lowered_at s i) p ≡ None
  lower_tidy kept p none = elim (eqb_tells p i) as (λ x. slot_at (lowered_at s i) p ≡ None) [
    | inl t ↦ subst (λ (k : ℕ). slot_at (lowered_at s i) k ≡ None) (sym t.1)
        (lower_last s i live (omega (arith, none, ap (count_at (lowered_at s i)) t.1, lower_count s i live)))
    | inr t ↦ lower_other s i live p t.1 ∙ kept.tidy p (sym (lower_count_other s i live p t.1) ∙ none)
  ]

  -- what a place names, if it still does
  pub lower_names : (p : ℕ) → (list_at (map children_of (lowered_at s i).slots) p ≡ list_at (map children_of s.slots) p) ⊎ (list_at (map children_of (lowered_at s i).slots) p ≡ [])
  lower_names p = elim (eqb_tells p i) as (λ x. (list_at (map children_of (lowered_at s i).slots) p ≡ list_at (map children_of s.slots) p) ⊎ (list_at (map children_of (lowered_at s i).slots) p ≡ [])) [
    | inl t ↦ elim (over_one (count_at s i)) as (λ x. (list_at (map children_of (lowered_at s i).slots) p ≡ list_at (map children_of s.slots) p) ⊎ (list_at (map children_of (lowered_at s i).slots) p ≡ [])) [
      | inl u ↦ inl (names_same s (lowered_at s i) p (lower_many s i live u p))
      | inr u ↦ inr (names_at (lowered_at s i) p ∙ ap (λ (k : ℕ). names (item_at (lowered_at s i) k)) t.1 ∙ ap (λ (slot : Option (Node D × ℕ)). names (option_map (λ kept. kept.0) slot)) (lower_last s i live u))
    ]
    | inr t ↦ inl (names_same s (lowered_at s i) p (ap (option_map (λ kept. kept.0)) (lower_other s i live p t.1)))
  ]

  lower_short : IsKept s → (p : ℕ) → length (list_at (map children_of (lowered_at s i).slots) p) < 2 ^ 64
  lower_short kept p = elim (lower_names p) as (λ x. length (list_at (map children_of (lowered_at s i).slots) p) < 2 ^ 64) [
    | inl t ↦ omega (arith, kept.small.short p, ap length t)
    | inr t ↦ omega (arith, ap length t)
  ]

  pub lower_thins : IsKept s → Thins s (lowered_at s i)
  lower_thins kept = record {
    kept = record {
      tidy = lower_tidy kept;
      small = record {
        few = omega (arith, kept.small.few, length_put s.slots i (lowered (slot_at s i)) (live_within s.slots i live));
        short = lower_short kept;
      };
      most = kept.most;
    };
    added = refl;
  }
