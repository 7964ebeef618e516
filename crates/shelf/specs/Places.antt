-- What a shelf holds.
use Rattle.std.specs.Prelude.{◌≡◌, ◌+◌, ◌-◌, ◌^◌, ◌<◌, ◌≤◌, ℕ, zero, suc, min, nat_lt, cond, refl, List, [], ◌∷◌, length, Option, Some, None, option_map, option_and_then, slice_get}
use Rattle.std.specs.Coded.{Coded, code_by, coded×, coded_ℕ, coded_list, coded_option}

-- the item and its count at each place, None where a place is free; and how many items were added
pub record Places (T : Type 0) : Type 0 where
  pub slots : List (Option (T × ℕ))
  pub added : ℕ

-- a shelf is stored as the pair of its fields
abbrev pub places_code : {T : Type 0} → Coded T → Coded (Places T)
places_code {T} code =
    code_by (List (Option (T × ℕ)) × ℕ)
    (coded× (coded_list (coded_option (coded× code coded_ℕ))) coded_ℕ)
    (λ p. (p.slots, p.added))
    (λ pair. record { slots = pair.0; added = pair.1 })
    (λ _. refl)

-- a list with an item at an index, or behind its last
abbrev pub put_at : {X : Type 0} → List X → ℕ → X → List X
put_at [] index x = x ∷ []
put_at (y ∷ ys) zero x = x ∷ ys
put_at (y ∷ ys) (suc index) x = y ∷ put_at ys index x

module _ {T : Type 0} where
  -- the count that a slot has; a free one has none
  abbrev pub count_of : Option (T × ℕ) → ℕ
  count_of None = 0
  count_of (Some kept) = kept.1

  -- what stands at a place; past the last place nothing does
  abbrev pub slot_at : Places T → ℕ → Option (T × ℕ)
  slot_at p place = option_and_then (λ slot. slot) (slice_get p.slots place)

  -- the item at a place, if there is one
  abbrev pub item_at : Places T → ℕ → Option T
  item_at p place = option_map (λ kept. kept.0) (slot_at p place)

  -- the count at a place, 0 where it is free
  abbrev pub count_at : Places T → ℕ → ℕ
  count_at p place = count_of (slot_at p place)

  -- a place is live where its count is above 0
  abbrev pub IsLive : Places T → ℕ → Type 0
  IsLive p place = 0 < count_at p place

  -- the same shelf with something else at a place
  abbrev pub with_slot : Places T → ℕ → Option (T × ℕ) → Places T
  with_slot p place slot = record p { slots = put_at p.slots place slot }

  -- the item at a place is another one, with the same count
  abbrev pub with_item : Places T → ℕ → T → Places T
  with_item p place item = with_slot p place (option_map (λ kept. (item, kept.1)) (slot_at p place))

  -- among slots, an item came with the count 1 to a place that held nothing, or behind all others
  pub record PutIn (old new : List (Option (T × ℕ))) (place : ℕ) (item : T) : Type 0 where
    pub was_free : option_and_then (λ slot. slot) (slice_get old place) ≡ None
    pub within : place ≤ length old
    pub put : new ≡ put_at old place (Some (item, 1))

  -- a shelf with an item more, which is counted among those that were added
  pub record Adds (old new : Places T) (place : ℕ) (item : T) : Type 0 where
    pub slots : PutIn old.slots new.slots place item
    pub added : new.added ≡ min (old.added + 1) (2 ^ 128 - 1)

  -- a slot with its count raised by 1
  abbrev pub raised : Option (T × ℕ) → Option (T × ℕ)
  raised None = None
  raised (Some kept) = Some (kept.0, kept.1 + 1)

  -- a slot with its count lowered by 1; with the last count the item goes
  abbrev pub lowered : Option (T × ℕ) → Option (T × ℕ)
  lowered None = None
  lowered (Some kept) = cond (nat_lt 1 kept.1) (Some (kept.0, kept.1 - 1)) None

  -- the item that goes with the last count
  abbrev pub given_up : Option (T × ℕ) → Option T
  given_up None = None
  given_up (Some kept) = cond (nat_lt 1 kept.1) None (Some kept.0)
