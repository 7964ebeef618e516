-- Where things stand that have a code: buckets of places, of which the code chooses one.
use Rattle.std.specs.Prelude.{◌≡◌, ◌⊎◌, ℕ, ◌%◌, Bool, false, cond, Option, Some, None}
use Rattle.std.specs.Prelude.{List, [], ◌∷◌, ◌++◌, map, length, slice_get, slice_set}

-- a place is one of these
abbrev pub IsAmong : List ℕ → ℕ → Type 0
IsAmong [] x = ⊥
IsAmong (y ∷ ys) x = (y ≡ x) ⊎ IsAmong ys x

-- a list, or none
abbrev pub or_none : Option (List ℕ) → List ℕ
or_none None = []
or_none (Some xs) = xs

-- the places in the bucket of a code
abbrev pub candidates : List (List ℕ) → ℕ → List ℕ
candidates buckets code = or_none (slice_get buckets (code % length buckets))

-- buckets with one place more
abbrev pub with_place : List (List ℕ) → ℕ → ℕ → List (List ℕ)
with_place buckets code place =
    slice_set buckets (code % length buckets) (candidates buckets code ++ place ∷ [])

-- each place is in the bucket of its code
abbrev pub IsIndexed : List ℕ → List (List ℕ) → Type 0
IsIndexed codes buckets =
    (at code : ℕ) → slice_get codes at ≡ Some code → IsAmong (candidates buckets code) at

module _ {K X : Type 0} (same : K → K → Bool) where
  -- whether a group's key is the same as this one
  abbrev pub is_under : K → Option (K × List X) → Bool
  is_under key None = false
  is_under key (Some g) = same g.0 key

  -- the first of these places at which there is a group of the key
  abbrev pub found : List (K × List X) → K → List ℕ → Option ℕ
  found groups key [] = None
  found groups key (at ∷ rest) =
      cond (is_under key (slice_get groups at)) (Some at) (found groups key rest)

-- the codes of groups
abbrev pub codes_of : {K X : Type 0} → (K → ℕ) → List (K × List X) → List ℕ
codes_of code groups = map (λ g. code g.0) groups
