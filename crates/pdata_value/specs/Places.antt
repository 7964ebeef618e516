-- Where a pair stands, and whether all keys of one map are keys of another.
use Rattle.std.specs.Prelude.{◌≡◌, ◌++◌, ◌<◌, length, slice_set, slice_get, MatchOption, ℕ, suc, cond, Bool, true, ◌&&◌, List, [], ◌∷◌, Option, Some, None, option_map}
use Rattle.std.specs.Str.{bytes_eq}
use Rattle.pdata_value.specs.Pairs.{get, has_key, put}

-- the pair at this place is the first with the key, and `put` changes its value
abbrev pub IsFirst : {V : Type 0} → List (List ℕ × V) → List ℕ → ℕ → List ℕ × V → Type 0
IsFirst {V} ps key i pair =
    (get ps key ≡ Some pair.1) × ((value : V) → put ps key value ≡ slice_set ps i (pair.0, value))

-- no pair has the key, and `put` adds one
abbrev pub IsNew : {V : Type 0} → List (List ℕ × V) → List ℕ → Type 0
IsNew {V} ps key = (get ps key ≡ None) × ((value : V) → put ps key value ≡ ps ++ (key, value) ∷ [])

-- where the first pair with the key stands, if there is one
abbrev pub PutsAt : {V : Type 0} → List (List ℕ × V) → List ℕ → Option ℕ → Type 0
PutsAt {V} ps key at =
    MatchOption at (IsNew ps key)
    (λ i. (i < length ps)
    × ((pair : List ℕ × V) → slice_get ps i ≡ Some pair → IsFirst ps key i pair))

-- where the first pair with the key stands
abbrev pub position : {V : Type 0} → List (List ℕ × V) → List ℕ → Option ℕ
position [] key = None
position (p ∷ ps) key = cond (bytes_eq p.0 key) (Some 0) (option_map (λ i. suc i) (position ps key))

-- where each of these pairs is put, one after another; None: at the end
abbrev pub places_of : {V : Type 0} → List (List ℕ × V) → List (List ℕ × V) → List (Option ℕ)
places_of ps [] = []
places_of ps (q ∷ qs) = position ps q.0 ∷ places_of (put ps q.0 q.1) qs

-- these are the places of the first of the pairs, as many as there are
abbrev pub IsPlan : {V : Type 0} → List (Option ℕ) → List (List ℕ × V) → List (List ℕ × V) → Type 0
IsPlan places ps qs = (rest : List (Option ℕ)) × (places ++ rest ≡ places_of ps qs)

-- each key of the first map is a key of the second
abbrev pub keys_within : {V W : Type 0} → List (List ℕ × V) → List (List ℕ × W) → Bool
keys_within [] qs = true
keys_within (p ∷ ps) qs = has_key qs p.0 && keys_within ps qs
