-- Indexes of keys.
use Rattle.std.specs.Prelude.{◌≡◌, ℕ, cond, List, Option, Some, is_some}
use Rattle.std.specs.BTreeMap.{BTreeMap, get_by}
use Rattle.std.specs.Cmp.Lexicographic.{slice_cmp}
use Rattle.std.specs.Ordering.{nat_cmp}
use Rattle.std.specs.Str.{bytes_eq}
use denote.Bor.{Bor}
use Rattle.pdata_value.specs.Pairs.{is_listed}
use Rattle.pdata_value.specs.Places.{position}

-- what an index has for a key
abbrev pub at_key : {W : Type 0} → BTreeMap (Bor (List ℕ)) W → List ℕ → Option W
at_key index key = get_by (λ k. slice_cmp nat_cmp key k.now) index

-- the index has the place of each key of a list of pairs, and no other key
abbrev pub Knows : {V : Type 0} → BTreeMap (Bor (List ℕ)) ℕ → List (List ℕ × V) → Type 0
Knows index ps = (key : List ℕ) → at_key index key ≡ position ps key

-- the index has the keys that are listed
abbrev pub Lists : {W : Type 0} → BTreeMap (Bor (List ℕ)) W → List (List ℕ) → Type 0
Lists index keys = (key : List ℕ) → is_some (at_key index key) ≡ is_listed keys key

-- one key is given something in an index, and the others stay
abbrev pub Gains : {W : Type 0} → BTreeMap (Bor (List ℕ)) W → List ℕ → W
    → BTreeMap (Bor (List ℕ)) W → Type 0
Gains old key w new = (q : List ℕ) → at_key new q ≡ cond (bytes_eq key q) (Some w) (at_key old q)
