-- A list of pairs as a map: the first pair with a key counts.
use Rattle.std.specs.Prelude.{ℕ, Bool, true, false, ◌&&◌, ◌||◌, List, [], ◌∷◌, Option, Some, None, cond, not, filter}
use Rattle.std.specs.Str.{bytes_eq}
use Rattle.pdata_value.specs.declared.merge.Strategy.{Strategy}
use Rattle.pdata_value.specs.declared.merge.Strategy.TheVariants.{Insert, Update, Upsert}

-- whether some pair has the key
abbrev pub has_key : {V : Type 0} → List (List ℕ × V) → List ℕ → Bool
has_key [] key = false
has_key (p ∷ ps) key = bytes_eq p.0 key || has_key ps key

-- the value of the first pair with the key
abbrev pub get : {V : Type 0} → List (List ℕ × V) → List ℕ → Option V
get [] key = None
get (p ∷ ps) key = cond (bytes_eq p.0 key) (Some p.1) (get ps key)

-- the first pair with the key has this value; where there is none, a pair stands at the end
abbrev pub put : {V : Type 0} → List (List ℕ × V) → List ℕ → V → List (List ℕ × V)
put [] key value = (key, value) ∷ []
put (p ∷ ps) key value = cond (bytes_eq p.0 key) ((p.0, value) ∷ ps) (p ∷ put ps key value)

-- the pairs with other keys
abbrev pub without : {V : Type 0} → List (List ℕ × V) → List ℕ → List (List ℕ × V)
without ps key = filter (λ p. not (bytes_eq p.0 key)) ps

-- whether the key is listed
abbrev pub is_listed : List (List ℕ) → List ℕ → Bool
is_listed [] key = false
is_listed (k ∷ ks) key = bytes_eq k key || is_listed ks key

-- the pairs with a listed key
abbrev pub kept : {V : Type 0} → List (List ℕ × V) → List (List ℕ) → List (List ℕ × V)
kept ps keys = filter (λ p. is_listed keys p.0) ps

-- pairs that are put one after another
abbrev pub put_all : {V : Type 0} → List (List ℕ × V) → List (List ℕ × V) → List (List ℕ × V)
put_all ps [] = ps
put_all ps (q ∷ qs) = put_all (put ps q.0 q.1) qs

-- whether a strategy takes a key, which the map had at the start or not
abbrev pub takes : Strategy → Bool → Bool
takes Insert had = not had
takes Update had = had
takes Upsert had = true

-- the pairs that the strategy takes
abbrev pub taken : {V : Type 0} → Strategy → List (List ℕ × V) → List (List ℕ × V)
    → List (List ℕ × V)
taken strategy ps qs = filter (λ q. takes strategy (has_key ps q.0)) qs

-- the pairs that the strategy takes are put one after another
abbrev pub merged : {V : Type 0} → Strategy → List (List ℕ × V) → List (List ℕ × V)
    → List (List ℕ × V)
merged strategy ps qs = put_all ps (taken strategy ps qs)

-- the first of two answers that is one
abbrev pub first_of : {V : Type 0} → Option V → Option V → Option V
first_of None other = other
first_of (Some v) other = Some v

-- the value of the last pair with the key
abbrev pub get_last : {V : Type 0} → List (List ℕ × V) → List ℕ → Option V
get_last [] key = None
get_last (p ∷ ps) key = first_of (get_last ps key) (cond (bytes_eq p.0 key) (Some p.1) None)

-- no key stands twice
abbrev pub is_distinct : {V : Type 0} → List (List ℕ × V) → Bool
is_distinct [] = true
is_distinct (p ∷ ps) = not (has_key ps p.0) && is_distinct ps
