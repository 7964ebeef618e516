-- Lists of pairs as maps.
use Rattle.std.proofs.Common.{◌≡◌, ◌∙◌, ℕ, suc, ◌+◌, ◌<◌, Bool, true, false, List, [], ◌∷◌, ◌++◌, length, take, drop, get_or, refl, ap, arith, cond}
use Rattle.std.specs.Prelude.{◌||◌, Option, Some, None}
use Rattle.std.specs.Str.{bytes_eq}
use Rattle.std.proofs.lemmas.Grind.{common_steps}
use Rattle.pdata_value.specs.Pairs.{get, has_key}
use Rattle.pdata_value.proofs.Bools.{picks, bytes_self}

module _ {V : Type 0} where
  past_on : (t : Bool) (v : V) (xs : List (List ℕ × V)) (key : List ℕ) (found : Option V) (rest : Option V)
      → (has_key xs key ≡ false → rest ≡ found) → (t || has_key xs key) ≡ false → cond t (Some v) rest ≡ found
  past_on true v xs key found rest f h = absurd cc
  past_on false v xs key found rest f h = f h

  -- pairs with other keys are passed over
  pub get-past : (xs ys : List (List ℕ × V)) (key : List ℕ) → has_key xs key ≡ false → get (xs ++ ys) key ≡ get ys key
  get-past [] ys key h = refl
  get-past (x ∷ xs) ys key h = past_on (bytes_eq x.0 key) x.1 xs key (get ys key) (get (xs ++ ys) key) (get-past xs ys key) h

  missing_on : (t : Bool) (v : V) (xs : List (List ℕ × V)) (key : List ℕ) (rest : Option V)
      → (has_key xs key ≡ false → rest ≡ None) → (t || has_key xs key) ≡ false → cond t (Some v) rest ≡ None
  missing_on true v xs key rest f h = absurd cc
  missing_on false v xs key rest f h = f h

  pub get-missing : (xs : List (List ℕ × V)) (key : List ℕ) → has_key xs key ≡ false → get xs key ≡ None
  get-missing [] key h = refl
  get-missing (x ∷ xs) key h = missing_on (bytes_eq x.0 key) x.1 xs key (get xs key) (get-missing xs key) h

  there_on : (t : Bool) (v : V) (xs : List (List ℕ × V)) (key : List ℕ) (rest : Option V)
      → (has_key xs key ≡ true → (w : V) × (rest ≡ Some w)) → (t || has_key xs key) ≡ true → (w : V) × (cond t (Some v) rest ≡ Some w)
  there_on true v xs key rest f h = (v, refl)
  there_on false v xs key rest f h = f h

  pub get-there : (xs : List (List ℕ × V)) (key : List ℕ) → has_key xs key ≡ true → (w : V) × (get xs key ≡ Some w)
  get-there [] key h = absurd cc
  get-there (x ∷ xs) key h = there_on (bytes_eq x.0 key) x.1 xs key (get xs key) (get-there xs key) h

module _ {V : Type 0} (ps : List (List ℕ × V)) (i : ℕ) (p : List ℕ × V) (within : i < length ps) (is : p ≡ get_or ps i p) where
  pub split_at : ps ≡ take i ps ++ (p ∷ drop (suc i) ps)
  split_at = grind (arith, common_steps)

  pub take-one : take (i + 1) ps ≡ take i ps ++ p ∷ []
  take-one = grind (arith, common_steps)

  pub get-first : has_key (take i ps) p.0 ≡ false → get ps p.0 ≡ Some p.1
  get-first h =
      ap (λ (xs : List (List ℕ × V)). get xs p.0) split_at
      ∙ get-past (take i ps) (p ∷ drop (suc i) ps) p.0 h
      ∙ picks (bytes_eq p.0 p.0) (Some p.1) (get (drop (suc i) ps) p.0) (bytes_self p.0)
