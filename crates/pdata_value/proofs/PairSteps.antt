-- Steps of loops over pairs.
use Rattle.std.proofs.Common.{◌≡◌, ◌∙◌, ℕ, zero, suc, ◌<◌, true, List, [], ◌∷◌, ◌++◌, length, take, drop, get_or, refl, sym, drop-cons, Some}
use Rattle.std.specs.Prelude.{slice_set, slice_get}
use Rattle.std.specs.Str.{bytes_eq}
use Rattle.std.proofs.lemmas.List.{set_split}
use Rattle.pdata_value.specs.Pairs.{get, put}

got : {X : Type 0} (xs : List X) (i : ℕ) (d x : X) → slice_get xs i ≡ Some x → get_or xs i d ≡ x
got [] i d x h = absurd cc
got (y ∷ xs) zero d x h = cc
got (y ∷ xs) (suc i) d x h = got xs i d x h

module _ {V : Type 0} (ps : List (List ℕ × V)) (key : List ℕ) (i : ℕ) (d : List ℕ × V) (within : i < length ps) where
  pub put-here : (value : V) → bytes_eq (get_or ps i d).0 key ≡ true → put ps key value ≡ take i ps ++ put (drop i ps) key value
      → (pair : List ℕ × V) → slice_get ps i ≡ Some pair → put ps key value ≡ slice_set ps i (pair.0, value)
  put-here value is_key so_far pair is =
      let same : get_or ps i d ≡ pair = got ps i d pair is in
      so_far ∙ rw (drop-cons ps i d within, is_key) (rw same (sym (set_split ps i (pair.0, value) within)))

  pub get-here : bytes_eq (get_or ps i d).0 key ≡ true → get ps key ≡ get (drop i ps) key
      → (pair : List ℕ × V) → slice_get ps i ≡ Some pair → get ps key ≡ Some pair.1
  get-here is_key so_far pair is =
      let same : get_or ps i d ≡ pair = got ps i d pair is in
      so_far ∙ rw (drop-cons ps i d within, is_key) (rw same refl)
