-- What is put in a place twice.
use Rattle.std.proofs.Common.{◌≡◌, ◌∙◌, ℕ, zero, suc, Bool, true, false, List, [], ◌∷◌, refl, ap, cond}
use Rattle.std.specs.Prelude.{slice_set}
use Rattle.std.specs.Str.{bytes_eq}
use Rattle.pdata_value.specs.Pairs.{put}
use Rattle.pdata_value.proofs.Bools.{picks, skips, bytes_self}

module _ {V : Type 0} where
  again_on : (t : Bool) (p : List ℕ × V) (ps : List (List ℕ × V)) (key : List ℕ) (v w : V) → bytes_eq p.0 key ≡ t
      → put (put ps key v) key w ≡ put ps key w
      → put (cond t ((p.0, v) ∷ ps) (p ∷ put ps key v)) key w ≡ cond t ((p.0, w) ∷ ps) (p ∷ put ps key w)
  again_on true p ps key v w e h = picks (bytes_eq p.0 key) ((p.0, w) ∷ ps) ((p.0, v) ∷ put ps key w) e
  again_on false p ps key v w e h =
      skips (bytes_eq p.0 key) ((p.0, w) ∷ put ps key v) (p ∷ put (put ps key v) key w) e ∙ ap (λ (xs : List (List ℕ × V)). p ∷ xs) h

  -- what is put last under a key stands there
  pub put_again : (ps : List (List ℕ × V)) (key : List ℕ) (v w : V) → put (put ps key v) key w ≡ put ps key w
  put_again [] key v w = picks (bytes_eq key key) ((key, w) ∷ []) ((key, v) ∷ (key, w) ∷ []) (bytes_self key)
  put_again (p ∷ ps) key v w = again_on (bytes_eq p.0 key) p ps key v w refl (put_again ps key v w)

-- what is set last in a place stands there
pub set_again : {X : Type 0} (xs : List X) (i : ℕ) (v w : X) → slice_set (slice_set xs i v) i w ≡ slice_set xs i w
set_again [] i v w = refl
set_again (x ∷ xs) zero v w = refl
set_again {X} (x ∷ xs) (suc i) v w = ap (λ (ys : List X). x ∷ ys) (set_again xs i v w)
