-- A table of roots with one more behind all others.
use Rattle.std.proofs.Common.{◌≡◌, ◌≢◌, ℕ, zero, suc, List, [], ◌∷◌, ◌++◌, length, Option, Some, None, refl, ap}
use Rattle.std.specs.Prelude.{slice_index_or}

pub key_free : (roots : List (Option ℕ)) → slice_index_or roots (length roots) None ≡ None
key_free [] = refl
key_free (o ∷ roots) = key_free roots

pub key_named : (roots : List (Option ℕ)) (new : ℕ) → slice_index_or (roots ++ Some new ∷ []) (length roots) None ≡ Some new
key_named [] new = refl
key_named (o ∷ roots) new = key_named roots new

pub key_others : (roots : List (Option ℕ)) (new other : ℕ) → other ≢ length roots → slice_index_or (roots ++ Some new ∷ []) other None ≡ slice_index_or roots other None
key_others [] new zero d = absurd (d refl)
key_others [] new (suc other) d = refl
key_others (o ∷ roots) new zero d = refl
key_others (o ∷ roots) new (suc other) d = key_others roots new other (λ e. d (ap suc e))
