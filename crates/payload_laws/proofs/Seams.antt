-- Bytes of ASCII cut UTF-8 into UTF-8.
use Rattle.std.proofs.Common.{◌≡◌, ℕ, ◌+◌, ◌<◌, List, [], ◌∷◌, ◌++◌, length, get_or, refl, subst, arith, length-append}
use Rattle.std.specs.Str.{IsUtf8}
use Rattle.std.proofs.Math.Seq.{take-append_seam, drop-append_seam, drop-append-add}
use Rattle.std.proofs.lemmas.List.{append-nil}
use Rattle.std.proofs.lemmas.Str.{IsUtf8-take, IsUtf8-drop, IsCharBoundary-before_ascii, IsCharBoundary-after_ascii}

-- each byte is below 128
abbrev pub AllLow : List ℕ → Type 0
AllLow [] = Unit {0}
AllLow (b ∷ bs) = (b < 128) × AllLow bs

at_seam : (xs : List ℕ) (b : ℕ) (ys : List ℕ) → get_or (xs ++ b ∷ ys) (length xs) 0 ≡ b
at_seam [] b ys = refl
at_seam (x ∷ xs) b ys = at_seam xs b ys

module _ (xs : List ℕ) (b : ℕ) (ys : List ℕ) (low : b < 128) (utf8 : IsUtf8 (xs ++ b ∷ ys)) where
  within : length xs < length (xs ++ b ∷ ys)
  within = omega (arith, length-append xs (b ∷ ys))

  low_at : get_or (xs ++ b ∷ ys) (length xs) 0 < 128
  low_at = omega (arith, at_seam xs b ys)

  -- what stands before such a byte
  pub before_byte : IsUtf8 xs
  before_byte =
      subst IsUtf8 (take-append_seam xs (b ∷ ys)) (IsUtf8-take (xs ++ b ∷ ys) (length xs) utf8 (IsCharBoundary-before_ascii (xs ++ b ∷ ys) (length xs) within low_at))

  -- the byte and what stands behind it
  pub from_byte : IsUtf8 (b ∷ ys)
  from_byte =
      subst IsUtf8 (drop-append_seam xs (b ∷ ys)) (IsUtf8-drop (xs ++ b ∷ ys) (length xs) utf8 (IsCharBoundary-before_ascii (xs ++ b ∷ ys) (length xs) within low_at))

  -- what stands behind it
  pub after_byte : IsUtf8 ys
  after_byte =
      subst IsUtf8 (drop-append-add xs (b ∷ ys) 1) (IsUtf8-drop (xs ++ b ∷ ys) (length xs + 1) utf8 (IsCharBoundary-after_ascii (xs ++ b ∷ ys) (length xs) utf8 within low_at))

-- what stands behind bytes of ASCII
pub after_low : (xs ys : List ℕ) → AllLow xs → IsUtf8 (xs ++ ys) → IsUtf8 ys
after_low [] ys low utf8 = utf8
after_low (x ∷ xs) ys low utf8 = after_low xs ys low.1 (after_byte [] x (xs ++ ys) low.0 utf8)

-- what stands before bytes of ASCII
pub before_low : (xs ys : List ℕ) → AllLow ys → IsUtf8 (xs ++ ys) → IsUtf8 xs
before_low xs [] low utf8 = subst IsUtf8 (append-nil xs) utf8
before_low xs (y ∷ ys) low utf8 = before_byte xs y ys low.0 utf8
