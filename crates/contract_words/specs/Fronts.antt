-- Fronts of a list of bytes.
use Rattle.std.specs.Prelude.{◌≡◌, ◌<◌, ◌≤◌, ℕ, ◌++◌, List, length, take}

-- the bytes begin with the front
pub record IsFront (front bytes : List ℕ) : Type 0 where
  pub rest : List ℕ
  pub whole : bytes ≡ front ++ rest

-- some front of the bytes was put behind what was held
pub record GrewByFront (bytes old new : List ℕ) : Type 0 where
  pub front : List ℕ
  pub of_bytes : IsFront front bytes
  pub grew : new ≡ old ++ front

-- the longest front of the text that passes has this length
pub record IsLongest (Passes : List ℕ → Type 0) (text : List ℕ) (count : ℕ) : Type 0 where
  pub within : count ≤ length text
  pub begun : Passes (take count text)
  pub no_longer : (more : ℕ) → count < more → more ≤ length text → Passes (take more text) → ⊥
