-- A forest whose roots are all given up.
use Rattle.std.specs.Prelude.{◌≡◌, ℕ, None}
use Rattle.shelf.specs.Places.{slot_at}
use Rattle.share_cow.specs.Store.{Store}

-- no place of any level holds a node
pub record HoldsNothing (s : Store) : Type 0 where
  pub batches : (p : ℕ) → slot_at s.batches p ≡ None
  pub resources : (p : ℕ) → slot_at s.resources p ≡ None
  pub scopes : (p : ℕ) → slot_at s.scopes p ≡ None
  pub logs : (p : ℕ) → slot_at s.logs p ≡ None
