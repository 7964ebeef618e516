-- Roots that a call gives, and roots that it gives up.
use Rattle.std.specs.Prelude.{◌≡◌, ◌≢◌, ◌≤◌, ◌+◌, ◌⊎◌, ℕ, List, Contains, None, length}
use Rattle.fanout.specs.Handing.{AreApart}
use Rattle.share_cow.specs.Kept.{SameTree}
use Rattle.share_cow.specs.Store.{IsLiveRoot, Store, made, root_at, shared, spare}

-- all roots of a list are live
abbrev pub AreLive : Store → List ℕ → Type 0
AreLive s roots = (root : ℕ) → Contains roots root → IsLiveRoot s root

-- A call on a root gave these roots: they are all different, were not live before and are live now.
-- No other root became live. Each that was live stays as it was, the lent one too, and none but the
-- lent one shares more than before.
pub record Gave (lent : ℕ) (old new : Store) (roots : List ℕ) : Type 0 where
  pub live : AreLive new roots
  pub fresh : (root : ℕ) → Contains roots root → root_at old root ≡ None
  pub apart : AreApart roots
  pub no_other : (root : ℕ) → IsLiveRoot new root → IsLiveRoot old root ⊎ Contains roots root
  pub trees : (root : ℕ) → IsLiveRoot old root → SameTree old new root
  pub shared : (root : ℕ) → IsLiveRoot old root → root ≢ lent → shared new root ≤ shared old root
  pub spare : spare new + length roots ≡ spare old
  pub grew : made old ≤ made new

-- These roots were given up: none is live any more. All others stay as they were and share no more
-- than before, and no node was made.
pub record GivesUp (roots : List ℕ) (old new : Store) : Type 0 where
  pub gone : (root : ℕ) → Contains roots root → root_at new root ≡ None
  pub trees : (root : ℕ) → (Contains roots root → ⊥) → SameTree old new root
  pub shared : (root : ℕ) → (Contains roots root → ⊥) → shared new root ≤ shared old root
  pub spare : spare new ≡ spare old + length roots
  pub made : made new ≡ made old
