-- What calls keep of a forest.
use Rattle.std.specs.Prelude.{◌≡◌, ◌≢◌, ◌≤◌, ◌↔◌, ◌+◌, ◌-◌, ◌^◌, ℕ, min}
use Rattle.share_cow.specs.Store.{Store, IsLiveRoot, den, made, places_of, shared, spare}

-- a root is as live as it was, and stands for what it stood for
pub record SameTree (old new : Store) (root : ℕ) : Type 0 where
  pub tree : den new root ≡ den old root
  pub live : IsLiveRoot new root ↔ IsLiveRoot old root

-- all roots but one stay as they are, and share no more than before
pub record OthersStay (root : ℕ) (old new : Store) : Type 0 where
  pub trees : (other : ℕ) → other ≢ root → SameTree old new other
  pub shared : (other : ℕ) → other ≢ root → shared new other ≤ shared old other

-- all roots but the new one stay as they are; none but the one that it was made of shares more
-- than before
pub record SharesWith (root fresh : ℕ) (old new : Store) : Type 0 where
  pub trees : (other : ℕ) → other ≢ fresh → SameTree old new other
  pub shared : (other : ℕ) → other ≢ fresh → other ≢ root → shared new other ≤ shared old other

-- all roots stay as they are and share no more than before; nodes may have been made that went
-- again
pub record AllStay (old new : Store) : Type 0 where
  pub trees : (root : ℕ) → SameTree old new root
  pub shared : (root : ℕ) → shared new root ≤ shared old root
  pub spare : spare new ≡ spare old
  pub made : made old ≤ made new

-- What writes through a root keep: all other roots stay as they are and share no more than before.
-- The root stays live and its tree keeps its number of places; so many nodes were made as fewer of
-- these places are shared.
pub record KeepsOthers (root : ℕ) (old new : Store) : Type 0 where
  pub others : OthersStay root old new
  pub live : IsLiveRoot new root ↔ IsLiveRoot old root
  pub places : places_of new root ≡ places_of old root
  pub fewer : shared new root ≤ shared old root
  pub rose : made new ≡ min (made old + (shared old root - shared new root)) (2 ^ 128 - 1)
  pub entries : spare new ≡ spare old
