-- A root's tree is handed on to takers.
use Rattle.std.specs.Prelude.{◌≡◌, ◌≢◌, ◌≤◌, ◌+◌, ◌⊎◌, ℕ, List, [], ◌∷◌, Contains, None, length, ⊤}
use Rattle.share_cow.specs.Kept.{SameTree}
use Rattle.share_cow.specs.Store.{IsLiveRoot, Store, den, made, root_at, shared, spare}

-- no root stands twice in the list
abbrev pub AreApart : List ℕ → Type 0
AreApart [] = ⊤
AreApart (root ∷ roots) = (Contains roots root → ⊥) × AreApart roots

-- a live root that stands for the tree that another stood for, and is that one or is new
pub record Takes (root : ℕ) (old new : Store) (taker : ℕ) : Type 0 where
  pub tree : den new taker ≡ den old root
  pub live : IsLiveRoot new taker
  pub fresh : (taker ≡ root) ⊎ (root_at old taker ≡ None)

-- a root is as it was, and shares no more than before
pub record Stays (old new : Store) (root : ℕ) : Type 0 where
  pub tree : SameTree old new root
  pub shared : shared new root ≤ shared old root

-- As many roots as there are takers: all apart, each for the root's tree. The root itself is one of
-- them or goes, all others stay, and no node is made.
pub record HandsOn (root takers : ℕ) (old new : Store) (roots : List ℕ) : Type 0 where
  pub count : length roots ≡ takers
  pub each : (taker : ℕ) → Contains roots taker → Takes root old new taker
  pub apart : AreApart roots
  pub gone : (Contains roots root → ⊥) → root_at new root ≡ None
  pub others : (other : ℕ) → (Contains roots other → ⊥) → other ≢ root → Stays old new other
  pub spare : spare new + takers ≡ spare old + 1
  pub made : made new ≡ made old
