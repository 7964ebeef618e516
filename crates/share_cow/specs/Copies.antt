-- A shared node is made anew for one of those who name it.
use Rattle.std.specs.Prelude.{◌≡◌, ◌≢◌, ◌+◌, ◌<◌, ◌≤◌, ◌==◌, ◌++◌, ◌∷◌, [], ℕ, nat_lt, cond, false, true, List, Option, Some, None, length, slice_index_or}
use Rattle.share_cow.specs.Levels.{AllCounted, IsApart, Level, list_at, shared_places, sum_over, times, value}

module _ {X : Type 0} where
  -- the levels from one on down, where there is one
  abbrev pub onto : Option (Level X) → List (Level X) → List (Level X)
  onto None below = []
  onto (Some level) below = level ∷ below

  -- each count rose by how often the list names the place
  pub record Raised (places : List ℕ) (l m : Level X) : Type 0 where
    pub counts : (p : ℕ) → m.count p ≡ l.count p + times p places
    pub children : (p : ℕ) → list_at m.children p ≡ list_at l.children p
    pub builds : (p : ℕ) → m.build p ≡ l.build p

  -- so on the level below, where there is one
  abbrev pub AreRaised : List ℕ → Option (Level X) → Option (Level X) → Type 0
  AreRaised places None None = Unit {0}
  AreRaised places None (Some m) = ⊥
  AreRaised places (Some l) None = ⊥
  AreRaised places (Some l) (Some m) = Raised places l m

  -- The parent's entry, between `before` and `after`, named the node at `old` and names the new
  -- node at `new` afterwards. The new node has the count 1, names what the old one names and
  -- stands for the same; the old one's count falls by 1, and each node below is named as often
  -- more as the copied list names it. Nothing else changes.
  pub record Copies (parent old new : ℕ) (before after : List ℕ) (k m k2 m2 : Level X)
      (b b2 : Option (Level X)) : Type 0 where
    pub was_shared : 1 < m.count old
    pub was_free : m.count new ≡ 0
    pub names_nothing : list_at m.children new ≡ []
    pub was_entry : list_at k.children parent ≡ before ++ old ∷ after
    pub entry : list_at k2.children parent ≡ before ++ new ∷ after
    pub other_entries : (p : ℕ) → p ≢ parent → list_at k2.children p ≡ list_at k.children p
    pub upper_counts : (p : ℕ) → k2.count p ≡ k.count p
    pub upper_builds : (p : ℕ) → k2.build p ≡ k.build p
    pub copy : list_at m2.children new ≡ list_at m.children old
    pub other_children : (p : ℕ) → p ≢ new → list_at m2.children p ≡ list_at m.children p
    pub copy_count : m2.count new ≡ 1
    pub old_count : m2.count old + 1 ≡ m.count old
    pub other_counts : (p : ℕ) → p ≢ old → p ≢ new → m2.count p ≡ m.count p
    pub copy_builds : m2.build new ≡ m.build old
    pub other_builds : (p : ℕ) → p ≢ new → m2.build p ≡ m.build p
    pub below : AreRaised (list_at m.children old) b b2

  -- how often the place `q` of the level below the last of these stands in the tree of `p` under
  -- nodes that count no more than once
  abbrev pub stands_open : List (Level X) → ℕ → ℕ → ℕ
  stands_open [] q p = cond (p == q) 1 0
  stands_open (l ∷ ls) q p =
      cond (nat_lt 1 (l.count p)) 0 (sum_over (stands_open ls q) (list_at l.children p))

  -- the indices lead from `p` to the place `q` of the level below the last of these, under nodes
  -- that count no more than once
  abbrev pub OpenPath : List (Level X) → ℕ → List ℕ → ℕ → Type 0
  OpenPath [] p [] q = p ≡ q
  OpenPath [] p (i ∷ is) q = ⊥
  OpenPath (l ∷ ls) p [] q = ⊥
  OpenPath (l ∷ ls) p (i ∷ is) q =
      (l.count p ≤ 1) × (i < length (list_at l.children p))
      × OpenPath ls (slice_index_or (list_at l.children p) i 0) is q

  -- the indices lead to a node
  abbrev pub InTree : List (Level X) → ℕ → List ℕ → Type 0
  InTree [] p is = ⊥
  InTree (l ∷ ls) p [] = Unit {0}
  InTree (l ∷ ls) p (i ∷ is) =
      (i < length (list_at l.children p)) × InTree ls (slice_index_or (list_at l.children p) i 0) is

  -- how many nodes of the path, both ends included, stand at or below the first whose count is
  -- above 1
  abbrev pub owed : List (Level X) → ℕ → List ℕ → ℕ
  owed [] p is = 0
  owed (l ∷ ls) p [] = cond (nat_lt 1 (l.count p)) 1 0
  owed (l ∷ ls) p (i ∷ is) =
      cond (nat_lt 1 (l.count p)) (2 + length is)
      (owed ls (slice_index_or (list_at l.children p) i 0) is)

  -- the place at the end of a path
  abbrev pub end_of : List (Level X) → ℕ → List ℕ → ℕ
  end_of [] p is = p
  end_of (l ∷ ls) p [] = p
  end_of (l ∷ ls) p (i ∷ is) = end_of ls (slice_index_or (list_at l.children p) i 0) is

  -- Every count is right, every node of the first level stands for what it stood for, and none has
  -- more shared places; those of the root, and what its path owes, fell by the number of nodes that
  -- were made.
  pub record Went (none : X) (ls ms : List (Level X)) (root : ℕ) (path : List ℕ) (made : ℕ)
      : Type 0 where
    pub counted : AllCounted ms
    pub apart : (r : ℕ) → IsApart ls r → IsApart ms r
    pub same : (r : ℕ) → value none ms r ≡ value none ls r
    pub never_more : (r : ℕ) → shared_places false ms r ≤ shared_places false ls r
    pub less : shared_places false ms root + made ≡ shared_places false ls root
    pub pays : owed ms root path + made ≡ owed ls root path
    pub size : (r : ℕ) → shared_places true ms r ≡ shared_places true ls r

  -- A path is the root's own and ends at a place: no node on it counts more than once. So many
  -- places less of the root are shared as the path owed, and a longer path owes so much less.
  pub record Owns (ls ms : List (Level X)) (root : ℕ) (path : List ℕ) (place : ℕ) : Type 0 where
    pub ends : end_of ms root path ≡ place
    pub own : owed ms root path ≡ 0
    pub left : shared_places false ms root + owed ls root path ≡ shared_places false ls root
    pub longer : (rest : List ℕ) → InTree ls root (path ++ rest) → InTree ms root (path ++ rest)
        × (owed ms root (path ++ rest) + owed ls root path ≡ owed ls root (path ++ rest))
