-- Nodes on levels: what they stand for, how often they are named, and which of them are shared.
use Rattle.std.specs.Prelude.{◌≡◌, ◌+◌, ◌==◌, ◌<◌, ◌≤◌, ◌||◌, ℕ, zero, suc, nat_lt, Bool, cond, List, [], ◌∷◌, length, map, take}

-- how often a place is named in a list
abbrev pub times : ℕ → List ℕ → ℕ
times p [] = 0
times p (q ∷ qs) = cond (q == p) 1 0 + times p qs

-- and in many lists
abbrev pub named : ℕ → List (List ℕ) → ℕ
named p [] = 0
named p (l ∷ ls) = times p l + named p ls

-- the list at a place, or the empty one
abbrev pub list_at : List (List ℕ) → ℕ → List ℕ
list_at [] i = []
list_at (l ∷ ls) zero = l
list_at (l ∷ ls) (suc i) = list_at ls i

-- the sum of what a function gives for the places of a list
abbrev pub sum_over : (ℕ → ℕ) → List ℕ → ℕ
sum_over f [] = 0
sum_over f (q ∷ qs) = f q + sum_over f qs

-- A level of nodes: the places that each names one level below, how often each counts, and what
-- each stands for, from what those below it stand for. A place without a node names nothing.
pub record Level (X : Type 0) : Type 0 where
  pub children : List (List ℕ)
  pub count : ℕ → ℕ
  pub build : ℕ → List X → X

module _ {X : Type 0} where
  -- what the node at a place of the first level stands for; `none` below the last level
  abbrev pub value : X → List (Level X) → ℕ → X
  value none [] p = none
  value none (l ∷ ls) p = l.build p (map (value none ls) (list_at l.children p))

  -- The number of shared places of its tree: a place is shared where its node, or one above it on
  -- the path, counts more than once.
  abbrev pub shared_places : Bool → List (Level X) → ℕ → ℕ
  shared_places above [] p = 0
  shared_places above (l ∷ ls) p =
      cond (above || nat_lt 1 (l.count p)) 1 0
      + sum_over (shared_places (above || nat_lt 1 (l.count p)) ls) (list_at l.children p)

  -- how often the place `q` of the level below the last of these stands in the tree of `p`
  abbrev pub stands : List (Level X) → ℕ → ℕ → ℕ
  stands [] q p = cond (p == q) 1 0
  stands (l ∷ ls) q p = sum_over (stands ls q) (list_at l.children p)

  -- each count of the lower level is how often the upper level names the place
  abbrev pub Counted : Level X → Level X → Type 0
  Counted upper lower = (p : ℕ) → lower.count p ≡ named p upper.children

  -- the counts of all levels below the first are right
  abbrev pub AllCounted : List (Level X) → Type 0
  AllCounted [] = Unit {0}
  AllCounted (upper ∷ []) = Unit {0}
  AllCounted (upper ∷ lower ∷ ls) = Counted upper lower × AllCounted (lower ∷ ls)

  -- no node stands at two places of the tree
  abbrev pub IsApart : List (Level X) → ℕ → Type 0
  IsApart ls p = (depth q : ℕ) → depth < length ls → stands (take depth ls) q p ≤ 1
