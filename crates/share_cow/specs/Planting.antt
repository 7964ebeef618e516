-- What comes to a forest's nodes where a plain tree is planted.
use Rattle.std.specs.Prelude.{◌≡◌, ◌+◌, ◌-◌, ◌^◌, ◌<◌, ◌≤◌, ◌⊎◌, ℕ, min, List, [], ◌∷◌, length, map}
use Rattle.pdata_tree.specs.declared.resource.ResourceTree.{ResourceTree}
use Rattle.shelf.specs.Places.{Places}
use Rattle.share_cow.specs.Levels.{Level, AllCounted, times, value}
use Rattle.share_cow.specs.Lowering.{AllAgree}
use Rattle.share_cow.specs.Store.{IsKept, Part, nothing}
use Rattle.share_cow.specs.declared.node.Node.{Node}

-- each count is as it was, or it is that of a new node
abbrev pub AllMore : List (Level Part) → List (Level Part) → Type 0
AllMore [] [] = Unit {0}
AllMore [] (m ∷ ms) = ⊥
AllMore (l ∷ ls) [] = ⊥
AllMore (l ∷ ls) (m ∷ ms) =
    ((p : ℕ) → (m.count p ≡ l.count p) ⊎ ((l.count p ≡ 0) × (m.count p ≡ 1))) × AllMore ls ms

-- New nodes came to the places of the first level, which count once and stand for the parts. What
-- counted before is as it was, and the counts below are right.
pub record Grows (places : List ℕ) (parts : List Part) (l m : Level Part)
    (ls ms : List (Level Part)) : Type 0 where
  pub counts : (p : ℕ) → m.count p ≡ l.count p + times p places
  pub fresh : (p : ℕ) → 0 < times p places → m.count p ≡ 1
  pub more : AllMore ls ms
  pub agree : AllAgree (l ∷ ls) (l ∷ ls) (m ∷ ms)
  pub counted : AllCounted (m ∷ ms)
  pub values : map (value nothing (m ∷ ms)) places ≡ parts

-- the shelf still keeps what it must, and so many nodes were added
pub record Keeps {D : Type 0} (count : ℕ) (old new : Places (Node D)) : Type 0 where
  pub kept : IsKept new
  pub added : new.added ≡ min (old.added + count) (2 ^ 128 - 1)

-- no count of these levels changed
abbrev pub AllSame : List (Level Part) → List (Level Part) → Type 0
AllSame [] [] = Unit {0}
AllSame [] (m ∷ ms) = ⊥
AllSame (l ∷ ls) [] = ⊥
AllSame (l ∷ ls) (m ∷ ms) = ((p : ℕ) → m.count p ≡ l.count p) × AllSame ls ms

-- the nodes are those from before
pub record Restores (ls ms : List (Level Part)) : Type 0 where
  pub counts : AllSame ls ms
  pub agree : AllAgree ls ls ms
  pub counted : AllCounted ms

-- the shelf still keeps what it must; nodes may have been added that went again
pub record Spent {D : Type 0} (old new : Places (Node D)) : Type 0 where
  pub kept : IsKept new
  pub added : old.added ≤ new.added

-- the scopes of resources
abbrev pub scopes_of_resources : List ResourceTree → ℕ
scopes_of_resources [] = 0
scopes_of_resources (r ∷ rs) = length r.scopes + scopes_of_resources rs
