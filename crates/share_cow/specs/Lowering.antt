-- What is left of a forest's nodes where some are named no longer.
use Rattle.std.specs.Prelude.{◌≡◌, ◌+◌, ◌<◌, ◌≤◌, ℕ, List, [], ◌∷◌}
use Rattle.shelf.specs.Places.{Places}
use Rattle.share_cow.specs.Levels.{Level, AllCounted, list_at, times}
use Rattle.share_cow.specs.Store.{IsKept}
use Rattle.share_cow.specs.declared.node.Node.{Node}

module _ {X : Type 0} where
  -- where `w` counts a place, both levels have the same node there
  pub record Agree (w l m : Level X) : Type 0 where
    pub children : (p : ℕ) → 0 < w.count p → list_at m.children p ≡ list_at l.children p
    pub builds : (p : ℕ) → 0 < w.count p → m.build p ≡ l.build p
    pub counted : (p : ℕ) → 0 < w.count p → list_at w.children p ≡ list_at l.children p

  -- so on all levels
  abbrev pub AllAgree : List (Level X) → List (Level X) → List (Level X) → Type 0
  AllAgree [] [] [] = Unit {0}
  AllAgree [] [] (m ∷ ms) = ⊥
  AllAgree [] (l ∷ ls) ms = ⊥
  AllAgree (w ∷ ws) [] ms = ⊥
  AllAgree (w ∷ ws) (l ∷ ls) [] = ⊥
  AllAgree (w ∷ ws) (l ∷ ls) (m ∷ ms) = Agree w l m × AllAgree ws ls ms

  -- on no level a count rose
  abbrev pub AllFewer : List (Level X) → List (Level X) → Type 0
  AllFewer [] [] = Unit {0}
  AllFewer [] (m ∷ ms) = ⊥
  AllFewer (l ∷ ls) [] = ⊥
  AllFewer (l ∷ ls) (m ∷ ms) = ((p : ℕ) → m.count p ≤ l.count p) × AllFewer ls ms

  -- the places are counted at least as often as they are listed
  abbrev pub Holds : List ℕ → Level X → Type 0
  Holds places l = (p : ℕ) → times p places ≤ l.count p

  -- The listed places of the first level count less, each as often as it is listed. What still
  -- counts is as it was, and the counts below are right again.
  pub record Lowers (places : List ℕ) (l m : Level X) (ls ms : List (Level X)) : Type 0 where
    pub counts : (p : ℕ) → m.count p + times p places ≡ l.count p
    pub fewer : AllFewer ls ms
    pub agree : AllAgree (m ∷ ms) (l ∷ ls) (m ∷ ms)
    pub counted : AllCounted (m ∷ ms)

-- the shelf still keeps what it must, and nothing was added
pub record Thins {D : Type 0} (old new : Places (Node D)) : Type 0 where
  pub kept : IsKept new
  pub added : new.added ≡ old.added
