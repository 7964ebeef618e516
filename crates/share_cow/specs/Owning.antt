-- What becomes of one level where a node is made anew for one who names it.
use Rattle.std.specs.Prelude.{◌≡◌, ◌≢◌, ◌+◌, ℕ, List, Some, None, map, option_map}
use Rattle.shelf.specs.Places.{Places, count_at, item_at, lowered, slot_at, with_slot}
use Rattle.share_cow.specs.Levels.{list_at, times}
use Rattle.share_cow.specs.Lowering.{Thins}
use Rattle.share_cow.specs.Planting.{Keeps}
use Rattle.share_cow.specs.Store.{children_of}
use Rattle.share_cow.specs.declared.node.Node.{Node}

module _ {D : Type 0} where
  -- the shelf with what a change makes of the node at a place
  abbrev pub with_node : Places (Node D) → ℕ → (Node D → Node D) → Places (Node D)
  with_node s place change =
      with_slot s place (option_map (λ kept. (change kept.0, kept.1)) (slot_at s place))

  -- a node with this content came, which counts once and names what another one names; that one
  -- counts once less
  pub record NodeCopied (old new : ℕ) (content : D) (s t : Places (Node D)) : Type 0 where
    pub was_free : slot_at s new ≡ None
    pub copy : slot_at t new ≡ Some
        (record { content = content; children = list_at (map children_of s.slots) old }, 1)
    pub less : slot_at t old ≡ lowered (slot_at s old)
    pub others : (p : ℕ) → p ≢ old → p ≢ new → slot_at t p ≡ slot_at s p
    pub keeps : Keeps 1 s t

  -- each place counts once more for each time that it is listed
  pub record Raises (places : List ℕ) (s t : Places (Node D)) : Type 0 where
    pub counts : (p : ℕ) → count_at t p ≡ count_at s p + times p places
    pub items : (p : ℕ) → item_at t p ≡ item_at s p
    pub thins : Thins s t
