-- Nodes that go, one after another, on any number of levels.
use Rattle.std.proofs.Common.{◌≡◌, ◌+◌, ◌<◌, ◌≤◌, ℕ, List, [], ◌∷◌, ◌++◌, length, get_or, take, map, Option, Some, None, refl, ap, sym, ◌∙◌, arith, inl, inr}
use Rattle.std.specs.Prelude.{option_map}
use Rattle.std.proofs.lemmas.List.{take_more}
use Rattle.shelf.specs.Places.{Places, count_at, count_of, given_up, slot_at}
use Rattle.share_cow.specs.Levels.{Level, AllCounted, list_at, times}
use Rattle.share_cow.specs.Lowering.{AllAgree, AllFewer, Holds, Lowers}
use Rattle.share_cow.specs.Store.{Part, children_of, level_of}
use Rattle.share_cow.specs.declared.node.Node.{Node}
use Rattle.share_cow.proofs.Lists.{named_but, named_same, times_append, times_at, times_next}
use Rattle.share_cow.proofs.Lowered.{given_last, given_many, lower_agrees, lower_counts, lower_last, lower_many, lower_other, lowered_at, over_one}
use Rattle.share_cow.proofs.Slots.{names, names_at, names_same}

abbrev weight : {T : Type 0} → Option T → ℕ
weight None = 0
weight (Some x) = 1

live_slot : {T : Type 0} (slot : Option (T × ℕ)) → 0 < count_of slot → option_map (λ (kept : T × ℕ). kept.0) slot ≡ None → ⊥
live_slot None h e = absurd (omega arith)
live_slot (Some kept) h e = absurd (omega (arith, ap weight e))

pub none_some : {T : Type 0} (x : T) → None ≡ Some x → ⊥
none_some x e = absurd (omega (arith, ap weight e))

module _ {X : Type 0} where
  pub fewer_refl : (ls : List (Level X)) → AllFewer ls ls
  fewer_refl [] = tt
  fewer_refl (l ∷ ls) = (λ p. omega arith, fewer_refl ls)

  pub fewer_on : (ls ms ns : List (Level X)) → AllFewer ls ms → AllFewer ms ns → AllFewer ls ns
  fewer_on [] [] [] a b = tt
  fewer_on [] [] (n ∷ ns) a b = absurd b
  fewer_on [] (m ∷ ms) ns a b = absurd a
  fewer_on (l ∷ ls) [] ns a b = absurd a
  fewer_on (l ∷ ls) (m ∷ ms) [] a b = absurd b
  fewer_on (l ∷ ls) (m ∷ ms) (n ∷ ns) a b = (λ p. omega (arith, a.0 p, b.0 p), fewer_on ls ms ns a.1 b.1)

  pub agree_refl : (ls : List (Level X)) → AllAgree ls ls ls
  agree_refl [] = tt
  agree_refl (l ∷ ls) = (record { children = λ p h. refl; builds = λ p h. refl; counted = λ p h. refl }, agree_refl ls)

  pub agree_on : (ls ms ns : List (Level X)) → AllAgree ms ls ms → AllAgree ns ms ns → AllFewer ms ns → AllAgree ns ls ns
  agree_on [] [] [] a b f = tt
  agree_on [] [] (n ∷ ns) a b f = absurd f
  agree_on [] (m ∷ ms) ns a b f = absurd a
  agree_on (l ∷ ls) [] ns a b f = absurd a
  agree_on (l ∷ ls) (m ∷ ms) [] a b f = absurd f
  agree_on (l ∷ ls) (m ∷ ms) (n ∷ ns) a b f = (
    record {
      children = λ p h. b.0.children p h ∙ a.0.children p (omega (arith, h, f.0 p));
      builds = λ p h. b.0.builds p h ∙ a.0.builds p (omega (arith, h, f.0 p));
      counted = λ p h. b.0.counted p h ∙ a.0.counted p (omega (arith, h, f.0 p));
    },
    agree_on ls ms ns a.1 b.1 f.1,
  )

  -- where nothing is named, nothing goes
  pub lowers_none : (l : Level X) (ls : List (Level X)) → AllCounted (l ∷ ls) → Lowers [] l l ls ls
  lowers_none l ls counted = record {
    counts = λ p. omega arith;
    fewer = fewer_refl ls;
    agree = agree_refl (l ∷ ls);
    counted = counted;
  }

  -- and what goes in turn goes in all
  pub lowers_on : (xs ys : List ℕ) (l m n : Level X) (ls ms ns : List (Level X)) → Lowers xs l m ls ms → Lowers ys m n ms ns → Lowers (xs ++ ys) l n ls ns
  lowers_on xs ys l m n ls ms ns a b = record {
    counts = λ p. omega (arith, a.counts p, b.counts p, times_append p xs ys);
    fewer = fewer_on ls ms ns a.fewer b.fewer;
    agree = agree_on (l ∷ ls) (m ∷ ms) (n ∷ ns) a.agree b.agree (λ p. omega (arith, b.counts p), b.fewer);
    counted = b.counted;
  }

  pub next_live : (qs : List ℕ) (i : ℕ) (l m : Level X) (ls ms : List (Level X)) → i < length qs → Holds qs l → Lowers (take i qs) l m ls ms → 0 < m.count (get_or qs i 0)
  next_live qs i l m ls ms h holds low = omega (arith, times_next qs i h, holds (get_or qs i 0), low.counts (get_or qs i 0))

  pub lowers_next : (qs : List ℕ) (i : ℕ) (l m n : Level X) (ls ms ns : List (Level X)) → i < length qs → Lowers (take i qs) l m ls ms
      → Lowers (get_or qs i 0 ∷ []) m n ms ns → Lowers (take (i + 1) qs) l n ls ns
  lowers_next qs i l m n ls ms ns h a b = rw (take_more qs i 0 h) (lowers_on (take i qs) (get_or qs i 0 ∷ []) l m n ls ms ns a b)

-- One node goes, and with its last count what it names.
module _ {D : Type 0} (make : D → List Part → Part) (s : Places (Node D)) (i : ℕ) (live : 0 < count_at s i) (k : Level Part) (ls : List (Level Part))
    (counted : AllCounted (level_of make s ∷ k ∷ ls)) where
  is_many : given_up (slot_at s i) ≡ None → 1 < count_at s i
  is_many none = elim (over_one (count_at s i)) as (λ x. 1 < count_at s i) [
    | inl t ↦ t
    | inr t ↦ absurd (live_slot (slot_at s i) live (sym (given_last (slot_at s i) t) ∙ none))
  ]

  pub step_kept : given_up (slot_at s i) ≡ None → Lowers (i ∷ []) (level_of make s) (level_of make (lowered_at s i)) (k ∷ ls) (k ∷ ls)
  step_kept none =
      let many = is_many none in
      record {
        counts = lower_counts s i live;
        fewer = fewer_refl (k ∷ ls);
        agree = (lower_agrees make s i live, agree_refl (k ∷ ls));
        counted = (
          λ p. counted.0 p ∙ sym (named_same p (map children_of s.slots) (map children_of (lowered_at s i).slots)
              (λ j. names_same s (lowered_at s i) j (lower_many s i live many j))),
          counted.1,
        );
      }

  is_last : (node : Node D) → given_up (slot_at s i) ≡ Some node → count_at s i ≤ 1
  is_last node given = elim (over_one (count_at s i)) as (λ x. count_at s i ≤ 1) [
    | inl t ↦ absurd (none_some node (sym (given_many (slot_at s i) t) ∙ given))
    | inr t ↦ t
  ]

  pub children_here : (node : Node D) → given_up (slot_at s i) ≡ Some node → list_at (map children_of s.slots) i ≡ node.children
  children_here node given = names_at s i ∙ ap names (sym (given_last (slot_at s i) (is_last node given)) ∙ given)

  pub holds_children : (node : Node D) → given_up (slot_at s i) ≡ Some node → Holds node.children k
  holds_children node given q =
      omega (arith, counted.0 q, times_at q (map children_of s.slots) i, ap (times q) (children_here node given))

  pub step_gone : (node : Node D) → given_up (slot_at s i) ≡ Some node → (k2 : Level Part) (ls2 : List (Level Part)) → Lowers node.children k k2 ls ls2
      → Lowers (i ∷ []) (level_of make s) (level_of make (lowered_at s i)) (k ∷ ls) (k2 ∷ ls2)
  step_gone node given k2 ls2 low = record {
    counts = lower_counts s i live;
    fewer = (λ q. omega (arith, low.counts q), low.fewer);
    agree = (lower_agrees make s i live, low.agree);
    counted = (
      λ q. omega (
        arith,
        low.counts q,
        counted.0 q,
        named_but q (map children_of s.slots) (map children_of (lowered_at s i).slots) i
            (λ j d. names_same s (lowered_at s i) j (ap (option_map (λ kept. kept.0)) (lower_other s i live j d))),
        ap (times q) (children_here node given),
        ap (times q) (names_at (lowered_at s i) i ∙ ap (λ (slot : Option (Node D × ℕ)). names (option_map (λ kept. kept.0) slot)) (lower_last s i live (is_last node given))),
      ),
      low.counted,
    );
  }
