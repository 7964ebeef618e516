-- What a shelf holds after a node was copied, raised or changed.
use Rattle.std.proofs.Common.{◌≡◌, ◌≢◌, ◌+◌, ◌-◌, ◌<◌, ◌≤◌, ◌^◌, ℕ, List, [], ◌∷◌, length, get_or, take, map, Option, Some, None, refl, ap, sym, ◌∙◌, subst, arith, inl, inr}
use Rattle.std.specs.Prelude.{option_map, ◌==◌}
use Rattle.std.proofs.lemmas.Bool.Decides.{eqb_tells}
use Rattle.std.proofs.lemmas.List.{length-take-le, take_more}
use Rattle.shelf.specs.Places.{Adds, Places, count_at, count_of, item_at, lowered, raised, slot_at}
use Rattle.share_cow.specs.Levels.{list_at, times}
use Rattle.share_cow.specs.Lowering.{Thins}
use Rattle.share_cow.specs.Owning.{NodeCopied, Raises, with_node}
use Rattle.share_cow.specs.Store.{IsKept, children_of}
use Rattle.share_cow.specs.declared.node.Node.{Node}
use Rattle.share_cow.proofs.Added.{add_keeps, add_other, add_slot, was_none}
use Rattle.share_cow.proofs.Lists.{times_append, times_head, times_other}
use Rattle.share_cow.proofs.Lowered.{lower_other, lower_slot, lower_thins, lowered_at}
use Rattle.share_cow.proofs.Same.{one_at_most}
use Rattle.share_cow.proofs.Slots.{length_put, live_within, names, names_at, names_same, put_other, put_same, raise_count, raise_count_other, raise_item, raise_slot_other, raised_at}

-- a count raised
module _ {D : Type 0} (s : Places (Node D)) (i : ℕ) (live : 0 < count_at s i) where
  pub raise_counts : (p : ℕ) → count_at (raised_at s i) p ≡ count_at s p + times p (i ∷ [])
  raise_counts p = elim (eqb_tells p i) as (λ x. count_at (raised_at s i) p ≡ count_at s p + times p (i ∷ [])) [
    | inl e ↦ subst (λ (k : ℕ). count_at (raised_at s i) k ≡ count_at s k + times k (i ∷ [])) (sym e.1) (omega (arith, raise_count s i live, times_head i []))
    | inr e ↦ omega (arith, raise_count_other s i live p e.1, times_other p i [] (λ q. e.1 (sym q)))
  ]

  raise_tidy : IsKept s → (p : ℕ) → count_at (raised_at s i) p ≡ 0 → slot_at (raised_at s i) p ≡ None
  raise_tidy kept p none = elim (eqb_tells p i) as (λ x. slot_at (raised_at s i) p ≡ None) [
    | inl e ↦ absurd (omega (arith, none, ap (count_at (raised_at s i)) e.1, raise_count s i live))
    | inr e ↦ raise_slot_other s i live p e.1 ∙ kept.tidy p (sym (raise_count_other s i live p e.1) ∙ none)
  ]

  pub raise_thins : IsKept s → Thins s (raised_at s i)
  raise_thins kept = record {
    kept = record {
      tidy = raise_tidy kept;
      small = record {
        few = omega (arith, kept.small.few, length_put s.slots i (raised (slot_at s i)) (live_within s.slots i live));
        short = λ p. omega (arith, kept.small.short p, ap length (names_same s (raised_at s i) p (raise_item s i live p)));
      };
      most = kept.most;
    };
    added = refl;
  }

pub raises_none : {D : Type 0} (s : Places (Node D)) → IsKept s → Raises [] s s
raises_none s kept = record { counts = λ p. omega arith; items = λ p. refl; thins = record { kept = kept; added = refl } }

-- one more of a list
pub raises_next : {D : Type 0} (places : List ℕ) (i : ℕ) (s t : Places (Node D)) → i < length places → Raises (take i places) s t → 0 < count_at t (get_or places i 0)
    → Raises (take (i + 1) places) s (raised_at t (get_or places i 0))
raises_next places i s t h r live =
    let more = take_more places i 0 h in
    record {
      counts = λ p. omega (arith, r.counts p, raise_counts t (get_or places i 0) live p, ap (times p) more, times_append p (take i places) (get_or places i 0 ∷ []));
      items = λ p. raise_item t (get_or places i 0) live p ∙ r.items p;
      thins = (let on = raise_thins t (get_or places i 0) live r.thins.kept in record { kept = on.kept; added = r.thins.added });
    }

-- a node copied
pub copied : {D : Type 0} (s mid : Places (Node D)) (old new : ℕ) (node : Node D) → IsKept s → 1 < count_at s old → Adds s mid new node → new < 2 ^ 64 → length node.children < 2 ^ 64
    → node.children ≡ list_at (map children_of s.slots) old → NodeCopied old new node.content s (lowered_at mid old)
copied {D} s mid old new node kept many add fits short same =
    let apart : old ≢ new = λ e. absurd (omega (arith, many, ap (count_at s) e, was_none s mid new node add)) in
    let there = add_other s mid new node add old apart in
    let live : 0 < count_at mid old = omega (arith, many, ap count_of there) in
    let keeps = add_keeps s mid new node add kept fits short in
    let with : List ℕ → Option (Node D × ℕ) = λ qs. Some (record { content = node.content; children = qs }, 1) in
    let thins = lower_thins mid old live keeps.kept in
    record {
      was_free = add.slots.was_free;
      copy = lower_other mid old live new (λ e. apart (sym e)) ∙ add_slot s mid new node add
          ∙ ap with same;
      less = lower_slot mid old live ∙ ap lowered there;
      others = λ p d e. lower_other mid old live p d ∙ add_other s mid new node add p e;
      keeps = record { kept = thins.kept; added = keeps.added };
    }

module _ {D : Type 0} where
  change_count : (f : Node D → Node D) (slot : Option (Node D × ℕ)) → count_of (option_map (λ kept. (f kept.0, kept.1)) slot) ≡ count_of slot
  change_count f None = refl
  change_count f (Some kept) = refl

  change_item : (f : Node D → Node D) (slot : Option (Node D × ℕ)) → option_map (λ (kept : Node D × ℕ). kept.0) (option_map (λ (kept : Node D × ℕ). (f kept.0, kept.1)) slot) ≡ option_map f (option_map (λ (kept : Node D × ℕ). kept.0) slot)
  change_item f None = refl
  change_item f (Some kept) = refl

  -- a node changed
  module _ (s : Places (Node D)) (i : ℕ) (live : 0 < count_at s i) (f : Node D → Node D) where
    within : i < length s.slots
    within = live_within s.slots i live

    pub with_slot_other : (p : ℕ) → p ≢ i → slot_at (with_node s i f) p ≡ slot_at s p
    with_slot_other p d = put_other s.slots i p (option_map (λ kept. (f kept.0, kept.1)) (slot_at s i)) (omega (arith, within)) d

    with_slot_here : slot_at (with_node s i f) i ≡ option_map (λ kept. (f kept.0, kept.1)) (slot_at s i)
    with_slot_here = put_same s.slots i (option_map (λ kept. (f kept.0, kept.1)) (slot_at s i)) (omega (arith, within))

    pub with_item_here : item_at (with_node s i f) i ≡ option_map f (item_at s i)
    with_item_here = ap (option_map (λ kept. kept.0)) with_slot_here ∙ change_item f (slot_at s i)

    pub with_item_other : (p : ℕ) → p ≢ i → item_at (with_node s i f) p ≡ item_at s p
    with_item_other p d = ap (option_map (λ kept. kept.0)) (with_slot_other p d)

    pub with_counts : (p : ℕ) → count_at (with_node s i f) p ≡ count_at s p
    with_counts p = elim (eqb_tells p i) as (λ x. count_at (with_node s i f) p ≡ count_at s p) [
      | inl e ↦ subst (λ (k : ℕ). count_at (with_node s i f) k ≡ count_at s k) (sym e.1) (ap count_of with_slot_here ∙ change_count f (slot_at s i))
      | inr e ↦ ap count_of (with_slot_other p e.1)
    ]

    pub with_names_here : (node : Node D) → item_at s i ≡ Some node → list_at (map children_of (with_node s i f).slots) i ≡ (f node).children
    with_names_here node is = names_at (with_node s i f) i ∙ ap names (with_item_here ∙ ap (option_map f) is)

    pub with_names_other : (p : ℕ) → p ≢ i → list_at (map children_of (with_node s i f).slots) p ≡ list_at (map children_of s.slots) p
    with_names_other p d = names_same s (with_node s i f) p (with_item_other p d)

    with_tidy : IsKept s → (p : ℕ) → count_at (with_node s i f) p ≡ 0 → slot_at (with_node s i f) p ≡ None
    with_tidy kept p none = elim (eqb_tells p i) as (λ x. slot_at (with_node s i f) p ≡ None) [
      | inl e ↦ absurd (omega (arith, live, with_counts i, none, ap (count_at (with_node s i f)) e.1))
      | inr e ↦ with_slot_other p e.1 ∙ kept.tidy p (sym (with_counts p) ∙ none)
    ]

    with_short : IsKept s → (node : Node D) → item_at s i ≡ Some node → length (f node).children ≡ length node.children → (p : ℕ) → length (list_at (map children_of (with_node s i f).slots) p) < 2 ^ 64
    with_short kept node is same p = elim (eqb_tells p i) as (λ x. length (list_at (map children_of (with_node s i f).slots) p) < 2 ^ 64) [
      | inl e ↦ omega (
        arith,
        ap (λ (k : ℕ). length (list_at (map children_of (with_node s i f).slots) k)) e.1,
        ap length (with_names_here node is),
        same,
        ap length (names_at s i ∙ ap names is),
        kept.small.short i,
      )
      | inr e ↦ omega (arith, kept.small.short p, ap length (with_names_other p e.1))
    ]

    pub with_thins : IsKept s → (node : Node D) → item_at s i ≡ Some node → length (f node).children ≡ length node.children → Thins s (with_node s i f)
    with_thins kept node is same = record {
      kept = record {
        tidy = with_tidy kept;
        small = record {
          few = omega (arith, kept.small.few, length_put s.slots i (option_map (λ kept. (f kept.0, kept.1)) (slot_at s i)) within);
          short = with_short kept node is same;
        };
        most = kept.most;
      };
      added = refl;
    }

-- the node whose copy was added still counts
pub still_live : {D : Type 0} (s mid : Places (Node D)) (old new : ℕ) (node : Node D) → 1 < count_at s old → Adds s mid new node → 0 < count_at mid old
still_live s mid old new node many add =
    omega (arith, many, ap count_of (add_other s mid new node add old (λ e. absurd (omega (arith, many, ap (count_at s) e, was_none s mid new node add)))))

pub times_length : (p : ℕ) (qs : List ℕ) → times p qs ≤ length qs
times_length p [] = omega arith
times_length p (q ∷ qs) = omega (arith, times_length p qs, one_at_most (q == p))

-- there is room for one more of a list
pub raise_room : {D : Type 0} (places : List ℕ) (i : ℕ) (s t : Places (Node D)) → i < length places → Raises (take i places) s t → count_at s (get_or places i 0) + length places < 2 ^ 128
    → count_at t (get_or places i 0) < 2 ^ 128 - 1
raise_room places i s t h r room = omega (arith, room, r.counts (get_or places i 0), times_length (get_or places i 0) (take i places), length-take-le i places (omega (arith, h)))

pub raise_live : {D : Type 0} (places : List ℕ) (i : ℕ) (s t : Places (Node D)) → Raises (take i places) s t → 0 < count_at s (get_or places i 0) → 0 < count_at t (get_or places i 0)
raise_live places i s t r live = omega (arith, live, r.counts (get_or places i 0))
