-- A node more on a level.
use Rattle.std.proofs.Common.{◌≡◌, ◌≢◌, ◌+◌, ◌<◌, ◌≤◌, ◌^◌, ℕ, zero, suc, List, [], ◌∷◌, length, map, Option, Some, None, refl, ap, sym, ◌∙◌, subst, arith, inl, inr, ◌⊎◌}
use Rattle.std.specs.Prelude.{option_map}
use Rattle.std.proofs.lemmas.Bool.Decides.{eqb_tells}
use Rattle.shelf.specs.Places.{Adds, Places, count_at, count_of, item_at, put_at, slot_at, with_item}
use Rattle.share_cow.specs.Levels.{AllCounted, Level, list_at, times, value}
use Rattle.share_cow.specs.Lowering.{Agree}
use Rattle.share_cow.specs.Planting.{Grows, Keeps}
use Rattle.share_cow.specs.Store.{IsKept, Part, built, children_of, level_of, nothing}
use Rattle.share_cow.specs.declared.node.Node.{Node}
use Rattle.share_cow.proofs.Lists.{named_but, times_head, times_other}
use Rattle.share_cow.proofs.Slots.{names, names_at, names_same, put_other, put_same, slot_in}

length_put_more : {A : Type 0} (slots : List (Option A)) (i bound : ℕ) (slot : Option A) → i ≤ length slots → length slots ≤ bound → i < bound → length (put_at slots i slot) ≤ bound
length_put_more [] zero bound slot h few fits = omega arith
length_put_more [] (suc i) bound slot h few fits = absurd (omega arith)
length_put_more (s ∷ slots) zero bound slot h few fits = omega (arith, few)
length_put_more (s ∷ slots) (suc i) zero slot h few fits = absurd (omega arith)
length_put_more (s ∷ slots) (suc i) (suc bound) slot h few fits = omega (arith, length_put_more slots i bound slot (omega arith) (omega (arith, few)) (omega arith))

module _ {T : Type 0} (s t : Places T) (place : ℕ) (item : T) (add : Adds s t place item) where
  pub add_slot : slot_at t place ≡ Some (item, 1)
  add_slot = ap (λ (slots : List (Option (T × ℕ))). slot_in slots place) add.slots.put ∙ put_same s.slots place (Some (item, 1)) add.slots.within

  pub add_other : (p : ℕ) → p ≢ place → slot_at t p ≡ slot_at s p
  add_other p d = ap (λ (slots : List (Option (T × ℕ))). slot_in slots p) add.slots.put ∙ put_other s.slots place p (Some (item, 1)) add.slots.within d

  pub was_none : count_at s place ≡ 0
  was_none = ap count_of add.slots.was_free

  pub add_counts : (p : ℕ) → count_at t p ≡ count_at s p + times p (place ∷ [])
  add_counts p = elim (eqb_tells p place) as (λ x. count_at t p ≡ count_at s p + times p (place ∷ [])) [
    | inl e ↦ subst (λ (k : ℕ). count_at t k ≡ count_at s k + times k (place ∷ [])) (sym e.1) (omega (arith, ap count_of add_slot, was_none, times_head place []))
    | inr e ↦ omega (arith, ap count_of (add_other p e.1), times_other p place [] (λ q. e.1 (sym q)))
  ]

  pub add_fresh : (p : ℕ) → 0 < times p (place ∷ []) → count_at t p ≡ 1
  add_fresh p h = elim (eqb_tells p place) as (λ x. count_at t p ≡ 1) [
    | inl e ↦ ap (count_at t) e.1 ∙ ap count_of add_slot
    | inr e ↦ absurd (omega (arith, h, times_other p place [] (λ q. e.1 (sym q))))
  ]

  -- what counted is as it was
  pub add_item : (p : ℕ) → 0 < count_at s p → item_at t p ≡ item_at s p
  add_item p h = ap (option_map (λ kept. kept.0)) (add_other p (λ e. absurd (omega (arith, h, ap (count_at s) e, was_none))))

put_again : {A : Type 0} (slots : List (Option A)) (i : ℕ) (a b : Option A) → i ≤ length slots → put_at (put_at slots i a) i b ≡ put_at slots i b
put_again [] zero a b h = refl
put_again [] (suc i) a b h = absurd (omega arith)
put_again (s ∷ slots) zero a b h = refl
put_again (s ∷ slots) (suc i) a b h = ap (λ (xs : List (Option _)). s ∷ xs) (put_again slots i a b (omega arith))

-- another item in a place that was just filled
pub filled : {T : Type 0} (s t : Places T) (place : ℕ) (item other : T) → Adds s t place item → Adds s (with_item t place other) place other
filled {T} s t place item other add = record {
  slots = record {
    was_free = add.slots.was_free;
    within = add.slots.within;
    put = ap (λ (slot : Option (T × ℕ)). put_at t.slots place (option_map (λ (kept : T × ℕ). (other, kept.1)) slot)) (add_slot s t place item add)
        ∙ ap (λ (slots : List (Option (T × ℕ))). put_at slots place (Some (other, 1))) add.slots.put
        ∙ put_again s.slots place (Some (item, 1)) (Some (other, 1)) add.slots.within;
  };
  added = add.added;
}

abbrev content_or : {D : Type 0} → D → Option (Node D) → D
content_or d None = d
content_or d (Some node) = node.content

-- the content of a node that was just added
pub content_added : {D : Type 0} (s t : Places (Node D)) (place : ℕ) (node found : Node D) → Adds s t place node → item_at t place ≡ Some found → found.content ≡ node.content
content_added {D} s t place node found add at =
    ap (content_or node.content) (sym at ∙ ap (option_map (λ (kept : Node D × ℕ). kept.0)) (add_slot s t place node add))

none_or_some : (n : ℕ) → (0 < n) ⊎ (n ≡ 0)
none_or_some zero = inr refl
none_or_some (suc n) = inl (omega arith)

-- each count is as it was, or it is that of a new node
pub newer : (places : List ℕ) (parts : List Part) (l m : Level Part) (ls ms : List (Level Part)) → Grows places parts l m ls ms
    → (q : ℕ) → (m.count q ≡ l.count q) ⊎ ((l.count q ≡ 0) × (m.count q ≡ 1))
newer places parts l m ls ms g q = elim (none_or_some (times q places)) as (λ x. (m.count q ≡ l.count q) ⊎ ((l.count q ≡ 0) × (m.count q ≡ 1))) [
  | inl e ↦ inr (omega (arith, e, g.counts q, g.fresh q e), g.fresh q e)
  | inr e ↦ inl (omega (arith, e, g.counts q))
]

module _ {D : Type 0} (make : D → List Part → Part) (s t : Places (Node D)) (place : ℕ) (node : Node D) (add : Adds s t place node) where
  pub add_agrees : Agree (level_of make s) (level_of make s) (level_of make t)
  add_agrees = record {
    children = λ p h. names_same s t p (add_item s t place node add p h);
    builds = λ p h. ap (built make) (add_item s t place node add p h);
    counted = λ p h. refl;
  }

  pub names_new : list_at (map children_of t.slots) place ≡ node.children
  names_new = names_at t place ∙ ap (λ (slot : Option (Node D × ℕ)). names (option_map (λ kept. kept.0) slot)) (add_slot s t place node add)

  pub names_old : list_at (map children_of s.slots) place ≡ []
  names_old = names_at s place ∙ ap (λ (slot : Option (Node D × ℕ)). names (option_map (λ kept. kept.0) slot)) add.slots.was_free

  pub names_other : (p : ℕ) → p ≢ place → list_at (map children_of t.slots) p ≡ list_at (map children_of s.slots) p
  names_other p d = names_same s t p (ap (option_map (λ kept. kept.0)) (add_other s t place node add p d))

  pub add_value : (below : List (Level Part)) → value nothing (level_of make t ∷ below) place ≡ make node.content (map (value nothing below) node.children)
  add_value below =
      let item = ap (option_map (λ kept. kept.0)) (add_slot s t place node add) in
      ap (λ (o : Option (Node D)). built make o (map (value nothing below) (list_at (map children_of t.slots) place))) item
      ∙ ap (λ (qs : List ℕ). make node.content (map (value nothing below) qs)) names_new

  -- with nothing below
  pub grows_leaf : Grows (place ∷ []) (make node.content (map (value nothing []) node.children) ∷ []) (level_of make s) (level_of make t) [] []
  grows_leaf = record {
    counts = add_counts s t place node add;
    fresh = add_fresh s t place node add;
    more = tt;
    agree = (add_agrees, tt);
    counted = tt;
    values = ap (λ (x : Part). x ∷ []) (add_value []);
  }

  -- above nodes that came before
  pub grows_above : (k k2 : Level Part) (ks ks2 : List (Level Part)) (parts : List Part) → AllCounted (level_of make s ∷ k ∷ ks) → Grows node.children parts k k2 ks ks2
      → Grows (place ∷ []) (make node.content parts ∷ []) (level_of make s) (level_of make t) (k ∷ ks) (k2 ∷ ks2)
  grows_above k k2 ks ks2 parts counted below = record {
    counts = add_counts s t place node add;
    fresh = add_fresh s t place node add;
    more = (newer node.children parts k k2 ks ks2 below, below.more);
    agree = (add_agrees, below.agree);
    counted = (
      λ q. omega (arith, below.counts q, counted.0 q, named_but q (map children_of s.slots) (map children_of t.slots) place names_other, ap (times q) names_new, ap (times q) names_old),
      below.counted,
    );
    values = ap (λ (x : Part). x ∷ []) (add_value (k2 ∷ ks2) ∙ ap (make node.content) below.values);
  }

module _ {D : Type 0} (s t : Places (Node D)) (place : ℕ) (node : Node D) (add : Adds s t place node) where
  add_tidy : IsKept s → (p : ℕ) → count_at t p ≡ 0 → slot_at t p ≡ None
  add_tidy kept p none = elim (eqb_tells p place) as (λ x. slot_at t p ≡ None) [
    | inl e ↦ absurd (omega (arith, none, ap (count_at t) e.1, ap count_of (add_slot s t place node add)))
    | inr e ↦ add_other s t place node add p e.1 ∙ kept.tidy p (sym (ap count_of (add_other s t place node add p e.1)) ∙ none)
  ]

  add_short : IsKept s → length node.children < 2 ^ 64 → (p : ℕ) → length (list_at (map children_of t.slots) p) < 2 ^ 64
  add_short kept short p = elim (eqb_tells p place) as (λ x. length (list_at (map children_of t.slots) p) < 2 ^ 64) [
    | inl e ↦ omega (
      arith,
      short,
      ap (λ (k : ℕ). length (list_at (map children_of t.slots) k)) e.1,
      ap length (names_at t place ∙ ap (λ (slot : Option (Node D × ℕ)). names (option_map (λ kept. kept.0) slot)) (add_slot s t place node add)),
    )
    | inr e ↦ omega (arith, kept.small.short p, ap length (names_same s t p (ap (option_map (λ kept. kept.0)) (add_other s t place node add p e.1))))
  ]

  pub add_keeps : IsKept s → place < 2 ^ 64 → length node.children < 2 ^ 64 → Keeps 1 s t
  add_keeps kept fits short = record {
    kept = record {
      tidy = add_tidy kept;
      small = record {
        few = omega (arith, ap length add.slots.put, length_put_more s.slots place (2 ^ 64) (Some (node, 1)) add.slots.within kept.small.few fits);
        short = add_short kept short;
      };
      most = omega (arith, add.added);
    };
    added = add.added;
  }

-- what a node that came names
pub added_names : {D : Type 0} (s t : Places (Node D)) (place : ℕ) (node : Node D) → Adds s t place node → list_at (map children_of t.slots) place ≡ node.children
added_names {D} s t place node add = names_at t place ∙ ap (λ (slot : Option (Node D × ℕ)). names (option_map (λ kept. kept.0) slot)) (add_slot s t place node add)

pub added_live : {D : Type 0} (s t : Places (Node D)) (place : ℕ) (node : Node D) → Adds s t place node → 0 < count_at t place
added_live s t place node add = omega (arith, add_counts s t place node add place, times_head place [])
