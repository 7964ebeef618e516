-- The levels after a node was made anew for one who names it.
use Rattle.std.proofs.Common.{◌≡◌, ◌≢◌, ◌+◌, ◌<◌, ℕ, List, [], ◌∷◌, ◌++◌, length, get_or, take, drop, set, map, Option, Some, None, refl, ap, sym, ◌∙◌, subst, add-one, arith, inl, inr}
use Rattle.std.specs.Prelude.{option_map, slice_index_or}
use Rattle.std.proofs.lemmas.Bool.Decides.{eqb_tells}
use Rattle.std.proofs.lemmas.List.{set_split}
use Rattle.shelf.specs.Places.{Places, count_at, count_of, item_at, slot_at}
use Rattle.share_cow.specs.Copies.{AreRaised, Copies, Raised}
use Rattle.share_cow.specs.Levels.{Level, list_at}
use Rattle.share_cow.specs.Owning.{NodeCopied, Raises, with_node}
use Rattle.share_cow.specs.Store.{Part, batch_named, built, children_of, level_of, root_level}
use Rattle.share_cow.specs.declared.node.Node.{Node}
use Rattle.share_cow.proofs.Lists.{split_at}
use Rattle.share_cow.proofs.Lowered.{many_count, many_item}
use Rattle.share_cow.proofs.Owned.{with_counts, with_item_here, with_item_other, with_names_here, with_names_other}
use Rattle.share_cow.proofs.Slots.{names, names_at, names_same}
use Rattle.share_cow.proofs.Table.{root_list}

-- One entry of a parent names another node; nothing else on the parent's level changes.
pub record Renames {X : Type 0} (parent old new : ℕ) (before after : List ℕ) (k k2 : Level X) : Type 0 where
  pub was_entry : list_at k.children parent ≡ before ++ old ∷ after
  pub entry : list_at k2.children parent ≡ before ++ new ∷ after
  pub other_entries : (p : ℕ) → p ≢ parent → list_at k2.children p ≡ list_at k.children p
  pub counts : (p : ℕ) → k2.count p ≡ k.count p
  pub builds : (p : ℕ) → k2.build p ≡ k.build p

set_at : (qs : List ℕ) (i q : ℕ) → i < length qs → set qs i q ≡ take i qs ++ q ∷ drop (i + 1) qs
set_at qs i q h = rw add-one (set_split qs i q h)

-- the shelf where a node names another one at an index
abbrev pub set_child_of : {D : Type 0} → Places (Node D) → ℕ → ℕ → ℕ → Places (Node D)
set_child_of s parent index new = with_node s parent (λ n. record n { children = set n.children index new })

-- a child of a node
pub renames_child : {D : Type 0} (make : D → List Part → Part) (s : Places (Node D)) (parent index new : ℕ) (node : Node D) → 0 < count_at s parent → item_at s parent ≡ Some node
    → index < length (list_at (map children_of s.slots) parent)
    → Renames parent (get_or (list_at (map children_of s.slots) parent) index 0) new (take index (list_at (map children_of s.slots) parent)) (drop (index + 1) (list_at (map children_of s.slots) parent))
    (level_of make s) (level_of make (set_child_of s parent index new))
renames_child {D} make s parent index new node live is there =
    let f : Node D → Node D = λ n. record n { children = set n.children index new } in
    let named : list_at (map children_of s.slots) parent ≡ node.children = names_at s parent ∙ ap names is in
    record {
      was_entry = split_at (list_at (map children_of s.slots) parent) index there;
      entry = with_names_here s parent live f node is ∙ ap (λ (qs : List ℕ). set qs index new) (sym named) ∙ set_at (list_at (map children_of s.slots) parent) index new there;
      other_entries = λ p d. with_names_other s parent live f p d;
      counts = λ p. with_counts s parent live f p;
      builds = λ p. elim (eqb_tells p parent) as (λ x. built make (item_at (with_node s parent f) p) ≡ built make (item_at s p)) [
        | inl e ↦ subst (λ (k : ℕ). built make (item_at (with_node s parent f) k) ≡ built make (item_at s k)) (sym e.1)
            (ap (built make) (with_item_here s parent live f ∙ ap (option_map f) is) ∙ sym (ap (built make) is))
        | inr e ↦ ap (built make) (with_item_other s parent live f p e.1)
      ];
    }

-- the batch of a root
pub renames_batch : (roots roots2 : List (Option ℕ)) (root old new : ℕ) → slice_index_or roots root None ≡ Some old → slice_index_or roots2 root None ≡ Some new
    → ((other : ℕ) → other ≢ root → slice_index_or roots2 other None ≡ slice_index_or roots other None)
    → Renames root old new [] [] (root_level roots) (root_level roots2)
renames_batch roots roots2 root old new was is others = record {
  was_entry = root_list roots root ∙ ap batch_named was;
  entry = root_list roots2 root ∙ ap batch_named is;
  other_entries = λ p d. root_list roots2 p ∙ ap batch_named (others p d) ∙ sym (root_list roots p);
  counts = λ p. refl;
  builds = λ p. refl;
}

pub are_raised : {D : Type 0} (make : D → List Part → Part) (places : List ℕ) (s t : Places (Node D)) → Raises places s t → Raised places (level_of make s) (level_of make t)
are_raised make places s t r = record {
  counts = r.counts;
  children = λ p. names_same s t p (r.items p);
  builds = λ p. ap (built make) (r.items p);
}

module _ {D : Type 0} (make : D → List Part → Part) (s t : Places (Node D)) (old new : ℕ) (node : Node D) (content : D) (is : item_at s old ≡ Some node) (same : content ≡ node.content)
    (many : 1 < count_at s old) (c : NodeCopied old new content s t) where
  apart : old ≢ new
  apart e = absurd (omega (arith, many, ap (count_at s) e, ap count_of c.was_free))

  item_other : (p : ℕ) → p ≢ new → item_at t p ≡ item_at s p
  item_other p d = elim (eqb_tells p old) as (λ x. item_at t p ≡ item_at s p) [
    | inl e ↦ subst (λ (k : ℕ). item_at t k ≡ item_at s k) (sym e.1) (ap (option_map (λ kept. kept.0)) c.less ∙ many_item (slot_at s old) many)
    | inr e ↦ ap (option_map (λ kept. kept.0)) (c.others p e.1 d)
  ]

  copy_item : built make (item_at t new) ≡ built make (item_at s old)
  copy_item = ap (λ (o : Option (Node D × ℕ)). built make (option_map (λ kept. kept.0) o)) c.copy ∙ ap make same ∙ sym (ap (built make) is)

  -- with the entry of its parent, and the counts of what it names
  pub copies : (parent : ℕ) (before after : List ℕ) (k k2 : Level Part) (b b2 : Option (Level Part)) → Renames parent old new before after k k2
      → AreRaised (list_at (map children_of s.slots) old) b b2 → Copies parent old new before after k (level_of make s) k2 (level_of make t) b b2
  copies parent before after k k2 b b2 r below = record {
    was_shared = many;
    was_free = ap count_of c.was_free;
    names_nothing = names_at s new ∙ ap (λ (o : Option (Node D × ℕ)). names (option_map (λ kept. kept.0) o)) c.was_free;
    was_entry = r.was_entry;
    entry = r.entry;
    other_entries = r.other_entries;
    upper_counts = r.counts;
    upper_builds = r.builds;
    copy = names_at t new ∙ ap (λ (o : Option (Node D × ℕ)). names (option_map (λ kept. kept.0) o)) c.copy;
    other_children = λ p d. names_same s t p (item_other p d);
    copy_count = ap count_of c.copy;
    old_count = omega (arith, many, ap count_of c.less, many_count (slot_at s old) many);
    other_counts = λ p d e. ap count_of (c.others p d e);
    copy_builds = copy_item;
    other_builds = λ p d. ap (built make) (item_other p d);
    below = below;
  }
