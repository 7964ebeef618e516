-- A forest in which the batch of a root was made anew, and what is known of what nodes name.
use Rattle.std.proofs.Common.{◌≡◌, ◌≢◌, ◌+◌, ◌-◌, ◌*◌, ◌<◌, ◌≤◌, ◌^◌, ◌↔◌, ℕ, zero, suc, List, [], ◌∷◌, length, get_or, set, map, min, Option, Some, None, refl, ap, sym, ◌∙◌, subst, arith, inl, inr}
use Rattle.std.specs.Prelude.{IsSome, cond, count_by, is_some, option_map, slice_index_or}
use Rattle.std.proofs.lemmas.Bool.Decides.{eqb_tells}
use Rattle.std.proofs.lemmas.List.{get_or-set_other, get_or-set_same, length-map}
use Rattle.std.proofs.lemmas.List.Sums.{sum_by-set}
use Rattle.pdata_tree.specs.declared.resource.ResourceNode.{ResourceNode}
use Rattle.shelf.specs.Places.{Places, count_at, count_of, item_at, slot_at}
use Rattle.share_cow.specs.Copies.{Copies, InTree, Owns, Raised, Went}
use Rattle.share_cow.specs.Kept.{KeepsOthers}
use Rattle.share_cow.specs.Levels.{Level, list_at, named, times}
use Rattle.share_cow.specs.Owning.{NodeCopied, Raises}
use Rattle.share_cow.specs.Store.{IsKept, IsLiveRoot, IsSound, Part, Store, batch_level, batch_made, batch_named, children_of, den, levels, made, nothing, resource_level, resource_levels, resource_made, root_at, root_level, scope_levels, tree_levels}
use Rattle.share_cow.specs.declared.node.Node.{Node}
use Rattle.share_cow.proofs.Growing.{some_or_none, tidy_level}
use Rattle.share_cow.proofs.Lists.{entry_times, times_at}
use Rattle.share_cow.proofs.Owned.{times_length}
use Rattle.share_cow.proofs.Falling.{none_some}
use Rattle.share_cow.proofs.OwnLevels.{are_raised, copies, renames_batch}
use Rattle.share_cow.proofs.Slots.{names, names_at}
use Rattle.share_cow.proofs.Steps.{step_keeps, step_sound, step_tree}
use Rattle.share_cow.proofs.Table.{root_list}
use Rattle.share_cow.proofs.Ways.{owns_copied, owns_kept, owns_none, went_one}

some_kept : {T : Type 0} (slot : Option (T × ℕ)) → 0 < count_of slot → (item : T) × (option_map (λ (kept : T × ℕ). kept.0) slot ≡ Some item)
some_kept None h = absurd (omega arith)
some_kept (Some kept) h = (kept.0, refl)

-- what is live is there
pub item_there : {T : Type 0} (s : Places T) (p : ℕ) → 0 < count_at s p → (item : T) × (item_at s p ≡ Some item)
item_there s p live = some_kept (slot_at s p) live

-- what names something is live
pub names_live : {D : Type 0} (make : D → List Part → Part) (s : Places (Node D)) (p i : ℕ) → IsKept s → i < length (list_at (map children_of s.slots) p) → 0 < count_at s p
names_live make s p i kept h = elim (some_or_none (count_at s p)) as (λ x. 0 < count_at s p) [
  | inl t ↦ t
  | inr t ↦ absurd (omega (arith, h, ap length (tidy_level make s kept p t)))
]

-- and so is what is named
pub child_live : {D : Type 0} (s : Places (Node D)) (lower : Level Part) → ((q : ℕ) → lower.count q ≡ named q (map children_of s.slots)) → (p i : ℕ) → i < length (list_at (map children_of s.slots) p)
    → 0 < lower.count (get_or (list_at (map children_of s.slots) p) i 0)
child_live s lower counted p i h =
    omega (
      arith,
      counted (get_or (list_at (map children_of s.slots) p) i 0),
      times_at (get_or (list_at (map children_of s.slots) p) i 0) (map children_of s.slots) p,
      entry_times (list_at (map children_of s.slots) p) i h,
    )

named_bound : (p : ℕ) (ls : List (List ℕ)) → ((i : ℕ) → length (list_at ls i) < 2 ^ 64) → named p ls ≤ length ls * (2 ^ 64 - 1)
named_bound p [] short = omega arith
named_bound p (l ∷ ls) short = omega (arith, named_bound p ls (λ i. short (suc i)), times_length p l, short zero)

-- no count can end
pub child_room : {D : Type 0} (s : Places (Node D)) (lower : Level Part) → ((q : ℕ) → lower.count q ≡ named q (map children_of s.slots)) → IsKept s → (places : List ℕ) (p : ℕ)
    → places ≡ list_at (map children_of s.slots) p → (q : ℕ) → lower.count q + length places < 2 ^ 128
child_room s lower counted kept places p are q =
    omega (arith, counted q, named_bound q (map children_of s.slots) kept.small.short, length-map s.slots children_of, kept.small.few, kept.small.short p, ap length are)

pub named_live : {D : Type 0} (s : Places (Node D)) (lower : Level Part) → ((q : ℕ) → lower.count q ≡ named q (map children_of s.slots)) → (places : List ℕ) (p : ℕ)
    → places ≡ list_at (map children_of s.slots) p → (q : ℕ) → 0 < times q places → 0 < lower.count q
named_live s lower counted places p are q h = omega (arith, h, ap (times q) are, counted q, times_at q (map children_of s.slots) p)

-- what the copy of a node names is what the node names
pub copy_names : {D : Type 0} (s t : Places (Node D)) (old new : ℕ) (content : D) → NodeCopied old new content s t → list_at (map children_of t.slots) new ≡ list_at (map children_of s.slots) old
copy_names {D} s t old new content c = names_at t new ∙ ap (λ (o : Option (Node D × ℕ)). names (option_map (λ kept. kept.0) o)) c.copy

live_both : (a b : Option ℕ) (x y : ℕ) → a ≡ Some x → b ≡ Some y → IsSome a ↔ IsSome b
live_both a b x y is was = (λ h. rw was refl, λ h. rw is refl)

live_named : (o : Option ℕ) → 0 < length (batch_named o) → IsSome o
live_named None h = absurd (omega arith)
live_named (Some b) h = refl

pub within_roots : (roots : List (Option ℕ)) (root batch : ℕ) → slice_index_or roots root None ≡ Some batch → root < length roots
within_roots [] root batch is = absurd (none_some batch is)
within_roots (o ∷ roots) zero batch is = omega arith
within_roots (o ∷ roots) (suc root) batch is = omega (arith, within_roots roots root batch is)

-- a root that names something is live
pub way_live : (s : Store) (root : ℕ) → 0 < length (list_at (map batch_named s.roots) root) → IsLiveRoot s root
way_live s root h = live_named (root_at s root) (omega (arith, h, ap length (root_list s.roots root)))

-- the batch of a root
module _ (s : Store) (root batch : ℕ) (sound : IsSound s) (is : root_at s root ≡ Some batch) where
  begins : Owns (levels s) (levels s) root [] root
  begins = owns_none (root_level s.roots) (tree_levels s) root (omega arith)

  named_here : list_at (map batch_named s.roots) root ≡ batch ∷ []
  named_here = root_list s.roots root ∙ ap batch_named is

  there : InTree (levels s) root (0 ∷ [])
  there = (omega (arith, ap length named_here), tt)

  child_is : get_or (list_at (map batch_named s.roots) root) 0 0 ≡ batch
  child_is = ap (λ (qs : List ℕ). get_or qs 0 0) named_here

  pub batch_kept : count_at s.batches batch ≤ 1 → Owns (levels s) (levels s) root (0 ∷ []) batch
  batch_kept few =
      subst (λ (b : ℕ). Owns (levels s) (levels s) root (0 ∷ []) b) child_is
      (owns_kept (levels s) [] root [] root 0 refl (root_level s.roots) (batch_level s.batches) (resource_levels s.resources s.scopes s.logs) begins there
      (subst (λ (b : ℕ). count_at s.batches b ≤ 1) (sym child_is) few))

  -- a copy of it
  module _ (new : ℕ) (bs : Places (Node Unit)) (rs : Places (Node ResourceNode)) (places : List ℕ) (many : 1 < count_at s.batches batch) (c : NodeCopied batch new tt s.batches bs)
      (are : places ≡ list_at (map children_of bs.slots) new) (raised : Raises places s.resources rs) where
    abbrev pub with_batch : Store
    with_batch = record s { roots = set s.roots root (Some new); batches = bs; resources = rs }

    inside : root < length s.roots
    inside = within_roots s.roots root batch is

    set_here : root_at with_batch root ≡ Some new
    set_here = get_or-set_same s.roots root (Some new) None inside

    set_other : (other : ℕ) → other ≢ root → root_at with_batch other ≡ root_at s other
    set_other other d = get_or-set_other s.roots root other (Some new) None d

    step : Copies root batch new [] [] (root_level s.roots) (batch_level s.batches) (root_level with_batch.roots) (batch_level bs) (Some (resource_level s.resources)) (Some (resource_level rs))
    step =
        let node = item_there s.batches batch (omega (arith, many)) in
        copies batch_made s.batches bs batch new node.0 tt node.1 refl many c root [] [] (root_level s.roots) (root_level with_batch.roots) (Some (resource_level s.resources)) (Some (resource_level rs))
        (renames_batch s.roots with_batch.roots root batch new is set_here set_other)
        (subst (λ (qs : List ℕ). Raised qs (resource_level s.resources) (resource_level rs)) (are ∙ copy_names s.batches bs batch new tt c) (are_raised resource_made places s.resources rs raised))

    went : Went nothing (levels s) (levels with_batch) root (0 ∷ []) 1
    went = went_one (levels s) [] root [] root 0 refl step (scope_levels s.scopes s.logs) nothing refl sound.counts (sound.apart root) begins there [] tt

    live : (r : ℕ) → IsLiveRoot with_batch r ↔ IsLiveRoot s r
    live r = elim (eqb_tells r root) as (λ x. IsLiveRoot with_batch r ↔ IsLiveRoot s r) [
      | inl e ↦ subst (λ (k : ℕ). IsLiveRoot with_batch k ↔ IsLiveRoot s k) (sym e.1) (live_both (root_at with_batch root) (root_at s root) new batch set_here is)
      | inr e ↦ rw (set_other r e.1) (λ h. h, λ h. h)
    ]

    as_many : count_by is_some with_batch.roots ≡ count_by is_some s.roots
    as_many =
        let f : Option ℕ → ℕ = λ o. cond (is_some o) 1 0 in
        omega (arith, sum_by-set f s.roots root (Some new) None inside, ap f is)

    rose : made with_batch ≡ min (made s + 1) (2 ^ 128 - 1)
    rose = omega (arith, c.keeps.added, raised.thins.added)

    pub batch_owns : Owns (levels s) (levels with_batch) root (0 ∷ []) new
    batch_owns = owns_copied (levels s) [] root [] root 0 refl step (scope_levels s.scopes s.logs) nothing refl sound.counts (sound.apart root) begins there

    pub batch_tree : den with_batch root ≡ den s root
    batch_tree = step_tree s with_batch root (0 ∷ []) sound went live as_many refl root

    pub batch_keeps : KeepsOthers root s with_batch
    batch_keeps = step_keeps s with_batch root (0 ∷ []) sound went live as_many refl rose

    pub batch_sound : IsSound with_batch
    batch_sound = step_sound s with_batch root (0 ∷ []) sound went live as_many refl c.keeps.kept raised.thins.kept sound.scopes sound.logs
