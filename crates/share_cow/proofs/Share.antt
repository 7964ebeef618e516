-- A root more for a batch.
use Rattle.std.proofs.Common.{◌≡◌, ◌≢◌, ◌-◌, ◌^◌, ◌<◌, ◌≤◌, ℕ, false, List, [], ◌∷◌, length, map, Option, Some, None, refl, ap, sym, ◌∙◌, subst, arith, inl, inr}
use Rattle.std.specs.Prelude.{slice_index_or, count_by, is_some}
use Rattle.std.proofs.lemmas.Bool.Decides.{eqb_tells}
use Rattle.shelf.specs.Places.{count_at, raised, slot_at}
use Rattle.share_cow.specs.Kept.{SameTree}
use Rattle.share_cow.specs.Levels.{Counted, IsApart, list_at, named, shared_places, sum_over, times}
use Rattle.share_cow.specs.Lowering.{AllAgree}
use Rattle.share_cow.specs.Store.{IsSound, Store, batch_level, batch_named, built, children_of, den, levels, log_level, resource_level, root_at, root_level, scope_level, shared, tree_levels}
use Rattle.share_cow.proofs.Lists.{both_name, named_but, named_same, sum_below, times_head, times_other}
use Rattle.share_cow.proofs.Slots.{length_put, live_within, names_same, raise_count, raise_count_other, raise_item, raise_slot_other, raised_at}
use Rattle.share_cow.proofs.Same.{SameFrom, all_same, one_level_same, same_from, shared_all, shared_whole}
use Rattle.share_cow.proofs.Table.{apart_same, den_same, live_root, named_by_roots, root_list}

module _ (s : Store) (root batch : ℕ) (sound : IsSound s) (is : root_at s root ≡ Some batch) where
  names_batch : 0 < times batch (batch_named (root_at s root))
  names_batch = omega (arith, ap (λ (o : Option ℕ). times batch (batch_named o)) is, times_head batch [])

  pub batch_live : 0 < count_at s.batches batch
  batch_live = live_root s sound root batch names_batch

  pub batch_room : count_at s.batches batch < 2 ^ 128 - 1
  batch_room = omega (arith, sound.counts.0 batch, named_by_roots batch s.roots, sound.roots, sound.most)

  module _ (roots2 : List (Option ℕ)) (key : ℕ) (free : slice_index_or s.roots key None ≡ None) (set : slice_index_or roots2 key None ≡ Some batch)
      (others : (other : ℕ) → other ≢ key → slice_index_or roots2 other None ≡ slice_index_or s.roots other None)
      (fewer : count_by is_some roots2 ≤ s.most) where
    abbrev pub shared_store : Store
    shared_store = record s { roots = roots2; batches = raised_at s.batches batch }

    children_stay : (p : ℕ) → list_at (map children_of (raised_at s.batches batch).slots) p ≡ list_at (map children_of s.batches.slots) p
    children_stay p = names_same s.batches (raised_at s.batches batch) p (raise_item s.batches batch batch_live p)

    roots_counted : Counted (root_level roots2) (batch_level (raised_at s.batches batch))
    roots_counted p =
        let step = named_but p (map batch_named s.roots) (map batch_named roots2) key
        (λ j d. root_list roots2 j ∙ ap batch_named (others j d) ∙ sym (root_list s.roots j)) in
        let was = ap (times p) (root_list s.roots key ∙ ap batch_named free) in
        let now = ap (times p) (root_list roots2 key ∙ ap batch_named set) in
        elim (eqb_tells p batch) as (λ x. count_at (raised_at s.batches batch) p ≡ named p (map batch_named roots2)) [
          | inl t ↦
              (let one = times_head batch [] in
              let count = ap (count_at (raised_at s.batches batch)) t.1 ∙ raise_count s.batches batch batch_live in
              let old = ap (count_at s.batches) t.1 in
              let again = ap (λ (q : ℕ). times q (batch ∷ [])) t.1 in
              omega (arith, step, was, now, one, count, old, again, sound.counts.0 p))
          | inr t ↦ omega (arith, step, was, now, times_other p batch [] (λ e. t.1 (sym e)), raise_count_other s.batches batch batch_live p t.1, sound.counts.0 p)
        ]

    batches_counted : Counted (batch_level (raised_at s.batches batch)) (resource_level s.resources)
    batches_counted p = sound.counts.1.0 p ∙ sym (named_same p (map children_of s.batches.slots) (map children_of (raised_at s.batches batch).slots) children_stay)

    agree : AllAgree (tree_levels s) (tree_levels s) (tree_levels shared_store)
    agree = (
      record {
        children = λ p h. children_stay p;
        builds = λ p h. ap (built _) (raise_item s.batches batch batch_live p);
        counted = λ p h. refl;
      },
      (
        record { children = λ p h. refl; builds = λ p h. refl; counted = λ p h. refl },
        (
          record { children = λ p h. refl; builds = λ p h. refl; counted = λ p h. refl },
          (record { children = λ p h. refl; builds = λ p h. refl; counted = λ p h. refl }, tt),
        ),
      ),
    )

    same : (p : ℕ) → 0 < count_at s.batches p → SameFrom (tree_levels s) (tree_levels shared_store) p
    same p live = same_from (batch_level s.batches) (resource_level s.resources ∷ scope_level s.scopes ∷ log_level s.logs ∷ [])
        (tree_levels s) (tree_levels shared_store) sound.counts.1 agree p live

    same_at : (r b : ℕ) → 0 < times b (batch_named (root_at s r)) → SameFrom (tree_levels s) (tree_levels shared_store) b
    same_at r b h = same b (live_root s sound r b h)

    pub share_tree : den shared_store key ≡ den s root
    share_tree = den_same s shared_store root key (set ∙ sym is) (same_at root)

    pub share_others : (other : ℕ) → other ≢ key → SameTree s shared_store other
    share_others other d = record {
      tree = den_same s shared_store other other (others other d) (same_at other);
      live = rw (others other d) (λ h. h, λ h. h);
    }

    share_apart : (r : ℕ) → IsApart (levels shared_store) r
    share_apart r = elim (eqb_tells r key) as (λ x. IsApart (levels shared_store) r) [
      | inl t ↦ subst (λ (k : ℕ). IsApart (levels shared_store) k) (sym t.1) (apart_same s shared_store root key (set ∙ sym is) (same_at root) (sound.apart root))
      | inr t ↦ apart_same s shared_store r r (others r t.1) (same_at r) (sound.apart r)
    ]

    still_tidy : (p : ℕ) → count_at (raised_at s.batches batch) p ≡ 0 → slot_at (raised_at s.batches batch) p ≡ None
    still_tidy p none = elim (eqb_tells p batch) as (λ x. slot_at (raised_at s.batches batch) p ≡ None) [
      | inl t ↦ absurd (omega (arith, none, ap (count_at (raised_at s.batches batch)) t.1, raise_count s.batches batch batch_live))
      | inr t ↦ raise_slot_other s.batches batch batch_live p t.1 ∙ sound.batches.tidy p (sym (raise_count_other s.batches batch batch_live p t.1) ∙ none)
    ]

    pub share_sound : IsSound shared_store
    share_sound = record {
      counts = (roots_counted, (batches_counted, sound.counts.1.1));
      apart = share_apart;
      batches = record {
        tidy = still_tidy;
        small = record {
          few = omega (arith, sound.batches.small.few, length_put s.batches.slots batch (raised (slot_at s.batches batch)) (live_within s.batches.slots batch batch_live));
          short = λ p. omega (arith, sound.batches.small.short p, ap length (children_stay p));
        };
        most = sound.batches.most;
      };
      resources = sound.resources;
      scopes = sound.scopes;
      logs = sound.logs;
      roots = fewer;
      most = sound.most;
    }

    -- a batch that another root names too was shared whole, and any other is as it was
    named_twice : (other : ℕ) → other ≢ root → 0 < times batch (batch_named (root_at s other)) → 1 < count_at s.batches batch
    named_twice other d h =
        omega (
          arith,
          h,
          names_batch,
          sound.counts.0 batch,
          both_name batch (map batch_named s.roots) other root d,
          ap (times batch) (root_list s.roots other),
          ap (times batch) (root_list s.roots root),
        )

    batch_shared : (other b : ℕ) → other ≢ root → 0 < times b (batch_named (root_at s other))
        → shared_places false (tree_levels shared_store) b ≤ shared_places false (tree_levels s) b
    batch_shared other b d h = elim (eqb_tells b batch) as (λ x. shared_places false (tree_levels shared_store) b ≤ shared_places false (tree_levels s) b) [
      | inl t ↦
          (let many : 1 < count_at s.batches b = subst (λ (q : ℕ). 1 < count_at s.batches q) (sym t.1)
          (named_twice other d (subst (λ (q : ℕ). 0 < times q (batch_named (root_at s other))) t.1 h)) in
          omega (
            arith,
            shared_whole (batch_level s.batches) (resource_level s.resources ∷ scope_level s.scopes ∷ log_level s.logs ∷ []) b many,
            shared_all false (tree_levels shared_store) b,
            all_same (tree_levels s) (tree_levels shared_store) b (same b (omega (arith, many))),
          ))
      | inr t ↦ omega (
        arith,
        one_level_same (batch_level s.batches) (batch_level (raised_at s.batches batch)) (resource_level s.resources ∷ scope_level s.scopes ∷ log_level s.logs ∷ []) b
            (raise_count_other s.batches batch batch_live b t.1) (children_stay b),
      )
    ]

    pub share_shared : (other : ℕ) → other ≢ key → other ≢ root → shared shared_store other ≤ shared s other
    share_shared other d e =
        omega (
          arith,
          ap (λ (o : Option ℕ). sum_over (shared_places false (tree_levels shared_store)) (batch_named o)) (others other d),
          sum_below (shared_places false (tree_levels shared_store)) (shared_places false (tree_levels s)) (batch_named (root_at s other))
              (λ b h. batch_shared other b e h),
        )
