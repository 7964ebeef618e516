-- A payload that names some of the resources of another one comes beside those that roots name.
use Rattle.std.proofs.Common.{◌≡◌, ◌+◌, ◌<◌, ◌≤◌, ℕ, Bool, zero, suc, true, false, List, [], ◌∷◌, take, map, Some, refl, ap, sym, ◌∙◌, arith}
use Rattle.std.specs.Prelude.{filter_map, ◌==◌}
use Rattle.pdata_tree.specs.Selecting.{flagged, kept_resources}
use Rattle.pdata_tree.specs.Tree.{nodes, nodes_of_resources}
use Rattle.pdata_tree.specs.declared.batch.Batch.{Batch}
use Rattle.pdata_tree.specs.declared.resource.ResourceNode.{ResourceNode}
use Rattle.pdata_tree.specs.declared.resource.ResourceTree.{ResourceTree}
use Rattle.shelf.specs.Places.{Adds, Places, count_at}
use Rattle.share_cow.specs.Levels.{Counted, list_at, shared_places, stands, sum_over, times, value}
use Rattle.share_cow.specs.Lowering.{AllAgree, Holds}
use Rattle.share_cow.specs.Owning.{Raises}
use Rattle.share_cow.specs.Store.{IsSound, Store, a_batch, as_resource, batch_level, batch_made, batch_named, built, children_of, levels, nothing, resource_level, resource_levels, root_at, scope_level, scope_levels, tree_levels}
use Rattle.share_cow.specs.Views.{tree_at}
use Rattle.share_cow.specs.declared.node.Node.{Node}
use Rattle.share_cow.proofs.Added.{add_agrees, add_counts, add_fresh, add_value, names_new, names_old, names_other}
use Rattle.share_cow.proofs.Apart.{sum_is_times}
use Rattle.share_cow.proofs.Comes.{Comes, new_stays}
use Rattle.share_cow.proofs.CopySharing.{shared_parts}
use Rattle.share_cow.proofs.Flagged.{flagged_parts, flagged_sum, flagged_times}
use Rattle.share_cow.proofs.Lists.{map_same, named_but, named_same, sum_below, sum_same, times_at, times_head}
use Rattle.share_cow.proofs.Looks.{is_resource, tree_is}
use Rattle.share_cow.proofs.Parts.{new_by}
use Rattle.share_cow.proofs.Same.{SameFrom, one_at_most, same_from, shared_all, stands_same, value_same}
use Rattle.share_cow.proofs.Share.{batch_live}
use Rattle.share_cow.proofs.Sizes.{resource_places}
use Rattle.share_cow.proofs.Slots.{names_same}
use Rattle.share_cow.proofs.Table.{root_list}

module _ (s : Store) (root batch new : ℕ) (sound : IsSound s) (is : root_at s root ≡ Some batch) (flags : List Bool) (b : Places (Node Unit)) (r : Places (Node ResourceNode))
    (add : Adds s.batches b new (record { content = tt; children = flagged flags (list_at (map children_of s.batches.slots) batch) }))
    (raised : Raises (flagged flags (list_at (map children_of s.batches.slots) batch)) s.resources r) where
  abbrev all : List ℕ
  all = list_at (map children_of s.batches.slots) batch

  abbrev kids : List ℕ
  kids = flagged flags all

  abbrev tree : Batch
  tree = kept_resources flags (tree_at (tree_levels s) batch)

  resource_names : (p : ℕ) → list_at (map children_of r.slots) p ≡ list_at (map children_of s.resources.slots) p
  resource_names p = names_same s.resources r p (raised.items p)

  batches_counted : Counted (batch_level b) (resource_level r)
  batches_counted p =
      omega (
        arith,
        named_but p (map children_of s.batches.slots) (map children_of b.slots) new (names_other batch_made s.batches b new _ add),
        ap (times p) (names_old batch_made s.batches b new _ add),
        ap (times p) (names_new batch_made s.batches b new _ add),
        raised.counts p,
        sound.counts.1.0 p,
      )

  resources_counted : Counted (resource_level r) (scope_level s.scopes)
  resources_counted p = sound.counts.1.1.0 p ∙ sym (named_same p (map children_of s.resources.slots) (map children_of r.slots) resource_names)

  lower_agree : AllAgree (resource_levels s.resources s.scopes s.logs) (resource_levels s.resources s.scopes s.logs) (resource_levels r s.scopes s.logs)
  lower_agree = (
    record {
      children = λ p h. resource_names p;
      builds = λ p h. ap (built _) (raised.items p);
      counted = λ p h. refl;
    },
    (
      record { children = λ p h. refl; builds = λ p h. refl; counted = λ p h. refl },
      (record { children = λ p h. refl; builds = λ p h. refl; counted = λ p h. refl }, tt),
    ),
  )

  lower_same : (p : ℕ) → 0 < count_at s.resources p → SameFrom (resource_levels s.resources s.scopes s.logs) (resource_levels r s.scopes s.logs) p
  lower_same p live = same_from (resource_level s.resources) (scope_levels s.scopes s.logs) (resource_levels s.resources s.scopes s.logs) (resource_levels r s.scopes s.logs) sound.counts.1.1
      lower_agree p live

  held : Holds all (resource_level s.resources)
  held q = omega (arith, sound.counts.1.0 q, times_at q (map children_of s.batches.slots) batch)

  kid_live : (q : ℕ) → 0 < times q kids → 0 < count_at s.resources q
  kid_live q h = omega (arith, h, flagged_times q flags all, held q)

  -- the tree
  whole_resources : filter_map as_resource (map (value nothing (resource_levels r s.scopes s.logs)) kids) ≡ tree.resources
  whole_resources =
      ap (filter_map as_resource) (map_same (value nothing (resource_levels r s.scopes s.logs)) (value nothing (resource_levels s.resources s.scopes s.logs)) kids
      (λ q h. value_same nothing (resource_levels s.resources s.scopes s.logs) (resource_levels r s.scopes s.logs) q (lower_same q (kid_live q h))))
      ∙ flagged_parts as_resource (value nothing (resource_levels s.resources s.scopes s.logs)) flags all (is_resource s.resources s.scopes s.logs sound.counts.1.1.0 sound.counts.1.1.1.0 all held)
      ∙ sym (ap (λ (t : Batch). flagged flags t.resources) (tree_is s.batches (resource_levels s.resources s.scopes s.logs) batch (batch_live s root batch sound is)))

  whole_value : value nothing (batch_level b ∷ resource_levels r s.scopes s.logs) new ≡ a_batch tree
  whole_value =
      add_value batch_made s.batches b new _ add (resource_levels r s.scopes s.logs)
      ∙ ap (λ (rs : List ResourceTree). a_batch (record { resources = rs })) whole_resources

  -- no node stands twice in it
  lower_stands : (depth q p : ℕ) → 0 < count_at s.resources p → stands (take depth (resource_levels r s.scopes s.logs)) q p ≡ stands (take depth (resource_levels s.resources s.scopes s.logs)) q p
  lower_stands depth q p live = stands_same (resource_levels s.resources s.scopes s.logs) (resource_levels r s.scopes s.logs) p (lower_same p live) depth q

  whole_apart : (depth q : ℕ) → depth < 4 → stands (take depth (batch_level b ∷ resource_levels r s.scopes s.logs)) q new ≤ 1
  whole_apart zero q h = one_at_most (new == q)
  whole_apart (suc depth) q h =
      omega (
        arith,
        ap (sum_over (stands (take depth (resource_levels r s.scopes s.logs)) q)) (names_new batch_made s.batches b new _ add),
        sum_same (stands (take depth (resource_levels r s.scopes s.logs)) q) (stands (take depth (resource_levels s.resources s.scopes s.logs)) q) kids (λ p live. lower_stands depth q p (kid_live p live)),
        flagged_sum (stands (take depth (resource_levels s.resources s.scopes s.logs)) q) flags all,
        ap (sum_over (stands (take (suc depth) (tree_levels s)) q)) (root_list s.roots root ∙ ap batch_named is),
        sound.apart root (suc (suc depth)) q (omega (arith, h)),
      )

  -- a resource stands in the root's tree as often as its payload names it
  resource_below : (q : ℕ) → stands (take 2 (levels s)) q root ≡ times q all
  resource_below q = omega (arith, ap (sum_over (stands (take 1 (tree_levels s)) q)) (root_list s.roots root ∙ ap batch_named is), sum_is_times q all)

  new_count : count_at b new ≡ 1
  new_count = add_fresh s.batches b new _ add new (omega (arith, times_head new []))

  whole_own : shared_places false (batch_level b ∷ resource_levels r s.scopes s.logs) new + 1 ≤ nodes tree
  whole_own =
      omega (
        arith,
        shared_parts (batch_level b) (resource_levels r s.scopes s.logs) new (omega (arith, new_count)),
        ap (sum_over (shared_places false (resource_levels r s.scopes s.logs))) (names_new batch_made s.batches b new _ add),
        sum_below (shared_places false (resource_levels r s.scopes s.logs)) (shared_places true (resource_levels r s.scopes s.logs)) kids (λ q h. shared_all false (resource_levels r s.scopes s.logs) q),
        resource_places s.scopes s.logs sound.counts.1.1.1.0 r resources_counted kids (λ q. omega (arith, raised.counts q)),
        ap nodes_of_resources whole_resources,
      )

  pub whole_comes : Comes s root new tree 1 b r s.scopes s.logs
  whole_comes = record {
    counts = add_counts s.batches b new _ add;
    agree = (add_agrees batch_made s.batches b new _ add, lower_agree);
    counted = (batches_counted, (resources_counted, sound.counts.1.1.1));
    value = whole_value;
    touched = (
      λ p h. new_stays (batch_level s.batches) (batch_level b) p _ (new_by (new ∷ []) (batch_level s.batches) (batch_level b) (add_counts s.batches b new _ add) (add_fresh s.batches b new _ add) p) h,
      (λ p h. omega (arith, raised.counts p, flagged_times p flags all, resource_below p), (λ p h. omega arith, (λ p h. omega arith, tt))),
    );
    apart = whole_apart;
    own = whole_own;
  }
