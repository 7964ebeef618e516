-- What the lists of a tree's nodes say of the tree.
use Rattle.std.proofs.Common.{◌≡◌, ◌<◌, ◌^◌, ℕ, List, ◌∷◌, Some, refl, length, get_or, map, ap, sym, ◌∙◌, arith}
use Rattle.std.specs.Prelude.{filter_map, slice_get}
use Rattle.pdata_tree.specs.Tree.{IsCountable, records, records_of_resources}
use Rattle.pdata_tree.specs.declared.batch.Batch.{Batch}
use Rattle.pdata_tree.specs.declared.record.LogRecord.{LogRecord}
use Rattle.pdata_tree.specs.declared.resource.ResourceNode.{ResourceNode}
use Rattle.pdata_tree.specs.declared.resource.ResourceTree.{ResourceTree}
use Rattle.pdata_tree.specs.declared.scope.ScopeNode.{ScopeNode}
use Rattle.pdata_tree.specs.declared.scope.ScopeTree.{ScopeTree}
use Rattle.shelf.specs.Places.{Places, count_at, item_at}
use Rattle.share_cow.specs.Levels.{AllCounted, Level, list_at, value}
use Rattle.share_cow.specs.Lowering.{Holds}
use Rattle.share_cow.specs.Store.{IsSound, Part, Store, as_batch, as_resource, as_scope, batch_level, batch_made, batch_named, children_of, den, first_part, nothing, resource_level, resource_levels, root_at, scope_level, scope_levels, tree_levels}
use Rattle.share_cow.specs.Views.{batch_or_empty, grandchildren_in, logs_in, logs_or_none, scopes_in, scopes_or_none, tree_at}
use Rattle.share_cow.specs.declared.node.Node.{Node}
use Rattle.share_cow.proofs.Lists.{entry_times, times_at}
use Rattle.share_cow.proofs.Looks.{all_records_counted, all_records_few, found_value, live_value, in_resources, logs_counted, logs_within, named_scopes, resources_few, resources_length, scopes_few, scopes_found, scopes_length, scopes_within, tree_is}
use Rattle.share_cow.proofs.Share.{batch_live}
use Rattle.share_cow.proofs.Table.{root_list}

module _ (batches : Places (Node Unit)) (resources : Places (Node ResourceNode)) (scopes : Places (Node ScopeNode)) (logs : Places (Node LogRecord)) (b : ℕ)
    (live : 0 < count_at batches b) (counted : AllCounted (batch_level batches ∷ resource_levels resources scopes logs)) where
  abbrev pub tree : Batch
  tree = tree_at (batch_level batches ∷ resource_levels resources scopes logs) b

  pub resources_are : tree.resources ≡ filter_map as_resource (map (value nothing (resource_levels resources scopes logs)) (list_at (map children_of batches.slots) b))
  resources_are = ap (λ (t : Batch). t.resources) (tree_is batches (resource_levels resources scopes logs) b live)

  pub resources_live : Holds (list_at (map children_of batches.slots) b) (resource_level resources)
  resources_live q = omega (arith, counted.0 q, times_at q (map children_of batches.slots) b)

  pub resources_count : length (list_at (map children_of batches.slots) b) ≡ length tree.resources
  resources_count = sym (ap length resources_are ∙ resources_length resources scopes logs counted.1.0 counted.1.1.0 (list_at (map children_of batches.slots) b) resources_live)

  pub resources_fit : IsCountable tree → length (list_at (map children_of batches.slots) b) < 2 ^ 32
  resources_fit few = omega (arith, few, resources_count, resources_few tree.resources)

  pub records_count : grandchildren_in resources scopes (list_at (map children_of batches.slots) b) ≡ records tree
  records_count = sym (ap records_of_resources resources_are ∙ all_records_counted resources scopes logs counted.1.0 counted.1.1.0 (list_at (map children_of batches.slots) b) resources_live)

  pub records_fit : IsCountable tree → grandchildren_in resources scopes (list_at (map children_of batches.slots) b) < 2 ^ 32
  records_fit few = omega (arith, few, records_count, all_records_few tree.resources)

  -- one resource
  module _ (i : ℕ) (there : i < length tree.resources) where
    pub resource_within : i < length (list_at (map children_of batches.slots) b)
    resource_within = omega (arith, there, resources_count)

    pub resource_live : 0 < count_at resources (get_or (list_at (map children_of batches.slots) b) i 0)
    resource_live = omega (arith, resources_live (get_or (list_at (map children_of batches.slots) b) i 0), entry_times (list_at (map children_of batches.slots) b) i resource_within)

    pub scopes_are : scopes_in tree i ≡ filter_map as_scope (map (value nothing (scope_levels scopes logs)) (list_at (map children_of resources.slots) (get_or (list_at (map children_of batches.slots) b) i 0)))
    scopes_are = ap (λ (rs : List ResourceTree). scopes_or_none (slice_get rs i)) resources_are
        ∙ scopes_found resources scopes logs counted.1.0 counted.1.1.0 (list_at (map children_of batches.slots) b) resources_live i resource_within

    pub scopes_live : Holds (list_at (map children_of resources.slots) (get_or (list_at (map children_of batches.slots) b) i 0)) (scope_level scopes)
    scopes_live = named_scopes resources scopes logs counted.1.0 counted.1.1.0 (get_or (list_at (map children_of batches.slots) b) i 0)

    pub scopes_count : length (list_at (map children_of resources.slots) (get_or (list_at (map children_of batches.slots) b) i 0)) ≡ length (scopes_in tree i)
    scopes_count = sym (ap length scopes_are ∙ scopes_length scopes logs counted.1.1.0 (list_at (map children_of resources.slots) (get_or (list_at (map children_of batches.slots) b) i 0)) scopes_live)

    pub scopes_fit : IsCountable tree → length (list_at (map children_of resources.slots) (get_or (list_at (map children_of batches.slots) b) i 0)) < 2 ^ 32
    scopes_fit few = omega (arith, few, scopes_count, scopes_few (scopes_in tree i), scopes_within tree.resources i)

    -- one of its scopes
    module _ (j : ℕ) (inside : j < length (scopes_in tree i)) where
      pub scope_within : j < length (list_at (map children_of resources.slots) (get_or (list_at (map children_of batches.slots) b) i 0))
      scope_within = omega (arith, inside, scopes_count)

      pub scope_live : 0 < count_at scopes (get_or (list_at (map children_of resources.slots) (get_or (list_at (map children_of batches.slots) b) i 0)) j 0)
      scope_live =
          omega (
            arith,
            scopes_live (get_or (list_at (map children_of resources.slots) (get_or (list_at (map children_of batches.slots) b) i 0)) j 0),
            entry_times (list_at (map children_of resources.slots) (get_or (list_at (map children_of batches.slots) b) i 0)) j scope_within,
          )

      pub logs_count : length (list_at (map children_of scopes.slots) (get_or (list_at (map children_of resources.slots) (get_or (list_at (map children_of batches.slots) b) i 0)) j 0)) ≡ length (logs_in tree i j)
      logs_count = sym (ap (λ (ss : List ScopeTree). length (logs_or_none (slice_get ss j))) scopes_are
          ∙ logs_counted scopes logs counted.1.1.0 (list_at (map children_of resources.slots) (get_or (list_at (map children_of batches.slots) b) i 0)) scopes_live j scope_within)

      pub logs_fit : IsCountable tree → length (list_at (map children_of scopes.slots) (get_or (list_at (map children_of resources.slots) (get_or (list_at (map children_of batches.slots) b) i 0)) j 0)) < 2 ^ 32
      logs_fit few = omega (arith, few, logs_count, logs_within (scopes_in tree i) j, scopes_within tree.resources i)

-- the tree of a batch that was found
pub tree_found : (batches : Places (Node Unit)) (below : List (Level Part)) (b : ℕ) (node : Node Unit) → item_at batches b ≡ Some node
    → tree_at (batch_level batches ∷ below) b ≡ record { resources = filter_map as_resource (map (value nothing below) node.children) }
tree_found batches below b node is = ap (λ (part : Part). batch_or_empty (as_batch part)) (found_value batch_made batches below b node is)

-- a live root stands for what its batch does
pub root_tree : (s : Store) (root batch : ℕ) → IsSound s → root_at s root ≡ Some batch → den s root ≡ Some (tree_at (tree_levels s) batch)
root_tree s root batch sound is =
    let there : as_batch (value nothing (tree_levels s) batch) ≡ Some (tree_at (tree_levels s) batch) =
    rw (live_value batch_made s.batches (resource_levels s.resources s.scopes s.logs) batch (batch_live s root batch sound is)) refl in
    ap (λ (qs : List ℕ). as_batch (first_part (map (value nothing (tree_levels s)) qs))) (root_list s.roots root ∙ ap batch_named is) ∙ there

pub resource_inside : (t : Batch) (i j : ℕ) → j < length (scopes_in t i) → i < length t.resources
resource_inside t i j h = in_resources t.resources i (omega (arith, h))
