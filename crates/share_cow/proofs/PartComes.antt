-- A part of a payload comes beside those that roots name: its records are shared with one root's tree.
use Rattle.std.proofs.Common.{◌≡◌, ◌+◌, ◌<◌, ◌≤◌, ℕ, false, true, List, [], ◌∷◌, length, map, take, Some, ap, sym, ◌∙◌, arith, inl, inr}
use Rattle.std.specs.Prelude.{filter_map}
use Rattle.pdata_tree.specs.Tree.{nodes, nodes_of_resources, nodes_of_scopes, records, records_of_resources, records_of_scopes, spine, spine_of_resources}
use Rattle.pdata_tree.specs.declared.batch.Batch.{Batch}
use Rattle.pdata_tree.specs.declared.record.LogRecord.{LogRecord}
use Rattle.pdata_tree.specs.declared.resource.ResourceNode.{ResourceNode}
use Rattle.pdata_tree.specs.declared.resource.ResourceTree.{ResourceTree}
use Rattle.pdata_tree.specs.declared.scope.ScopeNode.{ScopeNode}
use Rattle.pdata_tree.specs.declared.scope.ScopeTree.{ScopeTree}
use Rattle.shelf.specs.Places.{Places, count_at}
use Rattle.share_cow.specs.Levels.{Level, list_at, shared_places, stands, sum_over, times, value}
use Rattle.share_cow.specs.Parting.{Parts, below_batch}
use Rattle.share_cow.specs.Planting.{scopes_of_resources}
use Rattle.share_cow.specs.Store.{IsSound, Part, Store, a_batch, as_batch, as_resource, batch_level, batch_made, batch_named, children_of, first_part, levels, log_level, nothing, resource_level, resource_levels, resource_made, root_at, scope_level, scope_made}
use Rattle.share_cow.specs.Views.{batch_or_empty, children_in, grandchildren_in}
use Rattle.share_cow.specs.declared.node.Node.{Node}
use Rattle.share_cow.proofs.Apart.{new_children, parts_apart}
use Rattle.share_cow.proofs.Comes.{Comes, new_stays}
use Rattle.share_cow.proofs.CopySharing.{shared_parts}
use Rattle.share_cow.proofs.Growing.{New, tidy_level}
use Rattle.share_cow.proofs.Lists.{sum_below, times_at, times_head}
use Rattle.share_cow.proofs.Looks.{all_records_counted, tree_is}
use Rattle.share_cow.proofs.Parts.{new_by}
use Rattle.share_cow.proofs.Same.{shared_all}
use Rattle.share_cow.proofs.Sizes.{log_places}
use Rattle.share_cow.proofs.Table.{root_list}

scopes_nodes : (ss : List ScopeTree) → nodes_of_scopes ss ≡ records_of_scopes ss + length ss
scopes_nodes [] = omega arith
scopes_nodes (s ∷ ss) = omega (arith, scopes_nodes ss)

resources_nodes : (rs : List ResourceTree) → nodes_of_resources rs ≡ records_of_resources rs + spine_of_resources rs
resources_nodes [] = omega arith
resources_nodes (r ∷ rs) = omega (arith, resources_nodes rs, scopes_nodes r.scopes)

-- the spine, level by level
pub spine_is : (rs : List ResourceTree) → spine_of_resources rs ≡ length rs + scopes_of_resources rs
spine_is [] = omega arith
spine_is (r ∷ rs) = omega (arith, spine_is rs)

new_few : (l m : Level Part) (p : ℕ) → New l m p → l.count p ≡ 0 → m.count p ≤ 1
new_few l m p (inl e) new = omega (arith, e, new)
new_few l m p (inr e) new = omega (arith, e.1)

module _ (s : Store) (root batch place : ℕ) (tree : Batch) (sound : IsSound s) (is : root_at s root ≡ Some batch) (b : Places (Node Unit)) (r : Places (Node ResourceNode)) (c : Places (Node ScopeNode)) (l : Places (Node LogRecord))
    (a : Parts (below_batch s.batches s.resources s.scopes batch) (place ∷ []) (a_batch tree ∷ []) (batch_level s.batches) (batch_level b)
    (resource_level s.resources ∷ scope_level s.scopes ∷ []) (resource_level r ∷ scope_level c ∷ []) (log_level s.logs) (log_level l)) where
  was_new : count_at s.batches place ≡ 0
  was_new = omega (arith, a.counts place, a.fresh place (omega (arith, times_head place [])), times_head place [])

  batch_new : (p : ℕ) → New (batch_level s.batches) (batch_level b) p
  batch_new = new_by (place ∷ []) (batch_level s.batches) (batch_level b) a.counts a.fresh

  -- a log record stands in the root's tree as often as below its payload
  log_below : (q : ℕ) → stands (take 4 (levels s)) q root ≡ below_batch s.batches s.resources s.scopes batch q
  log_below q = omega (arith, ap (sum_over (λ p. below_batch s.batches s.resources s.scopes p q)) (root_list s.roots root ∙ ap batch_named is))

  once : (q : ℕ) → below_batch s.batches s.resources s.scopes batch q ≤ 1
  once q = omega (arith, log_below q, sound.apart root 4 q (omega arith))

  part_apart : (depth q : ℕ) → depth < 4 → stands (take depth (batch_level b ∷ resource_levels r c l)) q place ≤ 1
  part_apart =
      parts_apart (batch_level s.batches) (resource_level s.resources) (scope_level s.scopes) (log_level s.logs) (batch_level b) (resource_level r) (scope_level c) (log_level l)
      sound.counts.1.0 sound.counts.1.1.0 sound.counts.1.1.1.0 a.counted.0 a.counted.1.0 a.counted.1.1.0 a.agree.0 a.agree.1.0 a.agree.1.1.0
      (tidy_level batch_made s.batches sound.batches) (tidy_level resource_made s.resources sound.resources) (tidy_level scope_made s.scopes sound.scopes)
      a.more.0 a.more.1.0 place was_new (λ q. omega (arith, a.rose q, once q))

  -- its nodes are new, but for its log records
  new_resource : (q : ℕ) → 0 < times q (list_at (map children_of b.slots) place) → count_at s.resources q ≡ 0
  new_resource q h =
      new_children (batch_level s.batches) (batch_level b) (resource_level s.resources) (resource_level r) sound.counts.1.0 a.counted.0 a.agree.0
      (tidy_level batch_made s.batches sound.batches) a.more.0 place q was_new h

  new_scope : (p q : ℕ) → count_at s.resources p ≡ 0 → 0 < times q (list_at (map children_of r.slots) p) → count_at s.scopes q ≡ 0
  new_scope p q none h =
      new_children (resource_level s.resources) (resource_level r) (scope_level s.scopes) (scope_level c) sound.counts.1.1.0 a.counted.1.0 a.agree.1.0
      (tidy_level resource_made s.resources sound.resources) a.more.1.0 p q none h

  scope_shares : (q : ℕ) → count_at s.scopes q ≡ 0 → shared_places false (scope_level c ∷ log_level l ∷ []) q ≤ length (list_at (map children_of c.slots) q)
  scope_shares q none =
      omega (
        arith,
        shared_parts (scope_level c) (log_level l ∷ []) q (new_few (scope_level s.scopes) (scope_level c) q (a.more.1.0 q) none),
        sum_below (shared_places false (log_level l ∷ [])) (shared_places true (log_level l ∷ [])) (list_at (map children_of c.slots) q) (λ p h. shared_all false (log_level l ∷ []) p),
        log_places l (list_at (map children_of c.slots) q),
      )

  resource_shares : (q : ℕ) → count_at s.resources q ≡ 0 → shared_places false (resource_levels r c l) q ≤ children_in c (list_at (map children_of r.slots) q)
  resource_shares q none =
      omega (
        arith,
        shared_parts (resource_level r) (scope_level c ∷ log_level l ∷ []) q (new_few (resource_level s.resources) (resource_level r) q (a.more.0 q) none),
        sum_below (shared_places false (scope_level c ∷ log_level l ∷ [])) (λ p. length (list_at (map children_of c.slots) p)) (list_at (map children_of r.slots) q) (λ p h. scope_shares p (new_scope q p none h)),
      )

  batch_shares : shared_places false (batch_level b ∷ resource_levels r c l) place ≤ grandchildren_in r c (list_at (map children_of b.slots) place)
  batch_shares =
      omega (
        arith,
        shared_parts (batch_level b) (resource_levels r c l) place (omega (arith, a.fresh place (omega (arith, times_head place [])))),
        sum_below (shared_places false (resource_levels r c l)) (λ p. children_in c (list_at (map children_of r.slots) p)) (list_at (map children_of b.slots) place) (λ p h. resource_shares p (new_resource p h)),
      )

  -- which are as many as its tree has
  part_value : value nothing (batch_level b ∷ resource_levels r c l) place ≡ a_batch tree
  part_value = ap first_part a.values

  part_tree : tree ≡ record { resources = filter_map as_resource (map (value nothing (resource_levels r c l)) (list_at (map children_of b.slots) place)) }
  part_tree =
      sym (ap (λ (x : Part). batch_or_empty (as_batch x)) part_value)
      ∙ tree_is b (resource_levels r c l) place (omega (arith, a.fresh place (omega (arith, times_head place []))))

  part_own : shared_places false (batch_level b ∷ resource_levels r c l) place + spine tree ≤ nodes tree
  part_own =
      let many = all_records_counted r c l a.counted.1.0 a.counted.1.1.0 (list_at (map children_of b.slots) place) (λ q. omega (arith, a.counted.0 q, times_at q (map children_of b.slots) place)) in
      omega (arith, batch_shares, many, ap records part_tree, resources_nodes tree.resources)

  pub part_comes : Comes s root place tree (spine tree) b r c l
  part_comes = record {
    counts = a.counts;
    agree = a.agree;
    counted = a.counted;
    value = part_value;
    touched = (
      λ p h. new_stays (batch_level s.batches) (batch_level b) p _ (batch_new p) h,
      (
        λ p h. new_stays (resource_level s.resources) (resource_level r) p _ (a.more.0 p) h,
        (
          λ p h. new_stays (scope_level s.scopes) (scope_level c) p _ (a.more.1.0 p) h,
          (λ p h. omega (arith, a.rose p, log_below p), tt),
        ),
      ),
    );
    apart = part_apart;
    own = part_own;
  }
