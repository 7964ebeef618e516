-- A root more for new nodes, and all roots where none came.
use Rattle.std.proofs.Common.{◌≡◌, ◌+◌, ◌<◌, ◌≤◌, ℕ, false, List, [], ◌∷◌, length, map, take, Option, refl, ap, sym, ◌∙◌, arith, inl, inr}
use Rattle.pdata_tree.specs.Tree.{nodes, nodes_of_resources, nodes_of_scopes, records_of_resources, records_of_scopes}
use Rattle.pdata_tree.specs.declared.resource.ResourceTree.{ResourceTree}
use Rattle.pdata_tree.specs.declared.scope.ScopeTree.{ScopeTree}
use Rattle.pdata_tree.specs.declared.batch.Batch.{Batch}
use Rattle.pdata_tree.specs.declared.record.LogRecord.{LogRecord}
use Rattle.pdata_tree.specs.declared.resource.ResourceNode.{ResourceNode}
use Rattle.pdata_tree.specs.declared.scope.ScopeNode.{ScopeNode}
use Rattle.shelf.specs.Places.{Places, count_at}
use Rattle.share_cow.specs.Kept.{AllStay, SameTree}
use Rattle.share_cow.specs.Levels.{AllCounted, Level, named, shared_places, stands, sum_over, times}
use Rattle.share_cow.specs.Lowering.{AllAgree}
use Rattle.share_cow.specs.Planting.{AllMore, AllSame, Grows, Restores, scopes_of_resources}
use Rattle.share_cow.specs.Store.{IsKept, IsSound, Part, Store, a_batch, batch_level, batch_made, batch_named, first_part, log_level, log_made, made, resource_level, resource_levels, resource_made, root_at, scope_level, scope_made, shared, tree_levels}
use Rattle.share_cow.specs.declared.node.Node.{Node}
use Rattle.share_cow.proofs.Added.{newer}
use Rattle.share_cow.proofs.Comes.{Comes, new_stays}
use Rattle.share_cow.proofs.Apart.{new_apart}
use Rattle.share_cow.proofs.Growing.{New, tidy_level}
use Rattle.share_cow.proofs.Lists.{sum_below, times_at, times_head}
use Rattle.share_cow.proofs.Same.{FewerFrom, SameFrom, same_from, shared_fewer}
use Rattle.share_cow.proofs.Table.{apart_same, den_same, live_root}
use Rattle.share_cow.proofs.Unshared.{new_unshared}

still_few : (l m : Level Part) (p : ℕ) → New l m p → 0 < l.count p → m.count p ≤ l.count p
still_few l m p (inl e) live = omega (arith, e)
still_few l m p (inr e) live = absurd (omega (arith, e.0, live))

fewer_new : (l m : Level Part) (ls ms : List (Level Part)) → AllCounted (l ∷ ls) → AllMore (l ∷ ls) (m ∷ ms) → (p : ℕ) → 0 < l.count p → FewerFrom (l ∷ ls) (m ∷ ms) p
fewer_new l m [] [] counted more p live = (still_few l m p (more.0 p) live, λ q h. tt)
fewer_new l m [] (m2 ∷ ms) counted more p live = absurd more.1
fewer_new l m (l2 ∷ ls) [] counted more p live = absurd more.1
fewer_new l m (l2 ∷ ls) (m2 ∷ ms) counted more p live =
    (still_few l m p (more.0 p) live, λ q h. fewer_new l2 m2 ls ms counted.1 more.1 q (omega (arith, h, counted.0 q, times_at q l.children p)))

more_same : (ls ms : List (Level Part)) → AllSame ls ms → AllMore ls ms
more_same [] [] same = tt
more_same [] (m ∷ ms) same = absurd same
more_same (l ∷ ls) [] same = absurd same
more_same (l ∷ ls) (m ∷ ms) same = (λ p. inl (same.0 p), more_same ls ms same.1)

-- Two stores whose nodes that counted are as they were.
module _ (s s2 : Store) (sound : IsSound s) (agree : AllAgree (tree_levels s) (tree_levels s) (tree_levels s2)) (more : AllMore (tree_levels s) (tree_levels s2)) where
  pub same_at : (r b : ℕ) → 0 < times b (batch_named (root_at s r)) → SameFrom (tree_levels s) (tree_levels s2) b
  same_at r b h = same_from (batch_level s.batches) (resource_level s.resources ∷ scope_level s.scopes ∷ log_level s.logs ∷ [])
      (tree_levels s) (tree_levels s2) sound.counts.1 agree b (live_root s sound r b h)

  pub same_tree : (r : ℕ) → root_at s2 r ≡ root_at s r → SameTree s s2 r
  same_tree r e = record { tree = den_same s s2 r r e (same_at r); live = rw e (λ h. h, λ h. h) }

  pub same_shared : (r : ℕ) → root_at s2 r ≡ root_at s r → shared s2 r ≤ shared s r
  same_shared r e =
      omega (
        arith,
        ap (λ (o : Option ℕ). sum_over (shared_places false (tree_levels s2)) (batch_named o)) e,
        sum_below (shared_places false (tree_levels s2)) (shared_places false (tree_levels s)) (batch_named (root_at s r))
            (λ b h. shared_fewer false false (tree_levels s) (tree_levels s2) b (omega arith) (same_at r b h)
            (fewer_new (batch_level s.batches) (batch_level s2.batches) (resource_level s.resources ∷ scope_level s.scopes ∷ log_level s.logs ∷ [])
            (resource_level s2.resources ∷ scope_level s2.scopes ∷ log_level s2.logs ∷ []) sound.counts.1 more b (live_root s sound r b h))),
      )

-- where memory ran out
module _ (s s2 : Store) (sound : IsSound s) (roots : s2.roots ≡ s.roots) (most : s2.most ≡ s.most) (r : Restores (tree_levels s) (tree_levels s2)) where
  root_same : (root : ℕ) → root_at s2 root ≡ root_at s root
  root_same root = rw roots refl

  pub stays : made s ≤ made s2 → AllStay s s2
  stays less = record {
    trees = λ root. same_tree s s2 sound r.agree (more_same (tree_levels s) (tree_levels s2) r.counts) root (root_same root);
    shared = λ root. same_shared s s2 sound r.agree (more_same (tree_levels s) (tree_levels s2) r.counts) root (root_same root);
    spare = rw (roots, most) refl;
    made = less;
  }

  pub still_sound : IsKept s2.batches → IsKept s2.resources → IsKept s2.scopes → IsKept s2.logs → IsSound s2
  still_sound batches resources scopes logs = record {
    counts = (λ p. r.counts.0 p ∙ sound.counts.0 p ∙ ap (λ (rs : List (Option ℕ)). named p (map batch_named rs)) (sym roots), r.counted);
    apart = λ root. apart_same s s2 root root (root_same root) (same_at s s2 sound r.agree (more_same (tree_levels s) (tree_levels s2) r.counts) root) (sound.apart root);
    batches = batches;
    resources = resources;
    scopes = scopes;
    logs = logs;
    roots = rw (roots, most) sound.roots;
    most = rw most sound.most;
  }

-- a planted payload comes beside those that roots name, and shares nothing
module _ (s : Store) (root place : ℕ) (tree : Batch) (sound : IsSound s) (b : Places (Node Unit)) (r : Places (Node ResourceNode)) (c : Places (Node ScopeNode)) (l : Places (Node LogRecord))
    (g : Grows (place ∷ []) (a_batch tree ∷ []) (batch_level s.batches) (batch_level b) (resource_levels s.resources s.scopes s.logs) (resource_levels r c l)) where
  all_more : AllMore (tree_levels s) (batch_level b ∷ resource_levels r c l)
  all_more = (
    newer (place ∷ []) (a_batch tree ∷ []) (batch_level s.batches) (batch_level b) (resource_levels s.resources s.scopes s.logs) (resource_levels r c l) g,
    g.more,
  )

  was_new : count_at s.batches place ≡ 0
  was_new = omega (arith, g.counts place, g.fresh place (omega (arith, times_head place [])), times_head place [])

  plant_unshared : shared_places false (batch_level b ∷ resource_levels r c l) place ≡ 0
  plant_unshared =
      new_unshared (batch_level s.batches) (batch_level b) (resource_levels s.resources s.scopes s.logs) (resource_levels r c l) sound.counts.1 g.counted g.agree (
        tidy_level batch_made s.batches sound.batches,
        (
          tidy_level resource_made s.resources sound.resources,
          (
            tidy_level scope_made s.scopes sound.scopes,
            (tidy_level log_made s.logs sound.logs, tt),
          ),
        ),
      ) all_more place was_new

  plant_apart : (depth q : ℕ) → depth < 4 → stands (take depth (batch_level b ∷ resource_levels r c l)) q place ≤ 1
  plant_apart =
      new_apart (batch_level s.batches) (resource_level s.resources) (scope_level s.scopes) (log_level s.logs) (batch_level b) (resource_level r) (scope_level c) (log_level l)
      sound.counts.1.0 sound.counts.1.1.0 sound.counts.1.1.1.0 g.counted.0 g.counted.1.0 g.counted.1.1.0 g.agree.0 g.agree.1.0 g.agree.1.1.0
      (tidy_level batch_made s.batches sound.batches) (tidy_level resource_made s.resources sound.resources) (tidy_level scope_made s.scopes sound.scopes)
      g.more.0 g.more.1.0 g.more.1.1.0 place was_new

  pub plant_comes : Comes s root place tree (nodes tree) b r c l
  plant_comes = record {
    counts = g.counts;
    agree = g.agree;
    counted = g.counted;
    value = ap first_part g.values;
    touched = (
      λ p h. new_stays (batch_level s.batches) (batch_level b) p _ (all_more.0 p) h,
      (
        λ p h. new_stays (resource_level s.resources) (resource_level r) p _ (g.more.0 p) h,
        (
          λ p h. new_stays (scope_level s.scopes) (scope_level c) p _ (g.more.1.0 p) h,
          (λ p h. new_stays (log_level s.logs) (log_level l) p _ (g.more.1.1.0 p) h, tt),
        ),
      ),
    );
    apart = plant_apart;
    own = omega (arith, plant_unshared);
  }

scope_nodes : (ss : List ScopeTree) → nodes_of_scopes ss ≡ length ss + records_of_scopes ss
scope_nodes [] = omega arith
scope_nodes (s ∷ ss) = omega (arith, scope_nodes ss)

-- nodes level by level
pub resource_nodes : (rs : List ResourceTree) → nodes_of_resources rs ≡ length rs + scopes_of_resources rs + records_of_resources rs
resource_nodes [] = omega arith
resource_nodes (r ∷ rs) = omega (arith, resource_nodes rs, scope_nodes r.scopes)
