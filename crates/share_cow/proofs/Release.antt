-- A root less for a batch.
use Rattle.std.proofs.Common.{◌≡◌, ◌≢◌, ◌<◌, ◌≤◌, ◌^◌, ℕ, zero, suc, false, [], ◌∷◌, map, take, Option, Some, None, ap, sym, ◌∙◌, subst, arith, inl, inr}
use Rattle.std.specs.Prelude.{count_by, is_some, ◌==◌}
use Rattle.std.proofs.lemmas.Bool.Decides.{eqb_tells}
use Rattle.shelf.specs.Places.{count_at}
use Rattle.share_cow.specs.Kept.{OthersStay}
use Rattle.share_cow.specs.Levels.{Counted, IsApart, shared_places, stands, sum_over, times}
use Rattle.share_cow.specs.Lowering.{Lowers}
use Rattle.share_cow.specs.Store.{IsKept, IsSound, Store, batch_level, batch_named, levels, log_level, resource_level, root_at, root_level, scope_level, tree_levels}
use Rattle.share_cow.proofs.Lists.{named_but, sum_below, times_at}
use Rattle.share_cow.proofs.Same.{SameFrom, one_at_most, same_from, shared_less}
use Rattle.share_cow.proofs.Table.{apart_same, den_same, root_list}

module _ (s s2 : Store) (root batch : ℕ) (counts : Counted (root_level s.roots) (batch_level s.batches)) (apart : (r : ℕ) → IsApart (levels s) r) (is : root_at s root ≡ Some batch) (gone : root_at s2 root ≡ None)
    (others : (other : ℕ) → other ≢ root → root_at s2 other ≡ root_at s other)
    (low : Lowers (batch ∷ []) (batch_level s.batches) (batch_level s2.batches)
    (resource_level s.resources ∷ scope_level s.scopes ∷ log_level s.logs ∷ [])
    (resource_level s2.resources ∷ scope_level s2.scopes ∷ log_level s2.logs ∷ [])) where
  roots_counted : Counted (root_level s2.roots) (batch_level s2.batches)
  roots_counted p =
      omega (
        arith,
        named_but p (map batch_named s.roots) (map batch_named s2.roots) root
            (λ j d. root_list s2.roots j ∙ ap batch_named (others j d) ∙ sym (root_list s.roots j)),
        ap (times p) (root_list s.roots root ∙ ap batch_named is),
        ap (times p) (root_list s2.roots root ∙ ap batch_named gone),
        low.counts p,
        counts p,
      )

  same : (other b : ℕ) → other ≢ root → 0 < times b (batch_named (root_at s other)) → SameFrom (tree_levels s) (tree_levels s2) b
  same other b d h =
      let live : 0 < count_at s2.batches b =
      omega (arith, h, roots_counted b, times_at b (map batch_named s2.roots) other, ap (times b) (root_list s2.roots other ∙ ap batch_named (others other d))) in
      same_from (batch_level s2.batches) (resource_level s2.resources ∷ scope_level s2.scopes ∷ log_level s2.logs ∷ [])
      (tree_levels s) (tree_levels s2) low.counted low.agree b live

  pub left_others : OthersStay root s s2
  left_others = record {
    trees = λ other d. record {
      tree = den_same s s2 other other (others other d) (λ b h. same other b d h);
      live = rw (others other d) (λ h. h, λ h. h);
    };
    shared = λ other d.
        omega (
          arith,
          ap (λ (o : Option ℕ). sum_over (shared_places false (tree_levels s2)) (batch_named o)) (others other d),
          sum_below (shared_places false (tree_levels s2)) (shared_places false (tree_levels s)) (batch_named (root_at s other))
              (λ b h. shared_less false false (tree_levels s) (tree_levels s2) b (omega arith) (same other b d h) (λ p. omega (arith, low.counts p), low.fewer)),
        );
  }

  dead_apart : IsApart (levels s2) root
  dead_apart zero q h = one_at_most (root == q)
  dead_apart (suc depth) q h = omega (arith, ap (sum_over (stands (take depth (tree_levels s2)) q)) (root_list s2.roots root ∙ ap batch_named gone))

  pub left_apart : (r : ℕ) → IsApart (levels s2) r
  left_apart r = elim (eqb_tells r root) as (λ x. IsApart (levels s2) r) [
    | inl t ↦ subst (λ (k : ℕ). IsApart (levels s2) k) (sym t.1) dead_apart
    | inr t ↦ apart_same s s2 r r (others r t.1) (λ b h. same r b t.1 h) (apart r)
  ]

  pub left_sound : IsKept s2.batches → IsKept s2.resources → IsKept s2.scopes → IsKept s2.logs → count_by is_some s2.roots ≤ s2.most → s2.most < 2 ^ 32 → IsSound s2
  left_sound batches resources scopes logs fewer most = record {
    counts = (roots_counted, low.counted);
    apart = left_apart;
    batches = batches;
    resources = resources;
    scopes = scopes;
    logs = logs;
    roots = fewer;
    most = most;
  }

-- where the root was one of a sound forest
module _ (s s2 : Store) (root batch : ℕ) (sound : IsSound s) (is : root_at s root ≡ Some batch) (gone : root_at s2 root ≡ None)
    (others : (other : ℕ) → other ≢ root → root_at s2 other ≡ root_at s other)
    (low : Lowers (batch ∷ []) (batch_level s.batches) (batch_level s2.batches)
    (resource_level s.resources ∷ scope_level s.scopes ∷ log_level s.logs ∷ [])
    (resource_level s2.resources ∷ scope_level s2.scopes ∷ log_level s2.logs ∷ [])) where
  pub release_others : OthersStay root s s2
  release_others = left_others s s2 root batch sound.counts.0 sound.apart is gone others low

  pub release_sound : IsKept s2.batches → IsKept s2.resources → IsKept s2.scopes → IsKept s2.logs → count_by is_some s2.roots ≤ s2.most → s2.most < 2 ^ 32 → IsSound s2
  release_sound = left_sound s s2 root batch sound.counts.0 sound.apart is gone others low
