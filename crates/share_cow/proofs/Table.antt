-- The table of roots, and what a root stands for.
use Rattle.std.proofs.Common.{◌≡◌, ◌<◌, ◌≤◌, ℕ, zero, suc, List, [], ◌∷◌, map, take, Option, Some, None, refl, ap, sym, ◌∙◌, arith}
use Rattle.std.specs.Prelude.{slice_index_or, count_by, is_some, ◌==◌, cond}
use Rattle.std.proofs.lemmas.List.Sums.{sum_by-cons}
use Rattle.share_cow.specs.Levels.{IsApart, list_at, named, stands, sum_over, times, value}
use Rattle.share_cow.specs.Store.{IsSound, Part, Store, as_batch, batch_named, den, first_part, levels, nothing, root_at, tree_levels}
use Rattle.shelf.specs.Places.{count_at}
use Rattle.share_cow.proofs.Lists.{map_same, sum_same, times_at}
use Rattle.share_cow.proofs.Same.{SameFrom, one_at_most, stands_same, value_same}

pub root_list : (roots : List (Option ℕ)) (r : ℕ) → list_at (map batch_named roots) r ≡ batch_named (slice_index_or roots r None)
root_list [] r = refl
root_list (o ∷ roots) zero = refl
root_list (o ∷ roots) (suc r) = root_list roots r

once_named : (p : ℕ) (o : Option ℕ) → times p (batch_named o) ≤ cond (is_some o) 1 0
once_named p None = omega arith
once_named p (Some b) = omega (arith, one_at_most (b == p))

-- a batch is named by no more roots than are live
pub named_by_roots : (p : ℕ) (roots : List (Option ℕ)) → named p (map batch_named roots) ≤ count_by is_some roots
named_by_roots p [] = omega arith
named_by_roots p (None ∷ roots) = omega (arith, named_by_roots p roots)
named_by_roots p (Some b ∷ roots) =
    let counted = sum_by-cons {X = Option ℕ} (λ o. cond (is_some o) 1 0) (Some b) roots in
    omega (arith, counted, named_by_roots p roots, one_at_most (b == p))

-- what a root names is live
pub live_root : (s : Store) → IsSound s → (r b : ℕ) → 0 < times b (batch_named (root_at s r)) → 0 < count_at s.batches b
live_root s sound r b h =
    omega (arith, h, sound.counts.0 b, times_at b (map batch_named s.roots) r, ap (times b) (root_list s.roots r))

module _ (s s2 : Store) (r r2 : ℕ) (e : root_at s2 r2 ≡ root_at s r)
    (same : (b : ℕ) → 0 < times b (batch_named (root_at s r)) → SameFrom (tree_levels s) (tree_levels s2) b) where
  -- a root that names the same batch stands for the same tree
  pub den_same : den s2 r2 ≡ den s r
  den_same =
      ap (λ (parts : List Part). as_batch (first_part parts))
      (ap (map (value nothing (tree_levels s2))) (root_list s2.roots r2 ∙ ap batch_named e)
      ∙ map_same (value nothing (tree_levels s2)) (value nothing (tree_levels s)) (batch_named (root_at s r))
      (λ b h. value_same nothing (tree_levels s) (tree_levels s2) b (same b h))
      ∙ ap (map (value nothing (tree_levels s))) (sym (root_list s.roots r)))

  pub apart_same : IsApart (levels s) r → IsApart (levels s2) r2
  apart_same apart zero q h = one_at_most (r2 == q)
  apart_same apart (suc depth) q h =
      let new = ap (sum_over (stands (take depth (tree_levels s2)) q)) (root_list s2.roots r2 ∙ ap batch_named e) in
      let old = ap (sum_over (stands (take depth (tree_levels s)) q)) (root_list s.roots r) in
      let both = sum_same (stands (take depth (tree_levels s2)) q) (stands (take depth (tree_levels s)) q) (batch_named (root_at s r))
      (λ b h. stands_same (tree_levels s) (tree_levels s2) b (same b h) depth q) in
      omega (arith, new, old, both, apart (suc depth) q h)
