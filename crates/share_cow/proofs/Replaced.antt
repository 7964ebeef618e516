-- A root that names a payload that came in place of the one that it named.
use Rattle.std.proofs.Common.{◌≡◌, ◌≢◌, ◌+◌, ◌<◌, ◌≤◌, ◌++◌, ℕ, false, List, [], ◌∷◌, length, set, map, Option, Some, None, refl, ap, sym, ◌∙◌, subst, arith, inl, inr}
use Rattle.std.specs.Prelude.{cond, count_by, is_some}
use Rattle.std.proofs.lemmas.Bool.Decides.{eqb_tells}
use Rattle.std.proofs.lemmas.List.{get_or-set_other, get_or-set_same}
use Rattle.std.proofs.lemmas.List.Sums.{sum_by-set}
use Rattle.pdata_tree.specs.Tree.{nodes, spine}
use Rattle.pdata_tree.specs.declared.batch.Batch.{Batch}
use Rattle.pdata_tree.specs.declared.record.LogRecord.{LogRecord}
use Rattle.pdata_tree.specs.declared.resource.ResourceNode.{ResourceNode}
use Rattle.pdata_tree.specs.declared.scope.ScopeNode.{ScopeNode}
use Rattle.shelf.specs.Places.{Places, count_at}
use Rattle.share_cow.specs.Kept.{OthersStay}
use Rattle.share_cow.specs.Levels.{Counted, IsApart, Level, shared_places, sum_over, times}
use Rattle.share_cow.specs.Lowering.{Lowers}
use Rattle.share_cow.specs.Scene.{tree_of}
use Rattle.share_cow.specs.Store.{IsKept, IsSound, Part, Store, batch_level, batch_named, den, levels, resource_levels, root_at, root_level, shared, tree_levels}
use Rattle.share_cow.specs.Views.{batch_or_empty}
use Rattle.share_cow.specs.declared.node.Node.{Node}
use Rattle.share_cow.proofs.Keying.{key_free, key_named, key_others}
use Rattle.share_cow.proofs.Lists.{named_but}
use Rattle.share_cow.proofs.OwnBatch.{within_roots}
use Rattle.share_cow.proofs.Release.{left_apart, left_others}
use Rattle.share_cow.proofs.Same.{SameFrom}
use Rattle.share_cow.proofs.Comes.{Comes, come_apart, come_others, come_own, come_roots, come_shared, come_tree, with_part}
use Rattle.share_cow.proofs.Share.{batch_live}
use Rattle.share_cow.proofs.Table.{apart_same, den_same, root_list}

from_itself : (ls : List (Level Part)) (p : ℕ) → SameFrom ls ls p
from_itself [] p = tt
from_itself (l ∷ ls) p = (refl, refl, λ q h. from_itself ls q)

module _ (s : Store) (root batch new : ℕ) (tree : Batch) (own : ℕ) (b : Places (Node Unit)) (r : Places (Node ResourceNode)) (c : Places (Node ScopeNode)) (l : Places (Node LogRecord))
    (sound : IsSound s) (is : root_at s root ≡ Some batch) (come : Comes s root new tree own b r c l) where
  abbrev key : ℕ
  key = length s.roots

  abbrev with_key : List (Option ℕ)
  with_key = s.roots ++ Some new ∷ []

  inside : root < length s.roots
  inside = within_roots s.roots root batch is

  apart_key : root ≢ key
  apart_key e = absurd (omega (arith, inside, e))

  -- with a root more for it, and then without the old payload's
  abbrev both : Store
  both = with_part s root new tree own b r c l sound come key with_key (key_free s.roots) (key_named s.roots new) (key_others s.roots new)

  both_is : root_at both root ≡ Some batch
  both_is = key_others s.roots new root apart_key ∙ is

  both_counted : Counted (root_level with_key) (batch_level b)
  both_counted = come_roots s root new tree own b r c l sound come key with_key (key_free s.roots) (key_named s.roots new) (key_others s.roots new)

  both_apart : (r2 : ℕ) → IsApart (levels both) r2
  both_apart = come_apart s root new tree own b r c l sound come key with_key (key_free s.roots) (key_named s.roots new) (key_others s.roots new)

  -- what goes with the old payload's last count
  pub old_live : 0 < count_at b batch
  old_live = omega (arith, batch_live s root batch sound is, come.counts batch)

  module _ (b3 : Places (Node Unit)) (r3 : Places (Node ResourceNode)) (s3 : Places (Node ScopeNode)) (l3 : Places (Node LogRecord))
      (low : Lowers (batch ∷ []) (batch_level b) (batch_level b3) (resource_levels r c l) (resource_levels r3 s3 l3)) where
    abbrev pub replaced : Store
    replaced = record { roots = set s.roots root (Some new); most = s.most; batches = b3; resources = r3; scopes = s3; logs = l3 }

    abbrev one : Store
    one = record { roots = set with_key root None; most = s.most; batches = b3; resources = r3; scopes = s3; logs = l3 }

    gone : root_at one root ≡ None
    gone = get_or-set_same with_key root None None (within_roots with_key root batch both_is)

    still : (other : ℕ) → other ≢ root → root_at one other ≡ root_at both other
    still other d = get_or-set_other with_key root other None None d

    left : OthersStay root both one
    left = left_others both one root batch both_counted both_apart both_is gone still low

    -- the part's root takes the old one's entry
    pub set_here : root_at replaced root ≡ Some new
    set_here = get_or-set_same s.roots root (Some new) None inside

    set_other : (other : ℕ) → other ≢ root → root_at replaced other ≡ root_at s other
    set_other other d = get_or-set_other s.roots root other (Some new) None d

    one_key : root_at one key ≡ Some new
    one_key = still key (λ e. apart_key (sym e)) ∙ key_named s.roots new

    here : root_at replaced root ≡ root_at one key
    here = set_here ∙ sym one_key

    there : (other : ℕ) → other ≢ root → other ≢ key → root_at replaced other ≡ root_at one other
    there other d k = set_other other d ∙ sym (key_others s.roots new other k) ∙ sym (still other d)

    nothing_at : (other : ℕ) → other ≡ key → root_at s other ≡ None
    nothing_at other e = ap (root_at s) e ∙ key_free s.roots

    pub replace_tree : den replaced root ≡ Some tree
    replace_tree =
        den_same one replaced key root here (λ b h. from_itself (tree_levels one) b)
        ∙ (left.trees key (λ e. apart_key (sym e))).tree
        ∙ come_tree s root new tree own b r c l sound come key with_key (key_free s.roots) (key_named s.roots new) (key_others s.roots new)

    no_root : (other b : ℕ) → other ≡ key → 0 < times b (batch_named (root_at s other)) → SameFrom (tree_levels s) (tree_levels replaced) b
    no_root other b e h = absurd (omega (arith, h, ap (λ (o : Option ℕ). times b (batch_named o)) (nothing_at other e)))

    pub replace_nodes : nodes (tree_of replaced root) ≡ nodes tree
    replace_nodes = ap (λ (o : Option Batch). nodes (batch_or_empty o)) replace_tree

    pub replace_spine : spine (tree_of replaced root) ≡ spine tree
    replace_spine = ap (λ (o : Option Batch). spine (batch_or_empty o)) replace_tree

    same_tree : (other : ℕ) → other ≢ root → den replaced other ≡ den s other
    same_tree other d = elim (eqb_tells other key) as (λ x. den replaced other ≡ den s other) [
      | inl e ↦ den_same s replaced other other (set_other other d) (λ b h. no_root other b e.1 h)
      | inr e ↦ den_same one replaced other other (there other d e.1) (λ b h. from_itself (tree_levels one) b)
          ∙ (left.trees other d).tree
          ∙ (come_others s root new tree own b r c l sound come key with_key (key_free s.roots) (key_named s.roots new) (key_others s.roots new) other e.1).tree
    ]

    no_more : (other : ℕ) → other ≢ root → shared replaced other ≤ shared s other
    no_more other d = elim (eqb_tells other key) as (λ x. shared replaced other ≤ shared s other) [
      | inl e ↦ omega (arith, ap (λ (o : Option ℕ). sum_over (shared_places false (tree_levels replaced)) (batch_named o)) (set_other other d ∙ nothing_at other e.1))
      | inr e ↦ omega (
        arith,
        ap (λ (o : Option ℕ). sum_over (shared_places false (tree_levels replaced)) (batch_named o)) (there other d e.1),
        left.shared other d,
        come_shared s root new tree own b r c l sound come key with_key (key_free s.roots) (key_named s.roots new) (key_others s.roots new) other e.1 d,
      )
    ]

    pub replace_others : OthersStay root s replaced
    replace_others = record {
      trees = λ other d. record { tree = same_tree other d; live = rw (set_other other d) (λ h. h, λ h. h) };
      shared = no_more;
    }

    roots_counted : Counted (root_level replaced.roots) (batch_level b3)
    roots_counted p =
        omega (
          arith,
          named_but p (map batch_named s.roots) (map batch_named replaced.roots) root (λ j d. root_list replaced.roots j ∙ ap batch_named (set_other j d) ∙ sym (root_list s.roots j)),
          ap (times p) (root_list s.roots root ∙ ap batch_named is),
          ap (times p) (root_list replaced.roots root ∙ ap batch_named set_here),
          come.counts p,
          low.counts p,
          sound.counts.0 p,
        )

    one_apart : (r : ℕ) → IsApart (levels one) r
    one_apart = left_apart both one root batch both_counted both_apart both_is gone still low

    replace_apart : (r : ℕ) → IsApart (levels replaced) r
    replace_apart r = elim (eqb_tells r root) as (λ x. IsApart (levels replaced) r) [
      | inl e ↦ subst (λ (k : ℕ). IsApart (levels replaced) k) (sym e.1) (apart_same one replaced key root here (λ b h. from_itself (tree_levels one) b) (one_apart key))
      | inr e ↦ elim (eqb_tells r key) as (λ x. IsApart (levels replaced) r) [
        | inl k ↦ apart_same s replaced r r (set_other r e.1) (λ b h. no_root r b k.1 h) (sound.apart r)
        | inr k ↦ apart_same one replaced r r (there r e.1 k.1) (λ b h. from_itself (tree_levels one) b) (one_apart r)
      ]
    ]

    pub replace_many : count_by is_some replaced.roots ≡ count_by is_some s.roots
    replace_many =
        let f : Option ℕ → ℕ = λ o. cond (is_some o) 1 0 in
        omega (arith, sum_by-set f s.roots root (Some new) None inside, ap f is)

    pub replace_sound : IsKept b3 → IsKept r3 → IsKept s3 → IsKept l3 → IsSound replaced
    replace_sound kept_batches kept_resources kept_scopes kept_logs = record {
      counts = (roots_counted, low.counted);
      apart = replace_apart;
      batches = kept_batches;
      resources = kept_resources;
      scopes = kept_scopes;
      logs = kept_logs;
      roots = omega (arith, replace_many, sound.roots);
      most = sound.most;
    }

    -- and the tree shares no more than with both
    pub replace_own : shared replaced root + own ≤ nodes tree
    replace_own =
        omega (
          arith,
          come_own s root new tree own b r c l sound come key with_key (key_free s.roots) (key_named s.roots new) (key_others s.roots new),
          left.shared key (λ e. apart_key (sym e)),
          ap (λ (o : Option ℕ). sum_over (shared_places false (tree_levels replaced)) (batch_named o)) here,
        )
