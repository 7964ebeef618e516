-- A place is in a root's tree exactly where the way to it is in the forest.
use Rattle.std.proofs.Common.{◌≡◌, ◌<◌, ◌≤◌, ℕ, true, false, length, get_or, map, Option, Some, refl, ap, ◌∙◌, subst, arith}
use Rattle.std.specs.Prelude.{IsSome, slice_get}
use Rattle.pdata_tree.specs.Places.{IsPlaceIn, log_at, resource_at, scope_at, within}
use Rattle.pdata_tree.specs.Paths.{is_field_of, level_of}
use Rattle.pdata_tree.specs.Scenes.{rank}
use Rattle.pdata_tree.specs.declared.batch.Batch.{Batch}
use Rattle.pdata_tree.specs.declared.path.Field.{Field}
use Rattle.pdata_tree.specs.declared.path.Field.TheVariants.{InstrumentationScopeAttributes, InstrumentationScopeName, InstrumentationScopeVersion, ResourceAttributes, ResourceDroppedAttributesCount}
use Rattle.pdata_tree.specs.declared.place.Context.{Context}
use Rattle.pdata_tree.specs.declared.place.Context.TheVariants.{Resource, Scope, Log}
use Rattle.pdata_tree.specs.declared.place.Place.{Place}
use Rattle.pdata_tree.specs.declared.resource.ResourceTree.{ResourceTree}
use Rattle.pdata_tree.specs.declared.scope.ScopeTree.{ScopeTree}
use Rattle.share_cow.specs.Copies.{InTree}
use Rattle.share_cow.specs.Levels.{list_at}
use Rattle.share_cow.specs.Scene.{Stands, tree_of, way_to}
use Rattle.share_cow.specs.Store.{IsLiveRoot, IsSound, Store, batch_named, children_of, levels, root_at}
use Rattle.share_cow.proofs.Found.{log_in, resource_in, resource_of_scope, scope_in, scope_of_log}
use Rattle.share_cow.proofs.Looks.{some_is}
use Rattle.share_cow.proofs.OwnBatch.{item_there}
use Rattle.share_cow.proofs.Table.{root_list}
use Rattle.share_cow.proofs.Views.{logs_count, resource_within, scope_within, tree}
use Rattle.share_cow.proofs.Written.{b_live, l_counts, l_found, r_counts, r_found, root_batch, s_counts, s_found, tree_here}

live_names : (s : Store) (root : ℕ) → IsLiveRoot s root → 0 < length (list_at (map batch_named s.roots) root)
live_names s root live =
    let is = some_is (root_at s root) live in
    omega (arith, ap length (root_list s.roots root ∙ ap batch_named is.1))

module _ (s : Store) (root : ℕ) (sound : IsSound s) (named : 0 < length (list_at (map batch_named s.roots) root)) where
  abbrev seen : Batch
  seen = tree s.batches s.resources s.scopes s.logs (root_batch s root) (b_live s root sound named) sound.counts.1

  way_in : (K : Context) (place : Place) → IsPlaceIn seen K place → InTree (levels s) root (way_to K place)
  way_in Resource place h =
      (named, (resource_within s.batches s.resources s.scopes s.logs (root_batch s root) (b_live s root sound named) sound.counts.1 place.resource (resource_in seen place h), tt))
  way_in Scope place h =
      let r_in = resource_in seen place (resource_of_scope seen place h) in (
        named,
        (
          resource_within s.batches s.resources s.scopes s.logs (root_batch s root) (b_live s root sound named) sound.counts.1 place.resource r_in,
          (scope_within s.batches s.resources s.scopes s.logs (root_batch s root) (b_live s root sound named) sound.counts.1 place.resource r_in place.scope (scope_in seen place h), tt),
        ),
      )
  way_in Log place h =
      let above = scope_of_log seen place h in
      let r_in = resource_in seen place (resource_of_scope seen place above) in
      let s_in = scope_in seen place above in (
        named,
        (
          resource_within s.batches s.resources s.scopes s.logs (root_batch s root) (b_live s root sound named) sound.counts.1 place.resource r_in,
          (
            scope_within s.batches s.resources s.scopes s.logs (root_batch s root) (b_live s root sound named) sound.counts.1 place.resource r_in place.scope s_in,
            (omega (arith, log_in seen place h, logs_count s.batches s.resources s.scopes s.logs (root_batch s root) (b_live s root sound named) sound.counts.1 place.resource r_in place.scope s_in), tt),
          ),
        ),
      )

pub in_tree : (s : Store) (root : ℕ) (K : Context) (place : Place) → IsSound s → IsLiveRoot s root → IsPlaceIn (tree_of s root) K place → InTree (levels s) root (way_to K place)
in_tree s root K place sound live h =
    let named = live_names s root live in
    way_in s root sound named K place (subst (λ (t : Batch). IsPlaceIn t K place) (tree_here s root sound named) h)

is_there : {X : Type 0} (o : Option X) (x : X) → o ≡ Some x → IsSome o
is_there o x e = rw e refl

pub in_place : (s : Store) (root : ℕ) (K : Context) (place : Place) → IsSound s → InTree (levels s) root (way_to K place) → IsPlaceIn (tree_of s root) K place
in_place s root Resource place sound there =
    let rn = item_there s.resources (get_or (list_at (map children_of s.batches.slots) (root_batch s root)) place.resource 0) (r_counts s root sound there.0 place.resource there.1.0) in
    is_there (resource_at (tree_of s root) place) _ (r_found s root sound there.0 place.resource there.1.0 rn.0 rn.1)
in_place s root Scope place sound there =
    let rn = item_there s.resources _ (r_counts s root sound there.0 place.resource there.1.0) in
    let sn = item_there s.scopes _ (s_counts s root sound there.0 place.resource there.1.0 rn.0 rn.1 place.scope there.1.1.0) in
    is_there (scope_at (tree_of s root) place) _
    (ap (within (λ (r : ResourceTree). slice_get r.scopes place.scope)) (r_found s root sound there.0 place.resource there.1.0 rn.0 rn.1)
    ∙ s_found s root sound there.0 place.resource there.1.0 rn.0 rn.1 place.scope there.1.1.0 sn.0 sn.1)
in_place s root Log place sound there =
    let rn = item_there s.resources _ (r_counts s root sound there.0 place.resource there.1.0) in
    let sn = item_there s.scopes _ (s_counts s root sound there.0 place.resource there.1.0 rn.0 rn.1 place.scope there.1.1.0) in
    let ln = item_there s.logs _ (l_counts s root sound there.0 place.resource there.1.0 rn.0 rn.1 place.scope there.1.1.0 sn.0 sn.1 place.log there.1.1.1.0) in
    is_there (log_at (tree_of s root) place) _
    (ap (within (λ (t : ScopeTree). slice_get t.logs place.log))
    (ap (within (λ (r : ResourceTree). slice_get r.scopes place.scope)) (r_found s root sound there.0 place.resource there.1.0 rn.0 rn.1)
    ∙ s_found s root sound there.0 place.resource there.1.0 rn.0 rn.1 place.scope there.1.1.0 sn.0 sn.1)
    ∙ l_found s root sound there.0 place.resource there.1.0 rn.0 rn.1 place.scope there.1.1.0 sn.0 sn.1 place.log there.1.1.1.0 ln.0 ln.1)

-- what is above a place that is in the tree is in it too
pub place_up : (t : Batch) (place : Place) (L K : Context) → rank L ≤ rank K → IsPlaceIn t K place → IsPlaceIn t L place
place_up t place Resource Resource h at = at
place_up t place Resource Scope h at = resource_of_scope t place at
place_up t place Resource Log h at = resource_of_scope t place (scope_of_log t place at)
place_up t place Scope Scope h at = at
place_up t place Scope Log h at = scope_of_log t place at
place_up t place Log Log h at = at
place_up t place _ _ h at = absurd (omega (arith, h))

no_truth : false ≡ true → ⊥
no_truth e = cc

-- a context has no field of a level below it
pub level_fits : (K : Context) (f : Field) (L : Context) → is_field_of K f ≡ true → L ≡ level_of K f → rank L ≤ rank K
level_fits K ResourceAttributes L is e = omega (arith, ap rank e)
level_fits K ResourceDroppedAttributesCount L is e = omega (arith, ap rank e)
level_fits Resource InstrumentationScopeAttributes L is e = absurd (no_truth is)
level_fits Resource InstrumentationScopeName L is e = absurd (no_truth is)
level_fits Resource InstrumentationScopeVersion L is e = absurd (no_truth is)
level_fits Scope InstrumentationScopeAttributes L is e = omega (arith, ap rank e)
level_fits Scope InstrumentationScopeName L is e = omega (arith, ap rank e)
level_fits Scope InstrumentationScopeVersion L is e = omega (arith, ap rank e)
level_fits Log InstrumentationScopeAttributes L is e = omega (arith, ap rank e)
level_fits Log InstrumentationScopeName L is e = omega (arith, ap rank e)
level_fits Log InstrumentationScopeVersion L is e = omega (arith, ap rank e)
level_fits K _ L is e = omega (arith, ap rank e)

-- the way to the object that holds a field of the context
pub level_way : (s : Store) (root : ℕ) (K : Context) (place : Place) (f : Field) (L : Context) → Stands s root K place → is_field_of K f ≡ true → L ≡ level_of K f → InTree (levels s) root (way_to L place)
level_way s root K place f L h is e = in_tree s root L place h.sound h.live (place_up (tree_of s root) place L K (level_fits K f L is e) h.inside)
