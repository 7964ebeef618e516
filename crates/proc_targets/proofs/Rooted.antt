-- The lists of a root's tree, and which places are in it.
use Rattle.std.proofs.Common.{◌<◌, ◌↔◌, ℕ, zero, suc, List, [], ◌∷◌, length, Option, Some, None, IsSome, slice_get, arith, refl}
use Rattle.pdata_tree.specs.Places.{IsPlaceIn, resource_at, within}
use Rattle.pdata_tree.specs.declared.batch.Batch.{Batch}
use Rattle.pdata_tree.specs.declared.place.Context.TheVariants.{Resource, Scope, Log}
use Rattle.pdata_tree.specs.declared.place.Place.{Place}
use Rattle.pdata_tree.specs.declared.resource.ResourceTree.{ResourceTree}
use Rattle.pdata_tree.specs.declared.scope.ScopeTree.{ScopeTree}
use Rattle.share_cow.specs.Views.{logs_in, logs_or_none, scopes_in, scopes_or_none}

-- an item is there exactly within the list
pub within_list : {X : Type 0} (xs : List X) (i : ℕ) → IsSome (slice_get xs i) ↔ (i < length xs)
within_list [] i = (λ h. absurd (cc h), λ h. absurd (omega (arith, h)))
within_list (x ∷ xs) zero = (λ h. omega arith, λ h. refl)
within_list (x ∷ xs) (suc i) =
    let rest = within_list xs i in
    (λ h. omega (arith, rest.0 h), λ h. rest.1 (omega (arith, h)))

pub resource_there : (tree : Batch) (place : Place) → IsPlaceIn tree Resource place ↔ (place.resource < length tree.resources)
resource_there tree place = within_list tree.resources place.resource

-- the scope at an index of a resource that may be there
scope_of : (r : Option ResourceTree) (j : ℕ) → IsSome (within (λ r. slice_get r.scopes j) r) ↔ (j < length (scopes_or_none r))
scope_of None j = (λ h. absurd (cc h), λ h. absurd (omega (arith, h)))
scope_of (Some r) j = within_list r.scopes j

pub scope_there : (tree : Batch) (place : Place) → IsPlaceIn tree Scope place ↔ (place.scope < length (scopes_in tree place.resource))
scope_there tree place = scope_of (resource_at tree place) place.scope

-- the log record at an index of a scope that may be there
log_in_scope : (s : Option ScopeTree) (k : ℕ) → IsSome (within (λ s. slice_get s.logs k) s) ↔ (k < length (logs_or_none s))
log_in_scope None k = (λ h. absurd (cc h), λ h. absurd (omega (arith, h)))
log_in_scope (Some s) k = within_list s.logs k

log_of : (r : Option ResourceTree) (j k : ℕ)
    → IsSome (within (λ s. slice_get s.logs k) (within (λ r. slice_get r.scopes j) r)) ↔ (k < length (logs_or_none (slice_get (scopes_or_none r) j)))
log_of None j k = (λ h. absurd (cc h), λ h. absurd (omega (arith, h)))
log_of (Some r) j k = log_in_scope (slice_get r.scopes j) k

pub log_there : (tree : Batch) (place : Place) → IsPlaceIn tree Log place ↔ (place.log < length (logs_in tree place.resource place.scope))
log_there tree place = log_of (resource_at tree place) place.scope place.log

pub ruleset places_there = (resource_there, scope_there, log_there)
