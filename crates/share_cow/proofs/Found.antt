-- What stands at the places of a tree, and where its nodes lie.
use Rattle.std.proofs.Common.{◌↔◌, ◌≡◌, ◌<◌, ℕ, zero, suc, List, [], ◌∷◌, length, get_or, map, Option, Some, None, refl, ap, ◌∙◌, subst, sym, arith}
use Rattle.std.specs.Prelude.{IsSome, IsTrue, nat_lt, filter_map, slice_get}
use Rattle.std.proofs.lemmas.Bool.{lt-ltb}
use Rattle.std.proofs.lemmas.Bool.Decides.{nat_tests}
use Rattle.pdata_tree.specs.Places.{IsPlaceIn, log_at, resource_at, scope_at, within}
use Rattle.pdata_tree.specs.declared.batch.Batch.{Batch}
use Rattle.pdata_tree.specs.declared.place.Context.TheVariants.{Resource, Scope, Log}
use Rattle.pdata_tree.specs.declared.place.Place.{Place}
use Rattle.pdata_tree.specs.declared.record.LogRecord.{LogRecord}
use Rattle.pdata_tree.specs.declared.resource.ResourceNode.{ResourceNode}
use Rattle.pdata_tree.specs.declared.resource.ResourceTree.{ResourceTree}
use Rattle.pdata_tree.specs.declared.scope.ScopeNode.{ScopeNode}
use Rattle.pdata_tree.specs.declared.scope.ScopeTree.{ScopeTree}
use Rattle.shelf.specs.Places.{Places, count_at, item_at}
use Rattle.share_cow.specs.Levels.{AllCounted, list_at, value}
use Rattle.share_cow.specs.Lowering.{Holds}
use Rattle.share_cow.specs.Store.{as_log, as_resource, as_scope, batch_level, children_of, log_level, log_made, nothing, resource_levels, resource_made, scope_level, scope_levels, scope_made}
use Rattle.share_cow.specs.Views.{logs_in, logs_or_none, scopes_in, scopes_or_none}
use Rattle.share_cow.specs.declared.node.Node.{Node}
use Rattle.share_cow.proofs.Falling.{none_some}
use Rattle.share_cow.proofs.Lists.{entry_times}
use Rattle.share_cow.proofs.Looks.{found_value, get_parts, is_log, is_resource, is_scope, live_value, named_logs, named_scopes, some_is}
use Rattle.share_cow.proofs.Views.{resources_are, resources_live, tree}

none_none : (X : Type 0) → IsSome {T = X} None → ⊥
none_none X h = let there = some_is {Y = X} None h in none_some there.0 there.1

pub inside : {X : Type 0} (xs : List X) (i : ℕ) → IsSome (slice_get xs i) → i < length xs
inside {X} [] i h = absurd (none_none X h)
inside (x ∷ xs) zero h = omega arith
inside (x ∷ xs) (suc i) h = omega (arith, inside xs i h)

pub outside : {X : Type 0} (xs : List X) (i : ℕ) → i < length xs → IsSome (slice_get xs i)
outside [] i h = absurd (omega arith)
outside (x ∷ xs) zero h = refl
outside (x ∷ xs) (suc i) h = outside xs i (omega arith)

test_true : (i n : ℕ) → IsTrue (nat_lt i n) → i < n
test_true i n h = grind (arith, nat_tests)

-- an index within a list
pub tested : {X : Type 0} (xs : List X) (i n : ℕ) → n ≡ length xs → IsTrue (nat_lt i n) ↔ IsSome (slice_get xs i)
tested xs i n is = (
  λ h. outside xs i (subst (λ (k : ℕ). i < k) is (test_true i n h)),
  λ h. lt-ltb i n (subst (λ (k : ℕ). i < k) (sym is) (inside xs i h)),
)

pub scope_of : (o : Option ResourceTree) (j : ℕ) → within (λ r. slice_get r.scopes j) o ≡ slice_get (scopes_or_none o) j
scope_of None j = refl
scope_of (Some r) j = refl

pub log_of : (o : Option ScopeTree) (k : ℕ) → within (λ s. slice_get s.logs k) o ≡ slice_get (logs_or_none o) k
log_of None k = refl
log_of (Some s) k = refl

-- the scope at a place, and the log record
pub scope_at_is : (t : Batch) (place : Place) → scope_at t place ≡ slice_get (scopes_in t place.resource) place.scope
scope_at_is t place = scope_of (resource_at t place) place.scope

pub log_at_is : (t : Batch) (place : Place) → log_at t place ≡ slice_get (logs_in t place.resource place.scope) place.log
log_at_is t place = log_of (scope_at t place) place.log ∙ ap (λ (o : Option ScopeTree). slice_get (logs_or_none o) place.log) (scope_at_is t place)

-- where a place is in the tree
pub resource_in : (t : Batch) (place : Place) → IsPlaceIn t Resource place → place.resource < length t.resources
resource_in t place h = inside t.resources place.resource h

pub scope_in : (t : Batch) (place : Place) → IsPlaceIn t Scope place → place.scope < length (scopes_in t place.resource)
scope_in t place h = inside (scopes_in t place.resource) place.scope (subst IsSome (scope_at_is t place) h)

pub log_in : (t : Batch) (place : Place) → IsPlaceIn t Log place → place.log < length (logs_in t place.resource place.scope)
log_in t place h = inside (logs_in t place.resource place.scope) place.log (subst IsSome (log_at_is t place) h)

some_within : {X Y : Type 0} (f : X → Option Y) (o : Option X) → IsSome (within f o) → IsSome o
some_within {Y = Y} f None h = absurd (none_none Y h)
some_within f (Some x) h = refl

-- what is above a place is there too
pub resource_of_scope : (t : Batch) (place : Place) → IsPlaceIn t Scope place → IsPlaceIn t Resource place
resource_of_scope t place h = some_within (λ r. slice_get r.scopes place.scope) (resource_at t place) h

pub scope_of_log : (t : Batch) (place : Place) → IsPlaceIn t Log place → IsPlaceIn t Scope place
scope_of_log t place h = some_within (λ s. slice_get s.logs place.log) (scope_at t place) h

module _ (batches : Places (Node Unit)) (resources : Places (Node ResourceNode)) (scopes : Places (Node ScopeNode)) (logs : Places (Node LogRecord)) (b : ℕ)
    (live : 0 < count_at batches b) (counted : AllCounted (batch_level batches ∷ resource_levels resources scopes logs)) where
  abbrev seen : Batch
  seen = tree batches resources scopes logs b live counted

  abbrev r_places : List ℕ
  r_places = list_at (map children_of batches.slots) b

  module _ (i : ℕ) (r_inside : i < length r_places) where
    resource_found : slice_get seen.resources i ≡ as_resource (value nothing (resource_levels resources scopes logs) (get_or r_places i 0))
    resource_found =
        ap (λ (rs : List ResourceTree). slice_get rs i) (resources_are batches resources scopes logs b live counted)
        ∙ get_parts as_resource (value nothing (resource_levels resources scopes logs)) r_places i r_inside
        (is_resource resources scopes logs counted.1.0 counted.1.1.0 r_places (resources_live batches resources scopes logs b live counted))

    pub r_live : 0 < count_at resources (get_or r_places i 0)
    r_live = omega (arith, resources_live batches resources scopes logs b live counted (get_or r_places i 0), entry_times r_places i r_inside)

    pub resource_is : (node : Node ResourceNode) → item_at resources (get_or r_places i 0) ≡ Some node
        → slice_get seen.resources i ≡ Some (record { node = node.content; scopes = filter_map as_scope (map (value nothing (scope_levels scopes logs)) node.children) })
    resource_is node is = resource_found ∙ ap as_resource (found_value resource_made resources (scope_levels scopes logs) (get_or r_places i 0) node is)

    abbrev s_places : List ℕ
    s_places = list_at (map children_of resources.slots) (get_or r_places i 0)

    scopes_of : scopes_in seen i ≡ filter_map as_scope (map (value nothing (scope_levels scopes logs)) s_places)
    scopes_of = ap scopes_or_none (resource_found ∙ ap as_resource (live_value resource_made resources (scope_levels scopes logs) (get_or r_places i 0) r_live))

    pub s_held : Holds s_places (scope_level scopes)
    s_held = named_scopes resources scopes logs counted.1.0 counted.1.1.0 (get_or r_places i 0)

    module _ (j : ℕ) (s_inside : j < length s_places) where
      scope_found : slice_get (scopes_in seen i) j ≡ as_scope (value nothing (scope_levels scopes logs) (get_or s_places j 0))
      scope_found =
          ap (λ (ss : List ScopeTree). slice_get ss j) scopes_of
          ∙ get_parts as_scope (value nothing (scope_levels scopes logs)) s_places j s_inside (is_scope scopes logs counted.1.1.0 s_places s_held)

      pub s_live : 0 < count_at scopes (get_or s_places j 0)
      s_live = omega (arith, s_held (get_or s_places j 0), entry_times s_places j s_inside)

      pub scope_is : (node : Node ScopeNode) → item_at scopes (get_or s_places j 0) ≡ Some node
          → slice_get (scopes_in seen i) j ≡ Some (record { node = node.content; logs = filter_map as_log (map (value nothing (log_level logs ∷ [])) node.children) })
      scope_is node is = scope_found ∙ ap as_scope (found_value scope_made scopes (log_level logs ∷ []) (get_or s_places j 0) node is)

      abbrev l_places : List ℕ
      l_places = list_at (map children_of scopes.slots) (get_or s_places j 0)

      logs_of : logs_in seen i j ≡ filter_map as_log (map (value nothing (log_level logs ∷ [])) l_places)
      logs_of = ap logs_or_none (scope_found ∙ ap as_scope (live_value scope_made scopes (log_level logs ∷ []) (get_or s_places j 0) s_live))

      pub l_held : Holds l_places (log_level logs)
      l_held = named_logs scopes logs counted.1.1.0 (get_or s_places j 0)

      module _ (k : ℕ) (l_inside : k < length l_places) where
        pub l_live : 0 < count_at logs (get_or l_places k 0)
        l_live = omega (arith, l_held (get_or l_places k 0), entry_times l_places k l_inside)

        pub log_is : (node : Node LogRecord) → item_at logs (get_or l_places k 0) ≡ Some node → slice_get (logs_in seen i j) k ≡ Some node.content
        log_is node is =
            ap (λ (ls : List LogRecord). slice_get ls k) logs_of
            ∙ get_parts as_log (value nothing (log_level logs ∷ [])) l_places k l_inside (is_log logs l_places l_held)
            ∙ ap as_log (found_value log_made logs [] (get_or l_places k 0) node is)
