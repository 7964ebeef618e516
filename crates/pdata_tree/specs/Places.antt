-- Places in a tree, and the targets of a context.
use Rattle.std.specs.Prelude.{ℕ, ◌+◌, List, [], ◌∷◌, ◌++◌, Option, Some, None, IsSome, slice_get}
use Rattle.pdata_tree.specs.declared.batch.Batch.{Batch}
use Rattle.pdata_tree.specs.declared.place.Context.{Context}
use Rattle.pdata_tree.specs.declared.place.Context.TheVariants.{Resource, Scope, Log}
use Rattle.pdata_tree.specs.declared.place.Place.{Place}
use Rattle.pdata_tree.specs.declared.record.LogRecord.{LogRecord}
use Rattle.pdata_tree.specs.declared.resource.ResourceTree.{ResourceTree}
use Rattle.pdata_tree.specs.declared.scope.ScopeTree.{ScopeTree}

-- what is found in what was found
abbrev pub within : {X Y : Type 0} → (X → Option Y) → Option X → Option Y
within f None = None
within f (Some x) = f x

-- the resource at a place
abbrev pub resource_at : Batch → Place → Option ResourceTree
resource_at batch place = slice_get batch.resources place.resource

-- the scope at a place
abbrev pub scope_at : Batch → Place → Option ScopeTree
scope_at batch place = within (λ r. slice_get r.scopes place.scope) (resource_at batch place)

-- the log record at a place
abbrev pub log_at : Batch → Place → Option LogRecord
log_at batch place = within (λ s. slice_get s.logs place.log) (scope_at batch place)

-- the place is in the tree, as deep as the context goes
abbrev pub IsPlaceIn : Batch → Context → Place → Type 0
IsPlaceIn batch Resource place = IsSome (resource_at batch place)
IsPlaceIn batch Scope place = IsSome (scope_at batch place)
IsPlaceIn batch Log place = IsSome (log_at batch place)

-- The targets of a context: the places of all its objects, in the order of the tree. Numbers that
-- don't count are 0.

-- a place
abbrev pub place_of : ℕ → ℕ → ℕ → Place
place_of i j k = record { resource = i; scope = j; log = k }

-- the log records of a scope, from number k on
abbrev pub log_places : ℕ → ℕ → ℕ → List LogRecord → List Place
log_places i j k [] = []
log_places i j k (l ∷ ls) = place_of i j k ∷ log_places i j (k + 1) ls

-- the scopes of a resource, from number j on
abbrev pub scope_places : ℕ → ℕ → List ScopeTree → List Place
scope_places i j [] = []
scope_places i j (s ∷ ss) = place_of i j 0 ∷ scope_places i (j + 1) ss

-- the log records of scopes, from number j on
abbrev pub logs_of_scopes : ℕ → ℕ → List ScopeTree → List Place
logs_of_scopes i j [] = []
logs_of_scopes i j (s ∷ ss) = log_places i j 0 s.logs ++ logs_of_scopes i (j + 1) ss

-- the targets in resources, from number i on
abbrev pub targets_from : Context → ℕ → List ResourceTree → List Place
targets_from context i [] = []
targets_from Resource i (r ∷ rs) = place_of i 0 0 ∷ targets_from Resource (i + 1) rs
targets_from Scope i (r ∷ rs) = scope_places i 0 r.scopes ++ targets_from Scope (i + 1) rs
targets_from Log i (r ∷ rs) = logs_of_scopes i 0 r.scopes ++ targets_from Log (i + 1) rs

-- the targets of a context
abbrev pub targets : Batch → Context → List Place
targets batch context = targets_from context 0 batch.resources
