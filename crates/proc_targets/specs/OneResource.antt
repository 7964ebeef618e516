-- The targets of a context in one resource.
use Rattle.std.specs.Prelude.{ℕ, List, [], ◌∷◌}
use Rattle.pdata_tree.specs.Places.{place_of, scope_places, logs_of_scopes}
use Rattle.pdata_tree.specs.declared.place.Context.{Context}
use Rattle.pdata_tree.specs.declared.place.Context.TheVariants.{Resource, Scope, Log}
use Rattle.pdata_tree.specs.declared.place.Place.{Place}
use Rattle.pdata_tree.specs.declared.batch.Batch.{Batch}
use Rattle.pdata_tree.specs.declared.resource.ResourceTree.{ResourceTree}
use Rattle.share_cow.specs.Views.{scopes_in}

-- the targets in the resource with that number
abbrev pub targets_in : Context → ℕ → ResourceTree → List Place
targets_in Resource i r = place_of i 0 0 ∷ []
targets_in Scope i r = scope_places i 0 r.scopes
targets_in Log i r = logs_of_scopes i 0 r.scopes

-- those in the resource with that number of a tree
abbrev pub targets_at : Context → Batch → ℕ → List Place
targets_at Resource tree i = place_of i 0 0 ∷ []
targets_at Scope tree i = scope_places i 0 (scopes_in tree i)
targets_at Log tree i = logs_of_scopes i 0 (scopes_in tree i)
