-- What a scene over a root of a forest is: the root's tree at a place, and the nodes that writes
-- there make.
use Rattle.std.specs.Prelude.{◌-◌, ◌≤◌, ℕ, List, [], ◌∷◌, Result, Ok}
use Rattle.pdata_value.specs.Answers.{◌>>=◌}
use Rattle.pdata_value.specs.declared.error.EvalErr.{EvalErr}
use Rattle.pdata_value.specs.declared.error.EvalStop.{EvalStop}
use Rattle.pdata_value.specs.declared.value.Value.{Value}
use Rattle.pdata_tree.specs.Access.{change_at, written_in}
use Rattle.pdata_tree.specs.Changes.{Changes}
use Rattle.pdata_tree.specs.Places.{IsPlaceIn}
use Rattle.pdata_tree.specs.Scenes.{Counts, Numbers, rank}
use Rattle.pdata_tree.specs.declared.batch.Batch.{Batch}
use Rattle.pdata_tree.specs.declared.path.PathTo.{PathTo}
use Rattle.pdata_tree.specs.declared.place.Context.{Context}
use Rattle.pdata_tree.specs.declared.place.Context.TheVariants.{Resource, Scope, Log}
use Rattle.pdata_tree.specs.declared.place.Place.{Place}
use Rattle.share_cow.specs.Copies.{owed}
use Rattle.share_cow.specs.Kept.{KeepsOthers}
use Rattle.share_cow.specs.Store.{IsLiveRoot, IsSound, Store, den, levels, places_of, shared}
use Rattle.share_cow.specs.Views.{batch_or_empty}

-- the tree of a root, or the empty one where the root isn't live
abbrev pub tree_of : Store → ℕ → Batch
tree_of s root = batch_or_empty (den s root)

-- the way from a root to the object of a level at a place, by indices: a root names one payload
abbrev pub way_to : Context → Place → List ℕ
way_to Resource place = 0 ∷ place.resource ∷ []
way_to Scope place = 0 ∷ place.resource ∷ place.scope ∷ []
way_to Log place = 0 ∷ place.resource ∷ place.scope ∷ place.log ∷ []

-- the tree with a value written at a field of the object of a level at a place
abbrev pub tree_with : Context → PathTo → Value → Place → Batch → Result Batch EvalErr
tree_with level path v place batch =
    change_at place.resource (written_in level path.field path.keys v place) batch.resources
    >>= λ resources. Ok (record batch { resources = resources })

-- a level, or the context where the level lies below it
abbrev pub within_context : Context → Context → Context
within_context Resource level = Resource
within_context Scope Resource = Resource
within_context Scope _ = Scope
within_context Log level = level

-- The numbers of a scene: the places of the root's tree that are its own, which are those that
-- aren't shared; those that are shared; and per level the nodes on the way to its object that
-- stand at or below the first that is shared.
abbrev pub numbers_of : Store → ℕ → Context → Place → Numbers
numbers_of s root context place = record {
  made = places_of s root - shared s root;
  left = shared s root;
  owed = λ level. owed (levels s) root (way_to (within_context context level) place);
}

-- the root is live, and the place is in its tree
pub record Stands (s : Store) (root : ℕ) (context : Context) (place : Place) : Type 0 where
  pub sound : IsSound s
  pub live : IsLiveRoot s root
  pub inside : IsPlaceIn (tree_of s root) context place

-- What a write at a level leaves of a forest. The root's tree becomes what is meant, or stays where
-- that is an error or memory ran out; all else is kept, and so is each place below the written
-- object. The numbers of a scene on the root at the place are those after a write at the level.
pub record Writes (level : Context) (root : ℕ) (place : Place)
    (meant : Batch → Result Batch EvalErr) (old new : Store) (result : Result Unit EvalStop)
    : Type 0 where
  pub value : Changes (meant (tree_of old root)) (tree_of old root) (tree_of new root) result
  pub keeps : KeepsOthers root old new
  pub sound : IsSound new
  pub inside : (context : Context) → rank level ≤ rank context
      → IsPlaceIn (tree_of old root) context place → IsPlaceIn (tree_of new root) context place
  pub counts : (context : Context) → rank level ≤ rank context
      → IsPlaceIn (tree_of old root) context place
      → Counts level (numbers_of old root context place) (numbers_of new root context place) result

-- What a scene keeps of the forest that it is lent: all that writes through its root keep, and that
-- its place is in the root's tree.
pub record KeepsScene (root : ℕ) (context : Context) (place : Place) (old new : Store)
    : Type 0 where
  pub others : KeepsOthers root old new
  pub stands : Stands old root context place → Stands new root context place
