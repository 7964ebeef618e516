-- Where expressions are evaluated and statements run, and what is read and written there at a path.
use Rattle.std.specs.Prelude.{Bool, true, false, cond, Result, Ok, Err}
use Rattle.pdata_tree.specs.Fields.{map_with}
use Rattle.pdata_tree.specs.Operations.{TreeOps}
use Rattle.pdata_tree.specs.Scenes.{Numbers, NumbersStay, Counts}
use Rattle.pdata_tree.specs.Walk.{walk}
use Rattle.pdata_tree.specs.declared.path.Field.{Field}
use Rattle.pdata_tree.specs.declared.path.Field.TheVariants.{Cache}
use Rattle.pdata_tree.specs.declared.path.PathTo.{PathTo}
use Rattle.pdata_tree.specs.declared.place.Context.{Context}
use Rattle.pdata_tree.specs.declared.place.Place.{Place}
use Rattle.pdata_value.specs.Answers.{◌>>=◌}
use Rattle.pdata_value.specs.declared.error.EvalErr.{EvalErr}
use Rattle.pdata_value.specs.declared.error.EvalStop.{EvalStop}
use Rattle.pdata_value.specs.declared.pairs.Pairs.{Pairs}
use Rattle.pdata_value.specs.declared.value.Value.{Value}
use Rattle.pdata_value.specs.declared.value.Value.TheVariants as kind

-- a tree, the kind of an object in it and the object's place, and a cache
pub record Stage (T : Type 0) : Type 0 where
  pub tree : T
  pub context : Context
  pub place : Place
  pub cache : Pairs

-- a stage of these
abbrev pub stage : {T : Type 0} → T → Context → Place → Pairs → Stage T
stage tree context place cache =
    record { tree = tree; context = context; place = place; cache = cache }

-- whether a field is the cache
abbrev pub is_cache : Field → Bool
is_cache Cache = true
is_cache _ = false

module _ {T : Type 0} (ops : TreeOps T PathTo) where
  -- the value at a path
  abbrev pub read_at : PathTo → Stage T → Result Value EvalErr
  read_at path s =
      cond (is_cache path.field) (walk path.keys (kind.Map s.cache))
      (ops.at path s.tree s.context s.place)

  -- the stage with a value written at a path
  abbrev pub written_at : PathTo → Value → Stage T → Result (Stage T) EvalErr
  written_at path v s =
      cond (is_cache path.field)
      (map_with path.keys v s.cache >>= λ cache. Ok (record s { cache = cache }))
      (ops.with_at path v s.tree s.context s.place >>= λ tree. Ok (record s { tree = tree }))

-- what a write at a level does to the numbers of nodes; one that writes the cache does nothing
abbrev pub PathCounts : Bool → Context → Numbers → Numbers → Result Unit EvalStop → Type 0
PathCounts true level old new result = NumbersStay old new
PathCounts false level old new result = Counts level old new result
