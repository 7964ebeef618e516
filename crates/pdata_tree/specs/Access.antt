-- Reading and writing at a path of a tree.
use Rattle.std.specs.Prelude.{ℕ, cond, List, Option, Some, None, Result, Ok, Err, slice_get, slice_set}
use Rattle.pdata_value.specs.Answers.{◌>>=◌}
use Rattle.pdata_value.specs.declared.error.EvalErr.{EvalErr}
use Rattle.pdata_value.specs.declared.error.EvalErr.TheVariants.{KindOf}
use Rattle.pdata_value.specs.declared.value.Value.{Value}
use Rattle.pdata_tree.specs.Fields.{resource_reads, scope_reads, log_reads, resource_takes, scope_takes, log_takes}
use Rattle.pdata_tree.specs.Paths.{is_field_of, level_of}
use Rattle.pdata_tree.specs.declared.batch.Batch.{Batch}
use Rattle.pdata_tree.specs.declared.path.Field.{Field}
use Rattle.pdata_tree.specs.declared.path.Key.{Key}
use Rattle.pdata_tree.specs.declared.path.PathTo.{PathTo}
use Rattle.pdata_tree.specs.declared.place.Context.{Context}
use Rattle.pdata_tree.specs.declared.place.Context.TheVariants.{Resource, Scope, Log}
use Rattle.pdata_tree.specs.declared.place.Place.{Place}
use Rattle.pdata_tree.specs.declared.record.LogRecord.{LogRecord}
use Rattle.pdata_tree.specs.declared.resource.ResourceTree.{ResourceTree}
use Rattle.pdata_tree.specs.declared.scope.ScopeTree.{ScopeTree}

-- what is done with what is there; where nothing is, there is no value of the kind that is wanted
abbrev pub there : {X Y : Type 0} → Option X → (X → Result Y EvalErr) → Result Y EvalErr
there None f = Err KindOf
there (Some x) f = f x

-- an answer at a field, where the context has it
abbrev pub of_context : {X : Type 0} → Context → Field → Result X EvalErr → Result X EvalErr
of_context context field answer = cond (is_field_of context field) answer (Err KindOf)

-- what a resource reads at a level: at a field of the object that holds it
abbrev pub read_in : Context → Field → List Key → Place → ResourceTree → Result Value EvalErr
read_in Resource field keys place r = resource_reads field keys r.node
read_in Scope field keys place r =
    there (slice_get r.scopes place.scope) (λ s. scope_reads field keys s.node)
read_in Log field keys place r =
    there (slice_get r.scopes place.scope)
    (λ s. there (slice_get s.logs place.log) (log_reads field keys))

-- the value at a path
abbrev pub at_path : PathTo → Batch → Context → Place → Result Value EvalErr
at_path path batch context place = of_context context path.field
    (there (slice_get batch.resources place.resource)
    (read_in (level_of context path.field) path.field path.keys place))

-- What becomes of a list where one of its items changes, and of an object where its own fields or a
-- list below it do.

-- the item at an index becomes what `change` makes of it
abbrev pub change_at : {X : Type 0} → ℕ → (X → Result X EvalErr) → List X → Result (List X) EvalErr
change_at i change xs = there (slice_get xs i) change >>= λ x. Ok (slice_set xs i x)

-- a resource with a value written at a field
abbrev pub resource_written : Field → List Key → Value → ResourceTree → Result ResourceTree EvalErr
resource_written field keys v r =
    resource_takes field keys v r.node >>= λ node. Ok (record r { node = node })

-- a scope with a value written at a field
abbrev pub scope_written : Field → List Key → Value → ScopeTree → Result ScopeTree EvalErr
scope_written field keys v s =
    scope_takes field keys v s.node >>= λ node. Ok (record s { node = node })

-- a scope of which the log record at a place changes
abbrev pub change_log : Place → (LogRecord → Result LogRecord EvalErr) → ScopeTree
    → Result ScopeTree EvalErr
change_log place change s =
    change_at place.log change s.logs >>= λ logs. Ok (record s { logs = logs })

-- a resource of which the scope at a place changes
abbrev pub change_scope : Place → (ScopeTree → Result ScopeTree EvalErr) → ResourceTree
    → Result ResourceTree EvalErr
change_scope place change r =
    change_at place.scope change r.scopes >>= λ scopes. Ok (record r { scopes = scopes })

-- what a write at a level makes of the resource at the place
abbrev pub written_in : Context → Field → List Key → Value → Place → ResourceTree
    → Result ResourceTree EvalErr
written_in Resource field keys v place = resource_written field keys v
written_in Scope field keys v place = change_scope place (scope_written field keys v)
written_in Log field keys v place = change_scope place (change_log place (log_takes field keys v))

-- the tree with a value written at a path
abbrev pub with_path : PathTo → Value → Batch → Context → Place → Result Batch EvalErr
with_path path v batch context place = of_context context path.field
    (change_at place.resource
    (written_in (level_of context path.field) path.field path.keys v place) batch.resources
    >>= λ resources. Ok (record batch { resources = resources }))
