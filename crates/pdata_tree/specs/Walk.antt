-- Reading and writing below a value, key by key.
use Rattle.std.specs.Prelude.{ℕ, List, [], ◌∷◌, Option, Some, None, Result, Ok, Err, slice_get, slice_set}
use Rattle.pdata_value.specs.Answers.{◌>>=◌}
use Rattle.pdata_value.specs.Pairs.{get, put}
use Rattle.pdata_value.specs.Value.{items, pairs}
use Rattle.pdata_value.specs.Wanted.{Layer, list_of, map_of}
use Rattle.pdata_value.specs.declared.error.EvalErr.{EvalErr}
use Rattle.pdata_value.specs.declared.error.EvalErr.TheVariants.{KindOf, Range}
use Rattle.pdata_value.specs.declared.value.Value.{Value, out-Value}
use Rattle.pdata_value.specs.declared.value.Value.TheOpen.{Value-F}
use Rattle.pdata_value.specs.declared.value.Value.TheVariants.{Empty}
use Rattle.pdata_tree.specs.declared.path.Key.{Key}
use Rattle.pdata_tree.specs.declared.path.Key.TheVariants.{Name, Index}

-- what is found, or nil
abbrev pub or_nil : Option Value → Value
or_nil None = Empty
or_nil (Some v) = v

-- an element that must be there
abbrev pub in_range : Option Value → Result Value EvalErr
in_range None = Err Range
in_range (Some v) = Ok v

-- the value under a name: that of a map, nil where it has none; nil of nil
abbrev pub under_name : List ℕ → Layer → Result Value EvalErr
under_name name (Value-F.Map map) = Ok (or_nil (get (pairs map) name))
under_name name Value-F.Empty = Ok Empty
under_name name _ = Err KindOf

-- the element at an index: that of a list; nil of nil
abbrev pub at_index : ℕ → Layer → Result Value EvalErr
at_index i (Value-F.List list) = in_range (slice_get (items list) i)
at_index i Value-F.Empty = Ok Empty
at_index i _ = Err KindOf

-- the value one step below
abbrev pub below : Key → Value → Result Value EvalErr
below (Name name) v = under_name name (out-Value v)
below (Index i) v = at_index i (out-Value v)

-- the value at the end of some steps
abbrev pub walk : List Key → Value → Result Value EvalErr
walk [] v = Ok v
walk (k ∷ ks) v = below k v >>= walk ks

-- What a value becomes where its part below a key changes by `change`.

-- of pairs: the first value with the name changes; where there is none, nil does and is added
abbrev pub name_put : List ℕ → (Value → Result Value EvalErr) → List (List ℕ × Value)
    → Result Value EvalErr
name_put name change ps = change (or_nil (get ps name)) >>= λ v. Ok (map_of (put ps name v))

-- under a name: of a map its pairs change, of nil a map is made
abbrev pub with_name : List ℕ → (Value → Result Value EvalErr) → Layer → Result Value EvalErr
with_name name change (Value-F.Map map) = name_put name change (pairs map)
with_name name change Value-F.Empty = name_put name change []
with_name name change _ = Err KindOf

-- at an index: the element of a list that is there changes
abbrev pub with_index : ℕ → (Value → Result Value EvalErr) → Layer → Result Value EvalErr
with_index i change (Value-F.List list) =
    in_range (slice_get (items list) i) >>= λ old. change old
    >>= λ v. Ok (list_of (slice_set (items list) i v))
with_index i change _ = Err KindOf

-- below one key
abbrev pub with_below : Key → (Value → Result Value EvalErr) → Value → Result Value EvalErr
with_below (Name name) change v = with_name name change (out-Value v)
with_below (Index i) change v = with_index i change (out-Value v)

-- a value whose part at the end of some steps is replaced
abbrev pub with_walk : List Key → Value → Value → Result Value EvalErr
with_walk [] new v = Ok new
with_walk (k ∷ ks) new v = with_below k (with_walk ks new) v
