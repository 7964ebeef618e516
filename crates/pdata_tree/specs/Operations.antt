-- What a kind of tree offers to statements and components. Their meaning is stated over this record
-- alone, so that one text serves every kind of tree.
use Rattle.std.specs.Prelude.{ℕ, Bool, List, Result}
use Rattle.pdata_value.specs.declared.error.EvalErr.{EvalErr}
use Rattle.pdata_value.specs.declared.value.Value.{Value}
use Rattle.pdata_tree.specs.Access.{at_path, with_path}
use Rattle.pdata_tree.specs.Paths.{level_of}
use Rattle.pdata_tree.specs.Places.{targets}
use Rattle.pdata_tree.specs.Selecting.{kept, kept_resources}
use Rattle.pdata_tree.specs.Tree.{nodes, records, spine}
use Rattle.pdata_tree.specs.declared.batch.Batch.{Batch}
use Rattle.pdata_tree.specs.declared.path.PathTo.{PathTo}
use Rattle.pdata_tree.specs.declared.place.Context.{Context}
use Rattle.pdata_tree.specs.declared.place.Place.{Place}

-- trees of the kind T, with paths P
pub record TreeOps (T P : Type 0) : Type 0 where
  -- the places of a context's objects, in the order of the tree
  pub targets : T → Context → List Place
  -- the kind of object that a path leads to
  pub level : Context → P → Context
  -- the value at a path
  pub at : P → T → Context → Place → Result Value EvalErr
  -- the tree with a value written at a path
  pub with_at : P → Value → T → Context → Place → Result T EvalErr
  -- the tree with the flagged records
  pub kept : List Bool → T → T
  -- the tree with the flagged resources
  pub kept_resources : List Bool → T → T
  -- the number of its records
  pub records : T → ℕ
  -- the number of its nodes, and of those that are no records
  pub nodes : T → ℕ
  pub spine : T → ℕ

-- trees of log records
abbrev pub log_trees : TreeOps Batch PathTo
log_trees = record {
  targets = targets;
  level = λ context path. level_of context path.field;
  at = at_path;
  with_at = with_path;
  kept = kept;
  kept_resources = kept_resources;
  records = records;
  nodes = nodes;
  spine = spine;
}
