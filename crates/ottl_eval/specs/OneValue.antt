-- Trees of one value: the least kind of tree on which statements can run.
use Rattle.std.specs.Prelude.{[], Result, Ok}
use Rattle.ottl_eval.specs.Stages.{Stage, written_at}
use Rattle.ottl_eval.specs.Values.{value}
use Rattle.ottl_plan.specs.declared.planned.PlannedExpr.TheVariants as planned
use Rattle.pdata_tree.specs.Operations.{TreeOps}
use Rattle.pdata_tree.specs.Walk.{walk, with_walk}
use Rattle.pdata_tree.specs.declared.path.Field.TheVariants.{Body}
use Rattle.pdata_tree.specs.declared.path.PathTo.{PathTo}
use Rattle.pdata_value.specs.Answers.{◌>>=◌}
use Rattle.pdata_value.specs.declared.error.EvalErr.{EvalErr}
use Rattle.pdata_value.specs.declared.value.Value.{Value}

-- every path leads to the value, or below it
abbrev pub one_value : TreeOps Value PathTo
one_value = record {
  targets = λ tree context. [];
  level = λ context path. context;
  at = λ path tree context place. walk path.keys tree;
  with_at = λ path v tree context place. with_walk path.keys v tree;
  kept = λ flags tree. tree;
  kept_resources = λ flags tree. tree;
  records = λ tree. 0;
  nodes = λ tree. 1;
  spine = λ tree. 1;
}

-- the path to the value itself
abbrev pub body : PathTo
body = record { field = Body; keys = [] }

-- what the path to the value reads, once a value is written there
abbrev pub read_after : Value → Stage Value → Result Value EvalErr
read_after v s = written_at one_value body v s >>= value one_value (planned.Path body)
