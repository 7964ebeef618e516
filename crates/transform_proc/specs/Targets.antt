-- Statements leave the targets of every context where they are.
use Rattle.std.specs.Prelude.{◌≡◌}
use Rattle.ottl_eval.specs.Stages.{Stage}
use Rattle.ottl_eval.specs.Statements.{ran}
use Rattle.ottl_plan.specs.declared.planned.PlannedStatement.{PlannedStatement}
use Rattle.pdata_tree.specs.Operations.{log_trees}
use Rattle.pdata_tree.specs.Places.{targets}
use Rattle.pdata_tree.specs.declared.batch.Batch.{Batch}
use Rattle.pdata_tree.specs.declared.place.Context.{Context}

-- two trees have the same targets
abbrev pub SameTargets : Batch → Batch → Type 0
SameTargets old new = (context : Context) → targets new context ≡ targets old context

-- a statement leaves the targets
abbrev pub KeepsTargets : PlannedStatement → Stage Batch → Type 0
KeepsTargets x s = SameTargets s.tree (ran log_trees x s).1.tree
