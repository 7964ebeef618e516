-- What a statement does on a stage.
use Rattle.std.specs.Prelude.{◌≡◌, ◌≤◌, Bool, true, false, cond, Option, Some, None, MatchOption, Result, Ok, Err}
use Rattle.ottl_eval.specs.Editing.{edited}
use Rattle.ottl_eval.specs.Stages.{Stage, is_cache, read_at, written_at}
use Rattle.ottl_eval.specs.Values.{holds, values}
use Rattle.ottl_eval.specs.declared.outcome.Outcome.{Outcome}
use Rattle.ottl_eval.specs.declared.outcome.Outcome.TheVariants as outcome
use Rattle.ottl_plan.specs.declared.function.Editor.{Editor}
use Rattle.ottl_plan.specs.declared.function.Editor.TheVariants as row
use Rattle.ottl_plan.specs.declared.planned.Edit.{Edit}
use Rattle.ottl_plan.specs.declared.planned.PlannedCondition.{PlannedCondition}
use Rattle.ottl_plan.specs.declared.planned.PlannedStatement.{PlannedStatement}
use Rattle.pdata_tree.specs.Operations.{TreeOps}
use Rattle.pdata_tree.specs.Scenes.{Numbers, NumbersStay, Makes}
use Rattle.pdata_tree.specs.declared.path.PathTo.{PathTo}
use Rattle.pdata_tree.specs.declared.place.Context.{Context}
use Rattle.pdata_value.specs.Answers.{◌>>=◌}
use Rattle.pdata_value.specs.declared.error.EvalErr.{EvalErr}
use Rattle.pdata_value.specs.declared.error.EvalStop.{EvalStop}
use Rattle.pdata_value.specs.declared.error.EvalStop.TheVariants as stop
use Rattle.pdata_value.specs.declared.value.Value.{Value}
use Rattle.pdata_value.specs.declared.value.Value.TheVariants as kind

-- done, with the stage that an edit leaves; an error leaves the old one
abbrev pub done : {T : Type 0} → Result (Stage T) EvalErr → Stage T → Outcome × Stage T
done (Ok t) s = (outcome.Done, t)
done (Err error) s = (outcome.Err error, s)

-- only where the condition holds is the edit done: a condition that doesn't is Skipped, one that
-- errs is that error
abbrev pub by_condition :
    {T : Type 0} → Result Bool EvalErr → Result (Stage T) EvalErr → Stage T → Outcome × Stage T
by_condition (Ok true) edit s = done edit s
by_condition (Ok false) edit s = (outcome.Skipped, s)
by_condition (Err error) edit s = (outcome.Err error, s)

module _ {T : Type 0} (ops : TreeOps T PathTo) where
  -- the old value of an editor's target: `set` doesn't read it, and is given nil
  abbrev pub old_value : Editor → PathTo → Stage T → Result Value EvalErr
  old_value row.Set path s = Ok kind.Empty
  old_value _ path s = read_at ops path s

  -- The new value that an edit gives its target, or None where there is no action. The target is
  -- read, then the other arguments are evaluated from left to right, and then the editor answers.
  abbrev pub new_value : Edit → Stage T → Result (Option Value) EvalErr
  new_value e s =
      old_value e.editor e.target s >>= λ old. values ops e.arguments.values s
      >>= λ vs. edited e.editor old vs e.arguments.literals

  -- the stage with a new value written, if there is one
  abbrev pub with_new : PathTo → Stage T → Option Value → Result (Stage T) EvalErr
  with_new path s None = Ok s
  with_new path s (Some v) = written_at ops path v s

  -- the stage that an edit leaves
  abbrev pub edit_leaves : Edit → Stage T → Result (Stage T) EvalErr
  edit_leaves e s = new_value e s >>= with_new e.target s

  -- the level at which a new value is written, if there is one, and it isn't the cache's
  abbrev pub level_written : PathTo → Context → Result (Option Value) EvalErr → Option Context
  level_written path context (Ok (Some v)) =
      cond (is_cache path.field) None (Some (ops.level context path))
  level_written path context _ = None

  -- the level at which an edit writes; None where there is no action, and for a target in the cache
  abbrev pub acts_at : Edit → Stage T → Option Context
  acts_at e s = level_written e.target s.context (new_value e s)

  -- whether the condition of a statement holds; where there is none, it does
  abbrev pub applies : Option PlannedCondition → Stage T → Result Bool EvalErr
  applies None s = Ok true
  applies (Some condition) s = holds ops condition.expr s

  -- a statement's outcome, and the stage that it leaves
  abbrev pub ran : PlannedStatement → Stage T → Outcome × Stage T
  ran statement s = by_condition (applies statement.condition s) (edit_leaves statement.edit s) s

-- the outcome of a stop
abbrev pub stopped : EvalStop → Outcome
stopped (stop.Err error) = outcome.Err error
stopped stop.NoMemory = outcome.NoMemory

-- Over a scene, whose calls may want memory: then all is as it was.

-- a thing came out as is meant
abbrev pub Runs : {X : Type 0} → Outcome × X → X → X → Outcome → Type 0
Runs meant old new outcome.NoMemory = new ≡ old
Runs meant old new result = meant ≡ (result, new)

-- what was done to the numbers of nodes: a write at the level that the statement acts at, or
-- nothing
abbrev pub OutcomeCounts : Option Context → Numbers → Numbers → Outcome → Type 0
OutcomeCounts acts old new outcome.Done =
    MatchOption acts (NumbersStay old new) (λ level. Makes level old new)
OutcomeCounts acts old new outcome.NoMemory = new.left ≤ old.left
OutcomeCounts acts old new result = NumbersStay old new
