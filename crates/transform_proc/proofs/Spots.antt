-- A statement leaves the context and the place of its stage.
use Rattle.std.proofs.Common.{◌≡◌, ◌∙◌, ap, sym, refl, Bool, true, false, cond, OnErr, Option, Some, None, Result, Ok, Err}
use Rattle.ottl_eval.specs.Stages.{Stage, stage, is_cache}
use Rattle.ottl_eval.specs.Statements.{Runs, applies, by_condition, edit_leaves, new_value, ran, with_new}
use Rattle.ottl_eval.specs.declared.outcome.Outcome.{Outcome}
use Rattle.ottl_eval.specs.declared.outcome.Outcome.TheVariants as outcome
use Rattle.ottl_plan.specs.declared.planned.PlannedStatement.{PlannedStatement}
use Rattle.pdata_tree.specs.Fields.{map_with}
use Rattle.pdata_tree.specs.Operations.{TreeOps}
use Rattle.pdata_tree.specs.declared.path.PathTo.{PathTo}
use Rattle.pdata_value.specs.Answers.{◌>>=◌}
use Rattle.pdata_value.specs.declared.error.EvalErr.{EvalErr}
use Rattle.pdata_value.specs.declared.pairs.Pairs.{Pairs}
use Rattle.pdata_value.specs.declared.value.Value.{Value}
use Rattle.transform_proc.specs.Turns.{StopsWork}

-- the stage of another tree and another cache
abbrev pub beside : {T : Type 0} → Stage T → Stage T → Stage T
beside s t = stage t.tree s.context s.place t.cache

-- a stage that was reached stands where the old one stood
abbrev pub Beside : {T E : Type 0} → Stage T → Result (Stage T) E → Type 0
Beside s (Ok t) = t ≡ beside s t
Beside s (Err e) = Unit {0}

module _ {T : Type 0} (ops : TreeOps T PathTo) where
  chosen : (s : Stage T) (b : Bool) (cache : Result Pairs EvalErr) (tree : Result T EvalErr)
      → Beside s (cond b (cache >>= λ c. Ok (record s { cache = c })) (tree >>= λ t. Ok (record s { tree = t })))
  chosen s true (Ok c) tree = refl
  chosen s true (Err e) tree = tt
  chosen s false cache (Ok t) = refl
  chosen s false cache (Err e) = tt

  newly : (path : PathTo) (s : Stage T) (v : Result (Option Value) EvalErr) → Beside s (v >>= with_new ops path s)
  newly path s (Ok None) = refl
  newly path s (Ok (Some v)) =
      chosen s (is_cache path.field) (map_with path.keys v s.cache) (ops.with_at path v s.tree s.context s.place)
  newly path s (Err e) = tt

  conditioned : (s : Stage T) (b : Result Bool EvalErr) (e : Result (Stage T) EvalErr) → Beside s e
      → (by_condition b e s).1 ≡ beside s (by_condition b e s).1
  conditioned s (Ok true) (Ok t) h = h
  conditioned s (Ok true) (Err e) h = refl
  conditioned s (Ok false) e h = refl
  conditioned s (Err x) e h = refl

  pub ran_beside : (x : PlannedStatement) (s : Stage T) → (ran ops x s).1 ≡ beside s (ran ops x s).1
  ran_beside x s =
      conditioned s (applies ops x.condition s) (edit_leaves ops x.edit s)
      (newly x.edit.target s (new_value ops x.edit s))

erred_stays : {T : Type 0} (condition : Result Bool EvalErr) (edit : Result (Stage T) EvalErr) (s : Stage T) (e : EvalErr)
    → (by_condition condition edit s).0 ≡ outcome.Err e → (by_condition condition edit s).1 ≡ s
erred_stays (Ok true) (Ok t) s e is = absurd (cc is)
erred_stays (Ok true) (Err x) s e is = refl
erred_stays (Ok false) edit s e is = refl
erred_stays (Err x) edit s e is = refl

-- a statement that stops the work leaves the stage as it was
pub stopped_stays : {T : Type 0} (ops : TreeOps T PathTo) (x : PlannedStatement) (s new : Stage T) (result : Outcome) → Runs (ran ops x s) s new result
    → StopsWork result → new ≡ s
stopped_stays ops x s new outcome.Done runs stops = absurd stops
stopped_stays ops x s new outcome.Skipped runs stops = absurd stops
stopped_stays {T} ops x s new (outcome.Err e) runs stops =
    sym (ap (λ (r : Outcome × Stage T). r.1) runs) ∙ erred_stays (applies ops x.condition s) (edit_leaves ops x.edit s) s e (ap (λ (r : Outcome × Stage T). r.0) runs)
stopped_stays ops x s new outcome.NoMemory runs stops = runs

-- so where it is what an error says
pub err_back : {X Y : Type 0} {P Q : Type 0} (met : Result X Y) → (P → Q) → OnErr met P → OnErr met Q
err_back (Ok x) so h = h
err_back (Err y) so h = so h
