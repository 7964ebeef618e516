-- What was done on a scene is done on the forest that it was lent.
use Rattle.std.proofs.Common.{◌≡◌, ◌∙◌, ℕ, Bool, List, ap, subst, sym, Result, OnErr}
use Rattle.conf_json.specs.Account.{Account}
use Rattle.conf_json.specs.declared.account.PlainStop.{PlainStop}
use Rattle.ottl_eval.specs.Stages.{Stage, stage}
use Rattle.ottl_plan.specs.declared.planned.PlannedCondition.{PlannedCondition}
use Rattle.ottl_plan.specs.declared.planned.PlannedStatement.{PlannedStatement}
use Rattle.pdata_tree.specs.Operations.{log_trees}
use Rattle.pdata_tree.specs.declared.batch.Batch.{Batch}
use Rattle.pdata_tree.specs.declared.place.Context.{Context}
use Rattle.pdata_tree.specs.declared.place.Place.{Place}
use Rattle.pdata_value.specs.declared.pairs.Pairs.{Pairs}
use Rattle.proc_targets.specs.Ends.{Ends, EndsAs}
use Rattle.proc_targets.specs.declared.spot.Spot.{Spot}
use Rattle.share_cow.specs.Scene.{tree_of}
use Rattle.share_cow.specs.Store.{Store}
use Rattle.transform_proc.proofs.Spots.{err_back}
use Rattle.transform_proc.specs.Meaning.{statement_run, taken}

-- a stage on a root of a forest
abbrev pub stage_on : Store → ℕ → Context → Place → Pairs → Stage Batch
stage_on forest root context place cache = stage (tree_of forest root) context place cache

-- the same on a forest, a root and a place that are the same
pub same_stage : (f g : Store) (r s : ℕ) (c d : Context) (p q : Place) (cache : Pairs) → f ≡ g → r ≡ s → c ≡ d → p ≡ q
    → stage_on f r c p cache ≡ stage_on g s d q cache
same_stage f g r s c d p q cache forest root context place =
    ap (λ (x : Store). stage_on x r c p cache) forest ∙ ap (λ (x : ℕ). stage_on g x c p cache) root
    ∙ ap (λ (x : Context). stage_on g s x p cache) context ∙ ap (λ (x : Place). stage_on g s d x cache) place

-- A scene on a forest, a root and a place: those that were lent, as it was given, as it is at the end, and the forest behind it.
module _ {Y : Type 0} (result : Result Y PlainStop) (before after : Pairs) (lent given ended : Store) (root at_first at_last : ℕ)
    (context context_first context_last : Context) (place place_first place_last : Place) (forest_is : given ≡ lent) (root_is : at_first ≡ root)
    (context_is : context_first ≡ context) (place_is : place_first ≡ place) (same_root : at_last ≡ at_first)
    (same_context : context_last ≡ context_first) (same_place : place_last ≡ place_first) where
  first_stage : (cache : Pairs) → stage_on given at_first context_first place_first cache ≡ stage_on lent root context place cache
  first_stage cache = same_stage given lent at_first root context_first context place_first place cache forest_is root_is context_is place_is

  last_stage : (cache : Pairs) (final : Store) → final ≡ ended → stage_on ended at_last context_last place_last cache ≡ stage_on final root context place cache
  last_stage cache final final_is =
      same_stage ended final at_last root context_last context place_last place cache (sym final_is) (same_root ∙ root_is) (same_context ∙ context_is)
      (same_place ∙ place_is)

  pub back_on :
      OnErr result (stage_on ended at_last context_last place_last after ≡ stage_on given at_first context_first place_first before)
      → (final : Store) → final ≡ ended
      → OnErr result (stage_on final root context place after ≡ stage_on lent root context place before)
  back_on h final final_is = err_back result (λ is. sym (last_stage after final final_is) ∙ is ∙ first_stage before) h

  -- a statement that was run there
  pub ran_on : (spot meant : Spot) (index : ℕ) (x : PlannedStatement) (account now : Account) → spot ≡ meant
      → EndsAs (stage_on ended at_last context_last place_last after, now) result
      (statement_run log_trees spot index x (stage_on given at_first context_first place_first before) account)
      → (final : Store) → final ≡ ended
      → EndsAs (stage_on final root context place after, now) result (statement_run log_trees meant index x (stage_on lent root context place before) account)
  ran_on spot meant index x account now spot_is h final final_is =
      subst (λ (s : Stage Batch). EndsAs {Y = Y} (s, now) result (statement_run log_trees meant index x (stage_on lent root context place before) account))
      (last_stage after final final_is)
      (subst (λ (s : Stage Batch). EndsAs {Y = Y} (stage_on ended at_last context_last place_last after, now) result (statement_run log_trees meant index x s account))
      (first_stage before)
      (subst
      (λ (s : Spot). EndsAs {Y = Y} (stage_on ended at_last context_last place_last after, now) result
      (statement_run log_trees s index x (stage_on given at_first context_first place_first before) account))
      spot_is h))

-- conditions that were judged there
pub taken_on : (result : Result Bool PlainStop) (spot meant : Spot) (one other : List PlannedCondition) (account now : Account) (cache : Pairs)
    (given lent : Store) (at_first root : ℕ) (context_first context : Context) (place_first place : Place) → spot ≡ meant → one ≡ other → given ≡ lent
    → at_first ≡ root → context_first ≡ context → place_first ≡ place
    → Ends now result (taken log_trees spot one (stage_on given at_first context_first place_first cache) account)
    → Ends now result (taken log_trees meant other (stage_on lent root context place cache) account)
taken_on result spot meant one other account now cache given lent at_first root context_first context place_first place spot_is conditions_are forest_is root_is
    context_is place_is h =
    subst (λ (s : Stage Batch). Ends now result (taken log_trees meant other s account))
    (same_stage given lent at_first root context_first context place_first place cache forest_is root_is context_is place_is)
    (subst (λ (cs : List PlannedCondition). Ends now result (taken log_trees meant cs (stage_on given at_first context_first place_first cache) account)) conditions_are
    (subst (λ (s : Spot). Ends now result (taken log_trees s one (stage_on given at_first context_first place_first cache) account)) spot_is h))
