-- A run goes on where groups are left.
use Rattle.std.proofs.Common.{◌≡◌, ◌∙◌, ◌≤◌, ◌-◌, ℕ, suc, Bool, true, false, List, [], ◌∷◌, ap, arith, refl, subst, sym, Result, Ok, Err}
use Rattle.conf_draft.specs.declared.draft.ErrorMode.{ErrorMode}
use Rattle.conf_json.specs.Account.{Account}
use Rattle.conf_json.specs.declared.account.Note.{Note}
use Rattle.conf_json.specs.declared.account.Part.TheVariants.{GroupCondition, Statement}
use Rattle.conf_json.specs.declared.settings.Group.{Group}
use Rattle.ottl_eval.specs.Stages.{Stage, stage}
use Rattle.ottl_plan.specs.declared.planned.PlannedStatement.{PlannedStatement}
use Rattle.pdata_tree.specs.Operations.{log_trees}
use Rattle.pdata_tree.specs.declared.batch.Batch.{Batch}
use Rattle.pdata_tree.specs.declared.place.Place.{Place}
use Rattle.proc_targets.specs.Judging.{no_pairs}
use Rattle.proc_targets.proofs.Stepping.{one_step_more}
use Rattle.proc_targets.specs.Stepping.{Stepped, On, End, Fail, Came, came, onward, steps_after}
use Rattle.conf_json.specs.declared.account.StepEnd.{StepEnd}
use Rattle.conf_json.specs.declared.account.StepEnd.TheVariants as end
use Rattle.transform_proc.specs.Meaning.{spot_of, statement_run, taken}
use Rattle.transform_proc.specs.Progress.{goes_on, run_steps}
use Rattle.transform_proc.specs.Steps.{Work, judging, running, Here, State, ended_one, groups_step, judged, left_on, next_group, next_target, ran_one, stepped_one, target_step, targets_step, transform_step, turn}

-- what a run that has groups left does
abbrev pub stands : State Batch → Stepped (State Batch)
stands s = goes_on s s.cursor.groups

pub stands_still : (s t : State Batch) → stands s ≡ On t → t ≡ s
stands_still s t is = with_groups_left s.cursor.groups is where
  with_groups_left : (groups : List Group) → goes_on s groups ≡ On t → t ≡ s
  with_groups_left [] is = absurd (cc is)
  with_groups_left (g ∷ gs) is = cc is

-- what goes on has groups left
abbrev Settled : Stepped (State Batch) → Type 0
Settled r = onward stands r ≡ r

of_groups : (s : State Batch) (gs : List Group) → Settled (next_group log_trees s gs)
of_groups s [] = refl
of_groups s (g ∷ gs) = refl

of_targets : (s : State Batch) (g : Group) (gs : List Group) (ps : List Place) → Settled (next_target log_trees s g gs ps)
of_targets s g gs [] = of_groups (ended_one s) gs
of_targets s g gs (p ∷ ps) = refl

of_work : (s : State Batch) (h : Here) (work : Work) → Settled (left_on log_trees s h work)
of_work s h (running index [] cache) = of_targets s h.group h.groups h.places
of_work s h (running index (x ∷ xs) cache) = refl
of_work s h judging = refl

of_judged : (s : State Batch) (h : Here) (r : Result (Bool × Account) Note) → Settled (judged log_trees s h r)
of_judged s h (Ok (true, account)) = of_work (record s { account = account }) h (running 0 h.group.statements no_pairs)
of_judged s h (Ok (false, account)) = of_targets (record s { account = account }) h.group h.groups h.places
of_judged s h (Err note) = refl

of_ran : (s : State Batch) (h : Here) (index : ℕ) (xs : List PlannedStatement) (r : Result (Stage Batch × Account) Note) → Settled (ran_one log_trees s h index xs r)
of_ran s h index xs (Ok t) = of_work (record s { tree = t.0.tree; account = t.1 }) h (running index xs t.0.cache)
of_ran s h index xs (Err note) = refl

of_target : (mode : ErrorMode) (s : State Batch) (h : Here) (work : Work) → Settled (target_step log_trees mode s h work)
of_target mode s h judging =
    of_judged s h
    (taken log_trees (spot_of (turn mode s.cursor h.group) GroupCondition h.place) h.group.conditions (stage s.tree h.group.context h.place no_pairs) s.account)
of_target mode s h (running index [] cache) = of_targets s h.group h.groups h.places
of_target mode s h (running index (x ∷ xs) cache) =
    of_ran s h (suc index) xs
    (statement_run log_trees (spot_of (turn mode s.cursor h.group) Statement h.place) index x (stage s.tree h.group.context h.place cache) s.account)

of_places : (mode : ErrorMode) (s : State Batch) (g : Group) (gs : List Group) (ps : List Place) → Settled (targets_step log_trees mode s g gs ps)
of_places mode s g gs [] = of_groups s gs
of_places mode s g gs (p ∷ ps) = of_target mode s (record { group = g; groups = gs; place = p; places = ps }) s.cursor.work

of_left : (mode : ErrorMode) (s : State Batch) (gs : List Group) → Settled (groups_step log_trees mode s gs)
of_left mode s [] = refl
of_left mode s (g ∷ gs) = of_places mode s g gs s.cursor.targets

pub step_settled : (mode : ErrorMode) (s : State Batch) → Settled (transform_step log_trees mode s)
step_settled mode s = of_left mode (stepped_one s) s.cursor.groups

-- where groups are left the run goes on
pub stands_on : (s : State Batch) (g : Group) (gs : List Group) → s.cursor.groups ≡ g ∷ gs → stands s ≡ On s
stands_on s g gs is = ap (goes_on s) is

pub goes_from : (mode : ErrorMode) (s t : State Batch) → transform_step log_trees mode s ≡ On t → stands t ≡ On t
goes_from mode s t is = subst (λ (r : Stepped (State Batch)). onward stands r ≡ r) is (step_settled mode s)

settled_as : (mode : ErrorMode) (s : State Batch) (r : Stepped (State Batch)) → transform_step log_trees mode s ≡ r → onward stands r ≡ r
settled_as mode s r is = subst (λ (x : Stepped (State Batch)). onward stands x ≡ x) is (step_settled mode s)

-- behind some steps, one more
pub one_more_came : (mode : ErrorMode) (n : ℕ) (first s t : State Batch) (result : StepEnd) → run_steps mode n first ≡ On s
    → Came (transform_step log_trees mode s) s t result → run_steps mode (steps_after result n) first ≡ came result t
one_more_came mode n first s t end.More at is = one_step_more (transform_step log_trees mode) stands stands_still n first s (On t) at is (settled_as mode s (On t) is)
one_more_came mode n first s t end.Finished at is =
    one_step_more (transform_step log_trees mode) stands stands_still n first s (End t) at is (settled_as mode s (End t) is)
one_more_came mode n first s t (end.Failed note) at is =
    one_step_more (transform_step log_trees mode) stands stands_still n first s (Fail t note) at is (settled_as mode s (Fail t note) is)
one_more_came mode n first s t end.NoMemory at is = at ∙ ap (λ (x : State Batch). On x) (sym is)

pub steps_since : (result : StepEnd) (now first : ℕ) → first ≤ now → steps_after result now - first ≡ steps_after result (now - first)
steps_since end.More now first since = omega (arith, since)
steps_since end.Finished now first since = omega (arith, since)
steps_since (end.Failed note) now first since = omega (arith, since)
steps_since end.NoMemory now first since = refl
