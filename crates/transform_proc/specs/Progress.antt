-- Where a run of the transform processor on a root of a forest stands, by numbers, and the run that
-- this is.
use Rattle.std.specs.Prelude.{◌≡◌, ℕ, suc, Bool, true, false, drop, List, [], ◌∷◌, Option, None, Some, IfSome, slice_get}
use Rattle.conf_draft.specs.declared.draft.ErrorMode.{ErrorMode}
use Rattle.conf_json.specs.Account.{Account}
use Rattle.conf_json.specs.declared.account.StepEnd.{StepEnd}
use Rattle.conf_json.specs.declared.settings.Group.{Group}
use Rattle.conf_json.specs.declared.settings.TransformSettings.{TransformSettings}
use Rattle.pdata_tree.specs.Operations.{log_trees}
use Rattle.pdata_tree.specs.Places.{targets}
use Rattle.pdata_tree.specs.declared.batch.Batch.{Batch}
use Rattle.pdata_tree.specs.declared.place.Place.{Place}
use Rattle.proc_targets.specs.Ends.{EndsUnder}
use Rattle.proc_targets.specs.Judging.{no_pairs}
use Rattle.proc_targets.specs.Stepping.{Stepped, On, End, Came, steps_more}
use Rattle.share_cow.specs.Kept.{KeepsOthers}
use Rattle.share_cow.specs.Scene.{tree_of}
use Rattle.share_cow.specs.Store.{Store}
use Rattle.transform_proc.specs.Steps.{Work, judging, running, Cursor, Here, State, first_work, transform_step}
use Rattle.transform_proc.specs.declared.stepping.Target.{Target}
use Rattle.transform_proc.specs.declared.cursor.Running.{Running}

-- Which group and which of its targets the work is at: so many before it are ended. Then, once its
-- conditions are judged, the statement that runs next on the target, and the cache; the group's
-- targets, once they are listed; the steps that were done and the targets that were ended; and
-- whether the run is over.
pub record Progress : Type 0 where
  pub group : ℕ
  pub target : ℕ
  pub running : Option Running
  pub listed : Option (List Place)
  pub steps : ℕ
  pub ended : ℕ
  pub over : Bool

-- no step is done
abbrev pub no_progress : Progress
no_progress = record {
  group = 0;
  target = 0;
  running = None;
  listed = None;
  steps = 0;
  ended = 0;
  over = false;
}

-- all statements, from the empty cache
abbrev pub first_running : Running
first_running = record { index = 0; cache = no_pairs }

-- the work that is left on the target at hand
abbrev pub work_at : Group → Option Running → Work
work_at g None = first_work g
work_at g (Some r) = running r.index (drop r.index g.statements) r.cache

-- the work on a target at its start, by whether statements run at once
abbrev pub begins_with : Bool → Group → Work
begins_with true g = running 0 g.statements no_pairs
begins_with false g = judging

-- the targets that are left of the first of the groups left, where so many are ended
abbrev pub targets_at : ℕ → Batch → List Group → List Place
targets_at target tree [] = []
targets_at target tree (g ∷ gs) = drop target (targets tree g.context)

-- the work that is left on the first of these
abbrev pub first_at : Option Running → List Group → Work
first_at r [] = judging
first_at r (g ∷ gs) = work_at g r

-- what is left to do, with these groups left
abbrev pub left_at : Progress → Batch → List Group → Cursor
left_at p tree groups = record {
  number = p.group;
  groups = groups;
  targets = targets_at p.target tree groups;
  work = first_at p.running groups;
  steps = p.steps;
  ended = p.ended;
}

-- the run
abbrev pub run_of : TransformSettings → Batch → Progress → Account → State Batch
run_of settings tree p account = record {
  tree = tree;
  cursor = left_at p tree (drop p.group settings.log_statements);
  account = account;
}

-- the group at hand and those behind it, and the target at hand and those behind it
abbrev pub here : TransformSettings → Batch → Progress → Group → Place → Here
here settings tree p group place = record {
  group = group;
  groups = drop (suc p.group) settings.log_statements;
  place = place;
  places = drop (suc p.target) (targets tree group.context);
}

-- moving on counts no step and ends no run
pub record Beside (old new : Progress) : Type 0 where
  pub steps : new.steps ≡ old.steps
  pub over : new.over ≡ old.over

-- the targets that are listed are those of the group at hand
abbrev pub Fits : TransformSettings → Batch → Progress → Type 0
Fits settings tree p = (group : Group) → slice_get settings.log_statements p.group ≡ Some group
    → IfSome p.listed (λ places. places ≡ targets tree group.context)

-- a run goes on where groups are left
abbrev pub goes_on : State Batch → List Group → Stepped (State Batch)
goes_on s [] = End s
goes_on s (g ∷ gs) = On s

-- so many steps of a run
abbrev pub run_steps : ErrorMode → ℕ → State Batch → Stepped (State Batch)
run_steps mode = steps_more (transform_step log_trees mode) (λ s. goes_on s s.cursor.groups)

-- a target of the group at hand, which is listed
pub record AtTarget (settings : TransformSettings) (tree : Batch) (p : Progress)
    (t : Target) : Type 0 where
  pub mode : t.turn.mode ≡ settings.error_mode
  pub number : t.turn.number ≡ p.group
  pub group : slice_get settings.log_statements p.group ≡ Some t.turn.group.now
  pub listed : p.listed ≡ Some (targets tree t.turn.group.now.context)
  pub place : slice_get (targets tree t.turn.group.now.context) p.target ≡ Some t.place

-- What a step, or a part of one, leaves of a run on a root: the run is what is meant, or where
-- memory ran out what it was before; so many steps are counted; the targets that are listed are
-- those of the group at hand; and all other roots are kept.
pub record Leaves (settings : TransformSettings) (root : ℕ) (meant : Stepped (State Batch))
    (before : State Batch) (steps : ℕ) (p q : Progress) (old new : Store) (account : Account)
    (result : StepEnd) : Type 0 where
  pub step : Came meant before (run_of settings (tree_of new root) q account) result
  pub counted : q.steps ≡ steps
  pub over : q.over ≡ p.over
  pub fits : Fits settings (tree_of new root) q
  pub keeps : KeepsOthers root old new
  pub failed : EndsUnder settings.error_mode result
