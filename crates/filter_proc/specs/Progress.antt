-- Where a run of the filter processor on a root of a forest stands, the run that this is, and what
-- steps leave of it.
use Rattle.std.specs.Prelude.{◌≡◌, ◌≤◌, ◌+◌, ◌-◌, ◌^◌, ℕ, min, Bool, false, drop, [], length, Option, None, Some, IfSome, ⊤}
use Rattle.conf_json.specs.Account.{Account}
use Rattle.conf_json.specs.declared.account.StepEnd.{StepEnd}
use Rattle.conf_json.specs.declared.account.StepEnd.TheVariants as end
use Rattle.conf_json.specs.declared.settings.FilterSettings.{FilterSettings}
use Rattle.pdata_tree.specs.Operations.{log_trees}
use Rattle.pdata_tree.specs.Places.{targets}
use Rattle.pdata_tree.specs.Tree.{nodes, spine}
use Rattle.pdata_tree.specs.declared.batch.Batch.{Batch}
use Rattle.pdata_tree.specs.declared.place.Context.TheVariants.{Log}
use Rattle.proc_targets.specs.Ends.{EndsUnder}
use Rattle.proc_targets.specs.Stepping.{Stepped, On, Came, steps_after, steps_more}
use Rattle.share_cow.specs.Kept.{AllStay, OthersStay}
use Rattle.share_cow.specs.Scene.{tree_of}
use Rattle.share_cow.specs.Store.{IsLiveRoot, Store, made, shared, spare}
use Rattle.filter_proc.specs.Steps.{Cursor, State, filter_step, targets_step}
use Rattle.filter_proc.specs.declared.cursor.Judged.{Judged}

-- The log records, once they are listed, and whether each of those that are judged stays; the steps
-- that were done; and whether the run is over.
pub record Progress : Type 0 where
  pub judged : Option Judged
  pub steps : ℕ
  pub over : Bool

-- no step is done
abbrev pub no_progress : Progress
no_progress = record { judged = None; steps = 0; over = false }

-- what is left to do of a tree; before the log records are listed, all of it
abbrev pub left_in : Batch → Option Judged → ℕ → Cursor
left_in tree None steps = record {
  targets = targets tree Log;
  flags = [];
  steps = steps;
  ended = 0;
}
left_in tree (Some judged) steps = record {
  targets = drop (length judged.flags) judged.places;
  flags = judged.flags;
  steps = steps;
  ended = length judged.flags;
}

-- the run with this left to do
abbrev pub run_in : Batch → Option Judged → ℕ → Account → State Batch
run_in tree judged steps account = record {
  tree = tree;
  cursor = left_in tree judged steps;
  account = account;
}

-- the run
abbrev pub run_of : Batch → Progress → Account → State Batch
run_of tree p = run_in tree p.judged p.steps

-- the log records that are listed are those of the tree
abbrev pub Fits : Batch → Progress → Type 0
Fits tree p = IfSome p.judged (λ judged. judged.places ≡ targets tree Log)

-- so they are until the processor is at its end
abbrev pub FitsBehind : StepEnd → Batch → Progress → Type 0
FitsBehind end.Finished tree p = ⊤
FitsBehind _ tree p = Fits tree p

-- so many steps of a run
abbrev pub run_steps : FilterSettings → ℕ → State Batch → Stepped (State Batch)
run_steps settings = steps_more (filter_step log_trees settings) On

-- What the removal keeps of a forest: all other roots stay as they are and share no more than
-- before. It made resources and scopes and the payload's node, but no log record.
pub record Removed (root : ℕ) (old new : Store) : Type 0 where
  pub others : OthersStay root old new
  pub live : IsLiveRoot new root
  pub bound : shared new root + spine (tree_of new root) ≤ nodes (tree_of new root)
  pub made : made new ≡ min (made old + spine (tree_of new root)) (2 ^ 128 - 1)
  pub records : new.logs.added ≡ old.logs.added
  pub entries : spare new ≡ spare old

-- judging leaves a forest as it is; want of memory leaves all roots as they are
abbrev pub KeepsBehind : StepEnd → ℕ → Store → Store → Type 0
KeepsBehind end.Finished root old new = Removed root old new
KeepsBehind end.NoMemory root old new = AllStay old new
KeepsBehind _ root old new = new ≡ old

-- What a step leaves of a run on a root.
pub record Leaves (settings : FilterSettings) (root : ℕ) (p q : Progress) (old new : Store)
    (before after : Account) (result : StepEnd) : Type 0 where
  pub step : Came (filter_step log_trees settings (run_of (tree_of old root) p before))
      (run_of (tree_of old root) p before) (run_of (tree_of new root) q after) result
  pub counted : q.steps ≡ steps_after result p.steps
  pub over : q.over ≡ p.over
  pub fits : FitsBehind result (tree_of new root) q
  pub keeps : KeepsBehind result root old new
  pub failed : EndsUnder settings.error_mode result

-- the same of the log records that are judged, whatever number of steps was done
pub record LeavesJudged (settings : FilterSettings) (root : ℕ) (one other : Judged)
    (old new : Store) (before after : Account) (result : StepEnd) : Type 0 where
  pub step : (steps : ℕ)
      → Came (targets_step log_trees settings (run_in (tree_of old root) (Some one) steps before)
      (drop (length one.flags) one.places))
      (run_in (tree_of old root) (Some one) steps before)
      (run_in (tree_of new root) (Some other) steps after) result
  pub places : other.places ≡ one.places
  pub keeps : KeepsBehind result root old new
  pub failed : EndsUnder settings.error_mode result
