-- What the parts of a step leave.
use Rattle.std.proofs.Common.{◌≡◌, ◌∙◌, ◌≤◌, ◌++◌, ℕ, suc, Bool, [], ◌∷◌, length, Some, Ok, Err, ap, sym, refl, arith}
use Rattle.std.specs.Prelude.{Option, not, slice_get}
use Rattle.conf_json.specs.Account.{Account}
use Rattle.conf_json.specs.declared.account.PlainStop.{PlainStop}
use Rattle.conf_json.specs.declared.account.PlainStop.TheVariants.{Failed, NoMemory}
use Rattle.conf_json.specs.declared.account.StepEnd.{StepEnd}
use Rattle.conf_json.specs.declared.account.StepEnd.TheVariants as end
use Rattle.conf_json.specs.declared.settings.FilterSettings.{FilterSettings}
use Rattle.pdata_tree.specs.Operations.{log_trees}
use Rattle.pdata_tree.specs.Places.{targets}
use Rattle.pdata_tree.specs.declared.batch.Batch.{Batch}
use Rattle.pdata_tree.specs.declared.place.Context.TheVariants.{Log}
use Rattle.pdata_tree.specs.declared.place.Place.{Place}
use Rattle.proc_targets.specs.Ends.{StopsAs, StopsUnder, end_at}
use Rattle.proc_targets.specs.Stepping.{End, steps_after}
use Rattle.share_cow.specs.Kept.{AllStay}
use Rattle.share_cow.specs.Scene.{tree_of}
use Rattle.share_cow.specs.Store.{Store}
use Rattle.share_cow.specs.Views.{batch_or_empty}
use Rattle.filter_proc.proofs.Judging.{step_at, was_judged, went_on, were_removed}
use Rattle.filter_proc.specs.Meaning.{dropped}
use Rattle.filter_proc.specs.Progress.{Fits, Leaves, LeavesJudged, Progress, Removed, left_in, run_in, run_of}
use Rattle.filter_proc.specs.Steps.{Cursor, State, filter_step}
use Rattle.filter_proc.specs.declared.cursor.Judged.{Judged}

-- a forest stays as it is
pub stays : (s : Store) → AllStay s s
stays s = record {
  trees = λ root. record { tree = refl; live = (λ h. h, λ h. h) };
  shared = λ root. omega arith;
  spare = refl;
  made = omega arith;
}

-- a log record was judged, and is kept or not
pub leaves_on : (settings : FilterSettings) (root : ℕ) (j k : Judged) (place : Place) (forest : Store) (before after : Account) (goes : Bool)
    → slice_get j.places (length j.flags) ≡ Some place → dropped log_trees settings (tree_of forest root) place before ≡ Ok (goes, after)
    → k.places ≡ j.places → k.flags ≡ j.flags ++ not goes ∷ [] → LeavesJudged settings root j k forest forest before after end.More
leaves_on settings root j k place forest before after goes next is places flags = record {
  step = λ steps. went_on settings (tree_of forest root) j steps before place next goes after k is places flags;
  places = places;
  keeps = refl;
  failed = tt;
}

-- judging it was stopped
pub leaves_stopped : (settings : FilterSettings) (root : ℕ) (j : Judged) (place : Place) (forest : Store) (before : Account) (stop : PlainStop)
    → slice_get j.places (length j.flags) ≡ Some place → StopsAs stop (dropped log_trees settings (tree_of forest root) place before)
    → StopsUnder settings.error_mode stop → LeavesJudged settings root j j forest forest before before (end_at stop)
leaves_stopped settings root j place forest before (Failed note) next is under = record {
  step = λ steps. was_judged settings (tree_of forest root) j steps before place next (Err note) is;
  places = refl;
  keeps = refl;
  failed = under;
}
leaves_stopped settings root j place forest before NoMemory next is under = record {
  step = λ steps. refl;
  places = refl;
  keeps = stays forest;
  failed = tt;
}

-- those that don't stay were removed
pub leaves_removed : (settings : FilterSettings) (root : ℕ) (j : Judged) (old new : Store) (account : Account) → length j.places ≤ length j.flags
    → tree_of new root ≡ log_trees.kept j.flags (tree_of old root) → Removed root old new
    → LeavesJudged settings root j j old new account account end.Finished
leaves_removed settings root j old new account past is removed = record {
  step = λ steps.
      were_removed settings (tree_of old root) j steps account past
      ∙ ap (λ (tree : Batch). End (run_in tree (Some j) steps account)) (sym is);
  places = refl;
  keeps = removed;
  failed = tt;
}

-- memory ran out, and all roots stay as they are
same_run : (root : ℕ) (j : Judged) (old new : Store) (steps : ℕ) (account : Account) → AllStay old new
    → run_in (tree_of new root) (Some j) steps account ≡ run_in (tree_of old root) (Some j) steps account
same_run root j old new steps account stay = ap (λ (tree : Option Batch). run_in (batch_or_empty tree) (Some j) steps account) (stay.trees root).tree

pub leaves_wanting : (settings : FilterSettings) (root : ℕ) (j : Judged) (old new : Store) (account : Account) → AllStay old new
    → LeavesJudged settings root j j old new account account end.NoMemory
leaves_wanting settings root j old new account stay = record {
  step = λ steps. same_run root j old new steps account stay;
  places = refl;
  keeps = stay;
  failed = tt;
}

-- A step on log records is one of a run that has these left.
module _ (settings : FilterSettings) (root : ℕ) (p : Progress) (j k : Judged) (old new : Store) (before after : Account)
    (same : (steps : ℕ) → left_in (tree_of old root) (Some j) steps ≡ left_in (tree_of old root) p.judged steps)
    (places : j.places ≡ targets (tree_of old root) Log) where
  abbrev pub behind : StepEnd → Progress
  behind result = record p { judged = Some k; steps = steps_after result p.steps }

  run_is : run_in (tree_of old root) (Some j) p.steps before ≡ run_of (tree_of old root) p before
  run_is = ap (λ (c : Cursor). record { tree = tree_of old root; cursor = c; account = before }) (same p.steps)

  step_is : filter_step log_trees settings (run_of (tree_of old root) p before) ≡ step_at settings (tree_of old root) j (suc p.steps) before
  step_is = ap (λ (s : State Batch). filter_step log_trees settings s) (sym run_is)

  places_on : k.places ≡ j.places → (now : Store) → tree_of now root ≡ tree_of old root → Fits (tree_of now root) (behind end.More)
  places_on kept now is = kept ∙ places ∙ ap (λ (tree : Batch). targets tree Log) (sym is)

  pub leaves_step : (result : StepEnd) → LeavesJudged settings root j k old new before after result
      → Leaves settings root p (behind result) old new before after result
  leaves_step end.More leaves = record {
    step = step_is ∙ leaves.step (suc p.steps);
    counted = refl;
    over = refl;
    fits = places_on leaves.places new (ap (λ (s : Store). tree_of s root) leaves.keeps);
    keeps = leaves.keeps;
    failed = tt;
  }
  leaves_step end.Finished leaves = record {
    step = step_is ∙ leaves.step (suc p.steps);
    counted = refl;
    over = refl;
    fits = tt;
    keeps = leaves.keeps;
    failed = tt;
  }
  leaves_step (end.Failed note) leaves = record {
    step = step_is ∙ leaves.step (suc p.steps);
    counted = refl;
    over = refl;
    fits = places_on leaves.places new (ap (λ (s : Store). tree_of s root) leaves.keeps);
    keeps = leaves.keeps;
    failed = leaves.failed;
  }
  leaves_step end.NoMemory leaves = record {
    step = leaves.step p.steps ∙ run_is;
    counted = refl;
    over = refl;
    fits = places_on leaves.places new (ap batch_or_empty (leaves.keeps.trees root).tree);
    keeps = leaves.keeps;
    failed = tt;
  }

-- a step that is refused at once
pub leaves_at_once : (settings : FilterSettings) (root : ℕ) (p : Progress) (forest : Store) (account : Account) → Fits (tree_of forest root) p
    → Leaves settings root p p forest forest account account end.NoMemory
leaves_at_once settings root p forest account fits = record {
  step = refl;
  counted = refl;
  over = refl;
  fits = fits;
  keeps = stays forest;
  failed = tt;
}

-- Places in a run are the same where their parts are.
abbrev of : Option Judged → ℕ → Bool → Progress
of judged steps over = record { judged = judged; steps = steps; over = over }

pub same_progress : (p q : Progress) → p.judged ≡ q.judged → p.steps ≡ q.steps → p.over ≡ q.over → p ≡ q
same_progress p q judged steps over =
    ap (λ (x : Option Judged). of x p.steps p.over) judged ∙ ap (λ (x : ℕ). of q.judged x p.over) steps ∙ ap (λ (x : Bool). of q.judged q.steps x) over

-- where memory sufficed a step is counted
pub counts : (result : StepEnd) (steps : ℕ) → (result ≡ end.NoMemory → ⊥) → steps_after result steps ≡ suc steps
counts end.More steps not = refl
counts end.Finished steps not = refl
counts (end.Failed note) steps not = refl
counts end.NoMemory steps not = absurd (not refl)
