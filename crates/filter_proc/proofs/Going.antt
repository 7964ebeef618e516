-- One step more of a run.
use Rattle.std.proofs.Common.{◌≡◌, ◌∙◌, ◌≤◌, ◌-◌, ℕ, ap, arith, refl, sym}
use Rattle.conf_json.specs.declared.account.StepEnd.{StepEnd}
use Rattle.conf_json.specs.declared.account.StepEnd.TheVariants as end
use Rattle.conf_json.specs.declared.settings.FilterSettings.{FilterSettings}
use Rattle.pdata_tree.specs.Operations.{log_trees}
use Rattle.pdata_tree.specs.declared.batch.Batch.{Batch}
use Rattle.proc_targets.proofs.Stepping.{one_step_more}
use Rattle.proc_targets.specs.Stepping.{Stepped, On, End, Fail, Came, came, onward, steps_after}
use Rattle.filter_proc.specs.Progress.{run_steps}
use Rattle.filter_proc.specs.Steps.{State, filter_step}

settled : (r : Stepped (State Batch)) → onward On r ≡ r
settled (On s) = refl
settled (End s) = refl
settled (Fail s note) = refl

still : (s t : State Batch) → On s ≡ On t → t ≡ s
still s t is = cc is

-- behind some steps, one more
pub one_more_came : (settings : FilterSettings) (n : ℕ) (first s t : State Batch) (result : StepEnd) → run_steps settings n first ≡ On s
    → Came (filter_step log_trees settings s) s t result → run_steps settings (steps_after result n) first ≡ came result t
one_more_came settings n first s t end.More at is = one_step_more (filter_step log_trees settings) On still n first s (On t) at is (settled (On t))
one_more_came settings n first s t end.Finished at is = one_step_more (filter_step log_trees settings) On still n first s (End t) at is (settled (End t))
one_more_came settings n first s t (end.Failed note) at is =
    one_step_more (filter_step log_trees settings) On still n first s (Fail t note) at is (settled (Fail t note))
one_more_came settings n first s t end.NoMemory at is = at ∙ ap (λ (x : State Batch). On x) (sym is)

pub steps_since : (result : StepEnd) (now first : ℕ) → first ≤ now → steps_after result now - first ≡ steps_after result (now - first)
steps_since end.More now first since = omega (arith, since)
steps_since end.Finished now first since = omega (arith, since)
steps_since (end.Failed note) now first since = omega (arith, since)
steps_since end.NoMemory now first since = refl
