-- One step more.
use Rattle.std.proofs.Common.{◌≡◌, ◌∙◌, ℕ, zero, suc, ap, sym}
use Rattle.conf_json.specs.declared.account.StepEnd.{StepEnd}
use Rattle.conf_json.specs.declared.account.StepEnd.TheVariants as end
use Rattle.proc_targets.specs.Stepping.{Stepped, On, End, Fail, Came, Moved, came, onward, steps_more}

module _ {S : Type 0} (step stands : S → Stepped S) where
  -- behind a first step, where that holds of all steps behind it
  onward_more : (n : ℕ) (u : Stepped S) (t : S) (r : Stepped S) → ((v : S) → steps_more step stands n v ≡ On t → steps_more step stands (suc n) v ≡ r)
      → onward (steps_more step stands n) u ≡ On t → onward (steps_more step stands (suc n)) u ≡ r
  onward_more n (On v) t r more at = more v at
  onward_more n (End v) t r more at = absurd (cc at)
  onward_more n (Fail v note) t r more at = absurd (cc at)

  -- behind some steps that came to a state, one more comes to what the step from there does
  pub one_step_more : ((s t : S) → stands s ≡ On t → t ≡ s) → (n : ℕ) (s t : S) (r : Stepped S) → steps_more step stands n s ≡ On t → step t ≡ r
      → onward stands r ≡ r → steps_more step stands (suc n) s ≡ r
  one_step_more still zero s t r at is settled = ap (onward stands) (ap step (sym (still s t at)) ∙ is) ∙ settled
  one_step_more still (suc n) s t r at is settled = onward_more n (step s) t r (λ v h. one_step_more still n v t r h is settled) at

-- what a move came to is what a step did
pub came_moved : {S : Type 0} (meant : Stepped S) (old new : S) (result : StepEnd) → Moved result → meant ≡ came result new → Came meant old new result
came_moved meant old new end.More moved is = is
came_moved meant old new end.Finished moved is = is
came_moved meant old new (end.Failed note) moved is = absurd moved
came_moved meant old new end.NoMemory moved is = absurd moved
