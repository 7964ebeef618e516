-- Bursts: how many steps a turn of a leg does. A turn does steps of one part, until the part is
-- ended or so many targets of it were ended.
use Rattle.std.specs.Prelude.{◌≡◌, ◌<◌, ◌+◌, ◌&&◌, ◌==◌, ℕ, Bool, true, false, Option, Some, None, nat_lt}
use Rattle.leg_model.specs.Steps.{LegState, entering, ending, filtering, grouping, is_over, routing, transforming}
use Rattle.pdata_tree.specs.declared.batch.Batch.{Batch}

-- how many targets a turn ends at most, where turns are short
abbrev pub max_targets : ℕ
max_targets = 256

-- from one count of ended targets to the other there are fewer than a turn may end; None is no
-- bound
abbrev pub are_few : Option ℕ → ℕ → ℕ → Bool
are_few None before now = true
are_few (Some most) before now = nat_lt now (before + most)

-- A turn that began at the first state goes on at the second: the leg is at the same part still,
-- and fewer of the part's targets than that were ended since. Only the parts of transform and
-- filter have more than one step.
abbrev pub goes_on : {T : Type 0} → Option ℕ → LegState T → LegState T → Bool
goes_on most (transforming s run c at) (transforming t now d here) =
    at.part == here.part && are_few most run.cursor.ended now.cursor.ended
goes_on most (filtering s run c at) (filtering t now d there) =
    at.part == there.part && are_few most run.cursor.ended now.cursor.ended
goes_on most _ _ = false

-- The burst of a leg that has done some steps; its states are these, one for each number of steps.
-- It is at least one step, up to and with the first behind which the turn doesn't go on. A leg at
-- its end has none.
pub record IsBurst (most : Option ℕ) (states : ℕ → LegState Batch) (done steps : ℕ) : Type 0 where
  pub begins : is_over (states done) ≡ false
  pub some : 0 < steps
  pub going : (k : ℕ) → 0 < k → k < steps → goes_on most (states done) (states (done + k)) ≡ true
  pub stops : goes_on most (states done) (states (done + steps)) ≡ false

-- the leg is at a part that has one step: its entry, grouping, a connector or its end
abbrev pub has_one_step : {T : Type 0} → LegState T → Bool
has_one_step (entering tree) = true
has_one_step (grouping s c at) = true
has_one_step (routing s c at) = true
has_one_step (ending taken c) = true
has_one_step _ = false
