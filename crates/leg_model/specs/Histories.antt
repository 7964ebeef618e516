-- Histories of a payload's legs: how many steps were done on which leg, in the order of the turns.
use Rattle.std.specs.Prelude.{◌≡◌, ◌<◌, ◌≤◌, ◌+◌, ◌==◌, ℕ, List, [], ◌∷◌, ◌++◌, length, slice_get, Some, if◌then◌else◌}
use Rattle.graph_build.specs.Conf.{Conf}
use Rattle.graph_build.specs.declared.leg.Leg.{Leg}
use Rattle.leg_model.specs.Steps.{IsLength}
use Rattle.leg_model.specs.declared.Event.{Event}
use Rattle.pdata_tree.specs.declared.batch.Batch.{Batch}

-- the steps of an event on the leg with that number
abbrev pub steps_on : ℕ → Event → ℕ
steps_on leg event = if event.leg == leg then event.steps else 0

-- the steps that a history did on the leg with that number
abbrev pub replay : List Event → ℕ → ℕ
replay [] leg = 0
replay (event ∷ events) leg = steps_on leg event + replay events leg

-- behind a history the leg with that number is at its end
abbrev pub IsAtEnd : Conf → Batch → List Event → ℕ → Type 0
IsAtEnd conf tree history number = (leg : Leg)
    → slice_get conf.legs number ≡ Some leg → IsLength conf tree leg (replay history number)

-- An event may follow a history: it has at least one step, on a leg of the configuration, and the
-- leg above that one, if there is one, is at its end.
pub record MayFollow (conf : Conf) (tree : Batch) (history : List Event) (event : Event)
    : Type 0 where
  pub some : 0 < event.steps
  pub known : event.leg < length conf.legs
  pub parent : (leg : Leg) (above : ℕ) → slice_get conf.legs event.leg ≡ Some leg
      → leg.parent ≡ Some above → IsAtEnd conf tree history above

-- A legal history on a payload's tree: each event may follow those before it, and those of a leg
-- sum up to at most its length.
pub record Legal (conf : Conf) (tree : Batch) (history : List Event) : Type 0 where
  pub events : (before after : List Event) (event : Event)
      → history ≡ before ++ event ∷ after → MayFollow conf tree before event
  pub sums : (number : ℕ) (leg : Leg) (steps : ℕ) → slice_get conf.legs number ≡ Some leg
      → IsLength conf tree leg steps → replay history number ≤ steps

-- behind a history the leg of an event has as many steps left
abbrev pub HasLeft : Conf → Batch → List Event → Event → Type 0
HasLeft conf tree history event = (leg : Leg) (steps : ℕ)
    → slice_get conf.legs event.leg ≡ Some leg → IsLength conf tree leg steps
    → replay history event.leg + event.steps ≤ steps
