-- What a step of a component comes to.
use Rattle.std.specs.Prelude.{◌≡◌, ℕ, zero, suc, Bool, true, false, ⊤}
use Rattle.conf_json.specs.declared.account.Note.{Note}
use Rattle.conf_json.specs.declared.account.StepEnd.{StepEnd}
use Rattle.conf_json.specs.declared.account.StepEnd.TheVariants as end

-- the work goes on from a state, or is at its end, or fails with a note
pub data Stepped (S : Type 0) : Type 0 where
  On : S → Stepped S
  End : S → Stepped S
  Fail : S → Note → Stepped S

-- what follows where the work goes on
abbrev pub onward : {S : Type 0} → (S → Stepped S) → Stepped S → Stepped S
onward go (On s) = go s
onward go (End s) = End s
onward go (Fail s note) = Fail s note

-- so many steps, where `stands` says whether there is anything to do
abbrev pub steps_more : {S : Type 0} → (S → Stepped S) → (S → Stepped S) → ℕ → S → Stepped S
steps_more step stands zero s = stands s
steps_more step stands (suc n) s = onward (steps_more step stands n) (step s)

-- what the steps of a call came to, which left this state and answered so
abbrev pub came : {S : Type 0} → StepEnd → S → Stepped S
came end.Finished s = End s
came (end.Failed note) s = Fail s note
came end.More s = On s
came end.NoMemory s = On s

-- a step came to what is meant; where memory ran out all is as before
abbrev pub Came : {S : Type 0} → Stepped S → S → S → StepEnd → Type 0
Came meant old new end.NoMemory = new ≡ old
Came meant old new result = meant ≡ came result new

-- whether a component is at its end behind a call that answered so
abbrev pub is_end : StepEnd → Bool
is_end end.Finished = true
is_end (end.Failed note) = true
is_end end.More = false
is_end end.NoMemory = false

-- how many steps were done behind one more that came to this
abbrev pub steps_after : StepEnd → ℕ → ℕ
steps_after end.NoMemory n = n
steps_after _ n = suc n

-- an answer of moves that neither fail nor take memory
abbrev pub Moved : StepEnd → Type 0
Moved end.More = ⊤
Moved end.Finished = ⊤
Moved _ = ⊥
