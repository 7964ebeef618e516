-- A group that is lent, with its number and the error mode; and outcomes that stop the work.
use Rattle.std.specs.Prelude.{⊤}
use Rattle.ottl_eval.specs.declared.outcome.Outcome.{Outcome}
use Rattle.ottl_eval.specs.declared.outcome.Outcome.TheVariants as outcome
use Rattle.transform_proc.specs.Meaning.{GroupTurn}
use Rattle.transform_proc.specs.declared.target.Turn.{Turn}

-- the group's turn
abbrev pub turn_of : Turn → GroupTurn
turn_of t = record { mode = t.mode; number = t.number; group = t.group.now }

-- an error or want of memory
abbrev pub StopsWork : Outcome → Type 0
StopsWork outcome.Done = ⊥
StopsWork outcome.Skipped = ⊥
StopsWork (outcome.Err err) = ⊤
StopsWork outcome.NoMemory = ⊤
