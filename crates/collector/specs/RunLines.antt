-- Inside `run`: what one line does, and what it needs.
use Rattle.std.specs.Prelude.{◌≡◌, ◌⊎◌, ℕ, List, [], map, Option, Result, Ok, Err, IsOk, ⊤}
use Rattle.contract_words.specs.Causes.{Rose}
use Rattle.contract_words.specs.Fronts.{GrewByFront}
use Rattle.contract_words.specs.Held.{Held, SameHeld}
use Rattle.conf_json.specs.Plans.{IsSize}
use Rattle.conf_json.specs.declared.fault.ConfStop.{ConfStop}
use Rattle.conf_json.specs.declared.fault.ConfStop.TheVariants as conf_stop
use Rattle.export_sink.specs.Files.{FileText, AreApart, OnlyThese, Changed, AddsText, AddsSome}
use Rattle.export_sink.specs.Writing.{empty_files}
use Rattle.graph_build.specs.Conf.{Conf}
use Rattle.collector.specs.Configured.{runnable}
use Rattle.collector.specs.Ends.{GrewBy, Same}
use Rattle.collector.specs.declared.stop.Stop.{Stop}
use Rattle.collector.specs.declared.stop.Stop.TheVariants as stop

-- writes to these files leave the input
abbrev pub StaysFrom : (Held → Option (List ℕ)) → List FileText → Type 0
StaysFrom input files = (was now : Held) → OnlyThese files was now → input now ≡ input was

-- the exporters write to files of their own, and leave the input
pub record ApartFrom (input : Held → Option (List ℕ)) (conf : Conf) : Type 0 where
  pub own : AreApart (empty_files conf.meant.draft.exporters)
  pub unread : StaysFrom input (empty_files conf.meant.draft.exporters)

-- nothing is gathered for any exporter
abbrev pub nothing_gathered : Conf → List (List ℕ)
nothing_gathered conf = map (λ e. []) conf.meant.draft.exporters

-- what a line whose payload gives these texts did to the files
abbrev pub LineTexts : {T : Type 0} → List FileText → Result T Stop → Held → Held → Type 0
LineTexts files (Ok x) was now = Changed AddsText files was now
LineTexts files (Err stop.WriteFault) was now = Changed AddsSome files was now
LineTexts files (Err stop.NoMemory) was now = SameHeld was now
LineTexts files (Err _) was now = ⊥

-- what it did to the notes
abbrev pub LineNotes : {T : Type 0} → List ℕ → Result T Stop → List ℕ → List ℕ → Type 0
LineNotes note (Ok x) was now = GrewBy note was now
LineNotes note (Err stop.WriteFault) was now = GrewByFront note was now
LineNotes note (Err stop.NoMemory) was now = Same was now
LineNotes note (Err _) was now = ⊥

-- why a line may stop a run
abbrev pub EndsLine : {T : Type 0} → Result T Stop → Type 0
EndsLine (Ok x) = ⊤
EndsLine (Err stop.WriteFault) = ⊤
EndsLine (Err stop.NoMemory) = ⊤
EndsLine (Err _) = ⊥

-- A plan of these bytes whose exporters write to none of the names, and the maker refused nothing;
-- or the first fault; or a pattern was refused for its size, and the maker's count rose; want of
-- memory is free.
abbrev pub Plans : ℕ → ℕ → List (List ℕ) → List ℕ → Result (List ℕ) ConfStop → Type 0
Plans before now names bytes (Ok plan) =
    (plan ≡ bytes) × IsOk (runnable names bytes) × (now ≡ before)
Plans before now names bytes (Err (conf_stop.Fault f)) =
    (runnable names bytes ≡ Err f) ⊎ (IsSize f.inner × Rose before now)
Plans before now names bytes (Err conf_stop.NoMemory) = ⊤
