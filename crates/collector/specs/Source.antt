-- Inside a run: where its lines come from.
use Rattle.std.specs.Prelude.{◌≡◌, ℕ, true, List, Option, Result, Ok, Err, Vec, ⊤}
use Rattle.contract_words.specs.Held.{Held}
use Rattle.conf_draft.specs.References.{is_among}
use Rattle.tele_io.specs.Mark.{Mark}
use Rattle.tele_io.specs.Memory.{held_of}
use Rattle.tele_io.specs.Reading.{TakesLine}
use Rattle.tele_io.specs.declared.lines.LineStop.{LineStop}
use Rattle.collector.specs.Lines.{StopsAt}
use Rattle.collector.specs.declared.source.Source.{Source}
use Rattle.collector.specs.declared.source.Source.TheVariants.{File, Made}

-- what the lines stand in under a name: a file, or a text that was made
abbrev pub text_in : Source → List ℕ → Held → Option (List ℕ)
text_in File name = λ held. held name
text_in (Made memory) name = λ held. held_of memory.files name

-- a file under a name is one of these, so that nothing is written to it
abbrev pub IsSafeFrom : List (List ℕ) → Source → List ℕ → Type 0
IsSafeFrom names File name = is_among name names ≡ true
IsSafeFrom names (Made memory) name = ⊤

-- the next line, or the end, or why none comes
abbrev pub FindsLine : {Z : Type 0}
    → Option (List ℕ) → Mark → Mark → Result (Option (Vec ℕ Z)) LineStop → Type 0
FindsLine file old new (Ok found) = TakesLine file old new (Ok found)
FindsLine file old new (Err e) = StopsAt file old e
