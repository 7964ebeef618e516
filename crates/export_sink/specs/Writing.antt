-- What is written to the files of exporters and to the notes.
use Rattle.std.specs.Prelude.{◌≡◌, ◌++◌, ℕ, Bool, true, false, List, [], ◌∷◌, map, Result, Ok, Err}
use Rattle.contract_words.specs.Fronts.{GrewByFront}
use Rattle.contract_words.specs.Held.{Held}
use Rattle.conf_draft.specs.declared.draft.Exporter.{Exporter}
use Rattle.export_sink.specs.Files.{FileText, OnlyThese, Changed, AddsText, AddsSome, HoldTexts, HoldFronts}
use Rattle.export_sink.specs.declared.write.ExportStop.{ExportStop}
use Rattle.export_sink.specs.declared.write.ExportStop.TheVariants.{Disk, Sink}

-- the file of an exporter with that text
abbrev pub file : Exporter → List ℕ → FileText
file e text = record { name = e.path; text = text }

-- the files of exporters, each with its text
abbrev pub pieces : List Exporter → List (List ℕ) → List FileText
pieces [] texts = []
pieces (e ∷ es) [] = []
pieces (e ∷ es) (t ∷ ts) = file e t ∷ pieces es ts

-- the files of exporters, each empty
abbrev pub empty_files : List Exporter → List FileText
empty_files exporters = map (λ e. file e []) exporters

-- All files were created, and hold their texts, which are empty; after a fault only the first were.
abbrev pub Creates : {T E : Type 0} → List FileText → Result T E → Held → Held → Type 0
Creates files (Ok x) was now = HoldTexts files now × OnlyThese files was now
Creates files (Err e) was now = HoldFronts files was now × OnlyThese files was now

-- each text was added to its file; after a fault fronts of them were
abbrev pub Adds : {T E : Type 0} → List FileText → Result T E → Held → Held → Type 0
Adds files (Ok x) was now = Changed AddsText files was now
Adds files (Err e) was now = Changed AddsSome files was now

-- the disk failed
abbrev pub is_disk : {T : Type 0} → Result T ExportStop → Bool
is_disk (Err Disk) = true
is_disk _ = false

-- the sink failed
abbrev pub is_sink : {T : Type 0} → Result T ExportStop → Bool
is_sink (Err Sink) = true
is_sink _ = false

-- the texts were added to their files, unless the disk failed
abbrev pub Exports : {T : Type 0} → List FileText → Result T ExportStop → Held → Held → Type 0
Exports files (Err Disk) was now = Changed AddsSome files was now
Exports files _ was now = Changed AddsText files was now

-- the notes were added to the sink behind them, unless one of the two failed
abbrev pub Notes : {T : Type 0}
    → List ℕ → Result T ExportStop → List ℕ → List ℕ → Type 0
Notes notes (Ok x) was now = now ≡ was ++ notes
Notes notes (Err Disk) was now = now ≡ was
Notes notes (Err Sink) was now = GrewByFront notes was now
