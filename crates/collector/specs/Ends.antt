-- What stands at each end of a run, whatever its command means.
use Rattle.std.specs.Prelude.{◌≡◌, ◌<◌, ◌++◌, ◌⊎◌, List, [], ◌∷◌, Option, IfSome, IsSome, ℕ}
use Rattle.contract_words.specs.Fronts.{GrewByFront}
use Rattle.contract_words.specs.Held.{SameHeld, rest_from}
use Rattle.contract_words.specs.InputLines.{Taken, ended, too_long, taking, lines_of, taken_of}
use Rattle.tele_io.specs.Views.{Told}
use Rattle.collector.specs.Devices.{Devices}
use Rattle.export_sink.specs.Files.{HoldTexts, HoldFronts, OnlyThese}
use Rattle.collector.specs.Meaning.{Texts, Meaning}
use Rattle.collector.specs.declared.status.Status.{Status}
use Rattle.collector.specs.declared.status.Status.TheVariants.{Done, SomeRefused, Usage, BadConf, ReadFault, WriteFault, NoMemory, TooLong}

-- the number of each end
abbrev pub number_of : Status → ℕ
number_of Done = 0
number_of SomeRefused = 1
number_of Usage = 2
number_of BadConf = 3
number_of ReadFault = 4
number_of WriteFault = 5
number_of NoMemory = 6
number_of TooLong = 7

-- what is taken of a file
abbrev pub input_of : Option (List ℕ) → Taken
input_of file = taken_of 0 (lines_of (rest_from file 0))

-- these lines, and then what is left
abbrev pub before : List (List ℕ) → Taken → Taken
before [] rest = rest
before (l ∷ ls) rest = taking l (before ls rest)

-- the lines of the file are these, and then what is left; a file that isn't there has none
pub record Begins (file : Option (List ℕ)) (lines : List (List ℕ)) (rest : Taken) : Type 0 where
  pub there : IsSome file
  pub is : input_of file ≡ before lines rest

-- Which lines of the file a run took: all, those before one that passes a limit, or some first
-- ones. A run whose write failed is measured by all.
abbrev pub Took : Status → Option (List ℕ) → List (List ℕ) → Type 0
Took Done file lines = Begins file lines ended
Took SomeRefused file lines = Begins file lines ended
Took TooLong file lines = Begins file lines too_long
Took WriteFault file lines =
    (input_of file ≡ before lines ended) ⊎ (input_of file ≡ before lines too_long)
Took _ file lines = (rest : Taken) × (input_of file ≡ before lines rest)

-- a complete run tells whether a line was refused
abbrev pub Refuses : Status → ℕ → Type 0
Refuses Done refused = refused ≡ 0
Refuses SomeRefused refused = 0 < refused
Refuses _ refused = Unit {0}

-- what a sink held stands before this text
abbrev pub GrewBy : List ℕ → List ℕ → List ℕ → Type 0
GrewBy text was now = now ≡ was ++ text

-- it holds what it held
abbrev pub Same : List ℕ → List ℕ → Type 0
Same was now = now ≡ was

-- What is said of a device below holds where it tells what it holds.

-- each file holds its text, and the notes were written
pub record Whole (texts : Texts) (old new : Devices) : Type 0 where
  pub files : Told (λ was now. HoldTexts texts.files now) old.disk.held new.disk.held
  pub notes : Told (GrewBy texts.notes) old.notes.held new.notes.held

-- nothing was written
pub record Untouched (old new : Devices) : Type 0 where
  pub files : Told SameHeld old.disk.held new.disk.held
  pub notes : Told Same old.notes.held new.notes.held

-- fronts of all texts were written
pub record Broken (texts : Texts) (old new : Devices) : Type 0 where
  pub files : Told (HoldFronts texts.files) old.disk.held new.disk.held
  pub notes : Told (GrewByFront texts.notes) old.notes.held new.notes.held
  pub out : Told (GrewByFront texts.summary) old.out.held new.out.held

-- the summary was written, or nothing
abbrev pub Sums : Texts → Devices → Devices → Type 0
Sums texts old new = Told (GrewBy texts.summary) old.out.held new.out.held

-- nothing was written to the output
abbrev pub Silent : Devices → Devices → Type 0
Silent old new = Told Same old.out.held new.out.held

-- what is left of these texts by each status
abbrev pub Leaves : Status → Texts → Devices → Devices → Type 0
Leaves Done texts old new = Whole texts old new × Sums texts old new
Leaves SomeRefused texts old new = Whole texts old new × Sums texts old new
Leaves TooLong texts old new = Whole texts old new × Silent old new
Leaves ReadFault texts old new = (Untouched old new ⊎ Whole texts old new) × Silent old new
Leaves NoMemory texts old new = (Untouched old new ⊎ Whole texts old new) × Silent old new
Leaves WriteFault texts old new = Broken texts old new
Leaves Usage texts old new = ⊥
Leaves BadConf texts old new = ⊥

-- A run of a command that means this took the devices from old to new, and ended so.
pub record Runs (m : Meaning) (old new : Devices) (status : Status) : Type 0 where
  -- the lines that were taken of the input, where the disk tells it
  pub lines : List (List ℕ)
  pub taken : IfSome old.disk.held (λ held. Took status (m.input held) lines)
  pub refused : Refuses status (m.texts lines).refused
  pub leaves : Leaves status (m.texts lines) old new
  pub others : Told (OnlyThese (m.texts lines).files) old.disk.held new.disk.held
