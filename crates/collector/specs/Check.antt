-- What `check` makes of a configuration.
use Rattle.std.specs.Prelude.{◌≡◌, ◌⊎◌, ℕ, List, Option, Some, IfSome, Result, Ok, Err}
use Rattle.contract_words.specs.Causes.{Rose}
use Rattle.contract_words.specs.Fronts.{GrewByFront}
use Rattle.contract_words.specs.Held.{SameHeld}
use Rattle.tele_io.specs.Views.{Told}
use Rattle.tele_io.specs.Whole.{IsLonger}
use Rattle.conf_json.specs.Plans.{IsSize}
use Rattle.conf_json.specs.declared.fault.ConfFault.{ConfFault}
use Rattle.graph_build.specs.Conf.{conf_of}
use Rattle.run_texts.specs.Fault.{note_of}
use Rattle.run_texts.specs.Said.{said_of}
use Rattle.collector.specs.Devices.{Devices}
use Rattle.collector.specs.Ends.{GrewBy, Same}
use Rattle.collector.specs.declared.status.Status.{Status}
use Rattle.collector.specs.declared.status.Status.TheVariants.{Done, BadConf, ReadFault, WriteFault, NoMemory, TooLong}

-- the most bytes of a configuration
abbrev pub max_conf : ℕ
max_conf = 1048576

-- the devices, and how often the maker of patterns refused one for its size
pub record Lent : Type 0 where
  pub devices : Devices
  pub refusals : ℕ

-- the two together
abbrev pub lent : Devices → ℕ → Lent
lent devices refusals = record { devices = devices; refusals = refusals }

-- the note is that of a pattern which the maker refused for its size
pub record NotesSize (note : List ℕ) : Type 0 where
  pub fault : ConfFault
  pub is : note ≡ note_of fault
  pub of_size : IsSize fault.inner

-- What is said of the bytes of a configuration: the text of its legs, and the maker refused
-- nothing; or the note of its first fault; or that of a pattern that was refused for its size, and
-- the maker's count rose.
abbrev pub Says : List ℕ → ℕ → ℕ → Result (List ℕ) (List ℕ) → Type 0
Says bytes before now (Ok text) = (said_of (conf_of bytes) ≡ Ok text) × (now ≡ before)
Says bytes before now (Err note) =
    (said_of (conf_of bytes) ≡ Err note) ⊎ (NotesSize note × Rose before now)

-- A text is written to the output, a note to the notes; the other sink stays.
abbrev pub Prints : (List ℕ → List ℕ → List ℕ → Type 0) → Result (List ℕ) (List ℕ)
    → Devices → Devices → Type 0
Prints Grew (Ok text) old new =
    Told (Grew text) old.out.held new.out.held × Told Same old.notes.held new.notes.held
Prints Grew (Err note) old new =
    Told Same old.out.held new.out.held × Told (Grew note) old.notes.held new.notes.held

-- it is printed whole, or a front of it where it can't be written
abbrev pub Tells : Status → Result (List ℕ) (List ℕ) → Devices → Devices → Type 0
Tells Done (Ok text) old new = Prints GrewBy (Ok text) old new
Tells BadConf (Err note) old new = Prints GrewBy (Err note) old new
Tells WriteFault answer old new = Prints GrewByFront answer old new
Tells _ answer old new = ⊥

-- what is said of the bytes is told
pub record Answered (status : Status) (bytes : List ℕ) (old new : Lent) : Type 0 where
  pub answer : Result (List ℕ) (List ℕ)
  pub says : Says bytes old.refusals new.refusals answer
  pub tells : Tells status answer old.devices new.devices

-- nothing is printed
pub record Quiet (old new : Devices) : Type 0 where
  pub out : Told Same old.out.held new.out.held
  pub notes : Told Same old.notes.held new.notes.held

-- what is printed by each status
abbrev pub Leaves : Status → List ℕ → Lent → Lent → Type 0
Leaves ReadFault bytes old new = Quiet old.devices new.devices
Leaves NoMemory bytes old new = Quiet old.devices new.devices
Leaves TooLong bytes old new = Quiet old.devices new.devices
Leaves status bytes old new = Answered status bytes old new

-- what is found under the name of the configuration: these bytes, or more than there may be
abbrev pub FindsConf : Status → Option (List ℕ) → List ℕ → Type 0
FindsConf ReadFault file bytes = Unit {0}
FindsConf NoMemory file bytes = Unit {0}
FindsConf TooLong file bytes = IsLonger max_conf file
FindsConf status file bytes = file ≡ Some bytes

-- A run of `check` with this name took what it was lent from old to new, and ended so.
pub record Checks (conf : List ℕ) (old new : Lent) (status : Status) : Type 0 where
  -- the bytes of the configuration, where the disk tells them
  pub bytes : List ℕ
  pub found : IfSome old.devices.disk.held (λ held. FindsConf status (held conf) bytes)
  pub leaves : Leaves status bytes old new
  -- no file is changed
  pub files : Told SameHeld old.devices.disk.held new.devices.disk.held
