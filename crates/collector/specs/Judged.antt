-- Inside `check`: what the code says, and why a configuration can't be read.
use Rattle.std.specs.Prelude.{ℕ, List, Result, Ok, Err, string_bytes}
use Rattle.tele_io.specs.declared.whole.ReadStop.{ReadStop}
use Rattle.tele_io.specs.declared.whole.ReadStop.TheVariants as read_stop
use Rattle.collector.specs.declared.check.Said.{Said}
use Rattle.collector.specs.declared.check.Said.TheVariants.{Legs, Fault}
use Rattle.collector.specs.declared.status.Status.{Status}
use Rattle.collector.specs.declared.status.Status.TheVariants.{ReadFault, NoMemory, TooLong}

-- the text, or the note
abbrev pub answer_of : Said → Result (List ℕ) (List ℕ)
answer_of (Legs text) = Ok (string_bytes text)
answer_of (Fault note) = Err (string_bytes note)

-- the status of a run that couldn't read its configuration
abbrev pub status_of_read : ReadStop → Status
status_of_read read_stop.Fault = ReadFault
status_of_read read_stop.TooLong = TooLong
status_of_read read_stop.NoMemory = NoMemory
