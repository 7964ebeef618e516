-- What the words of a command line ask for, and how that ended.
use Rattle.std.specs.Prelude.{◌≡◌, [], ◌∷◌, Option, Some, None}
use Rattle.contract_words.specs.Fronts.{GrewByFront}
use Rattle.tele_io.specs.Views.{Told}
use Rattle.collector.specs.Check.{Lent, Checks}
use Rattle.collector.specs.Configured.{RunsConf, made}
use Rattle.collector.specs.Devices.{Devices}
use Rattle.collector.specs.Ends.{GrewBy, Runs}
use Rattle.collector.specs.Meaning.{Meaning, under}
use Rattle.collector.specs.Pass.{pass_meaning}
use Rattle.collector.specs.Words.{Command, pass, check, run, demo, usage_line}
use Rattle.collector.specs.declared.status.Status.{Status}
use Rattle.collector.specs.declared.status.Status.TheVariants.{Usage, WriteFault}

-- the line of usage was written to the notes, or a front of it where it can't be written
abbrev pub GetsUsage : Status → Devices → Devices → Type 0
GetsUsage Usage old new = Told (GrewBy usage_line) old.notes.held new.notes.held
GetsUsage WriteFault old new = Told (GrewByFront usage_line) old.notes.held new.notes.held
GetsUsage _ old new = ⊥

-- a run that means this, and makes no pattern
abbrev pub RunsPlain : Meaning → Lent → Lent → Status → Type 0
RunsPlain m old new status =
    Runs m old.devices new.devices status × (new.refusals ≡ old.refusals)

-- words that ask for this took what was lent from old to new, with this status
abbrev pub Answers : Option Command → Lent → Lent → Status → Type 0
Answers None old new status = GetsUsage status old.devices new.devices
Answers (Some (pass input output)) old new status =
    RunsPlain (pass_meaning input output) old new status
Answers (Some (check conf)) old new status = Checks conf old new status
Answers (Some (run conf input)) old new status =
    RunsConf (input ∷ conf ∷ []) (under input) conf old new status
Answers (Some (demo conf seed count)) old new status =
    RunsConf (conf ∷ []) (made seed count) conf old new status
