-- What `run` makes of a configuration and of the lines of an input.
use Rattle.std.specs.Prelude.{◌≡◌, ◌⊎◌, ℕ, List, map, Option, Some, IfSome, Result, Ok, Err}
use Rattle.contract_words.specs.Causes.{Rose}
use Rattle.contract_words.specs.Held.{Held, SameHeld}
use Rattle.conf_draft.specs.Limits.{files_fault}
use Rattle.conf_json.specs.Fault.{lifted, ◌>>=◌}
use Rattle.conf_json.specs.Plans.{IsSize}
use Rattle.conf_json.specs.declared.fault.ConfFault.{ConfFault}
use Rattle.conf_shape.specs.Fault.{unless}
use Rattle.export_sink.specs.Files.{FileText}
use Rattle.export_sink.specs.Writing.{file}
use Rattle.graph_build.specs.Conf.{Conf, conf_of}
use Rattle.leg_model.specs.Exports.{alone}
use Rattle.leg_model.specs.Notes.{notes_from}
use Rattle.leg_model.specs.Totals.{refused, summary}
use Rattle.load_gen.specs.Payloads.{payloads}
use Rattle.run_texts.specs.Fault.{note_of}
use Rattle.tele_io.specs.Views.{Told}
use Rattle.tele_io.specs.Whole.{IsLonger}
use Rattle.collector.specs.Check.{Lent, Quiet, Tells, max_conf}
use Rattle.collector.specs.Ends.{Runs}
use Rattle.collector.specs.Meaning.{Texts, Meaning}
use Rattle.collector.specs.declared.status.Status.{Status}
use Rattle.collector.specs.declared.status.Status.TheVariants.{ReadFault, NoMemory, TooLong}

-- the configuration of these bytes, whose exporters write to none of these names; or its first
-- fault
unfoldable pub runnable : List (List ℕ) → List ℕ → Result Conf ConfFault
runnable names bytes =
    conf_of bytes >>= λ conf. lifted (unless (files_fault names conf.meant.draft) conf)

-- the file of each exporter, with what its own pipelines give of these lines
abbrev pub files_of : Conf → List (List ℕ) → List FileText
files_of conf lines = map (λ e. file e (alone conf e.name lines)) conf.meant.draft.exporters

-- all that is written for these lines
abbrev pub run_texts : Conf → List (List ℕ) → Texts
run_texts conf lines = record {
  files = files_of conf lines;
  notes = notes_from conf 1 lines;
  summary = summary conf lines;
  refused = refused lines;
}

-- the meaning of a run of this configuration over what the lines stand in
abbrev pub run_meaning : Conf → (Held → Option (List ℕ)) → Meaning
run_meaning conf input = record { input = input; texts = run_texts conf }

-- the payloads that are made from a seed, whatever the disk holds
abbrev pub made : ℕ → ℕ → Held → Option (List ℕ)
made seed count = λ held. Some (payloads seed count)

-- a status before the configuration is judged: it couldn't be read, is too long, or memory ran out
abbrev pub IsEarly : Status → Type 0
IsEarly ReadFault = Unit {0}
IsEarly NoMemory = Unit {0}
IsEarly TooLong = Unit {0}
IsEarly _ = ⊥

-- it is too long where it has more bytes than it may
abbrev pub FindsLong : Status → Option (List ℕ) → Type 0
FindsLong TooLong file = IsLonger max_conf file
FindsLong _ file = Unit {0}

-- the configuration wasn't judged: nothing is printed, and no file is changed
pub record Unjudged (conf : List ℕ) (old new : Lent) (status : Status) : Type 0 where
  pub early : IsEarly status
  pub found : IfSome old.devices.disk.held (λ held. FindsLong status (held conf))
  pub quiet : Quiet old.devices new.devices
  pub files : Told SameHeld old.devices.disk.held new.devices.disk.held

-- its fault is told, the first one or that of a pattern refused for its size; no file is changed
pub record TellsFault (judged : Result Conf ConfFault) (old new : Lent) (status : Status)
    : Type 0 where
  pub fault : ConfFault
  pub is : (judged ≡ Err fault) ⊎ (IsSize fault.inner × Rose old.refusals new.refusals)
  pub tells : Tells status (Err (note_of fault)) old.devices new.devices
  pub files : Told SameHeld old.devices.disk.held new.devices.disk.held

-- it has no fault, and what it means was run
pub record RunsMeant (judged : Result Conf ConfFault) (input : Held → Option (List ℕ))
    (old new : Lent) (status : Status) : Type 0 where
  pub conf : Conf
  pub is : judged ≡ Ok conf
  pub refusals : new.refusals ≡ old.refusals
  pub runs : Runs (run_meaning conf input) old.devices new.devices status

-- the configuration was read and judged, with these names that no exporter may write to
pub record Judged (names : List (List ℕ)) (input : Held → Option (List ℕ)) (conf : List ℕ)
    (old new : Lent) (status : Status) : Type 0 where
  pub bytes : List ℕ
  pub found : IfSome old.devices.disk.held (λ held. held conf ≡ Some bytes)
  pub ends : TellsFault (runnable names bytes) old new status
      ⊎ RunsMeant (runnable names bytes) input old new status

-- A run of the configuration with that name over what the lines stand in, whose exporters may write
-- to none of these names, took what it was lent from old to new, and ended so.
abbrev pub RunsConf : List (List ℕ) → (Held → Option (List ℕ)) → List ℕ → Lent → Lent → Status
    → Type 0
RunsConf names input conf old new status =
    Unjudged conf old new status ⊎ Judged names input conf old new status
