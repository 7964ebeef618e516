-- What is said of a configuration: its legs, or the note of its fault.
use Rattle.std.specs.Prelude.{ℕ, List, Result, Ok, Err}
use Rattle.conf_json.specs.declared.fault.ConfFault.{ConfFault}
use Rattle.graph_build.specs.Conf.{Conf}
use Rattle.run_texts.specs.Check.{legs_text}
use Rattle.run_texts.specs.Fault.{note_of}

-- the text of its legs, or else the note of its first fault
abbrev pub said_of : Result Conf ConfFault → Result (List ℕ) (List ℕ)
said_of (Ok conf) = Ok (legs_text conf.meant.draft conf.legs)
said_of (Err f) = Err (note_of f)
