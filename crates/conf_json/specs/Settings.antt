-- The settings that the bytes of a configuration spell, or their first fault apart from those of
-- legs.
use Rattle.std.specs.Prelude.{ℕ, List, Result, Ok}
use Rattle.conf_draft.specs.declared.draft.Draft.{Draft}
use Rattle.conf_draft.specs.Drafted.{drafted}
use Rattle.conf_json.specs.declared.fault.ConfFault.{ConfFault}
use Rattle.conf_json.specs.declared.settings.Meant.{Meant}
use Rattle.conf_json.specs.Fault.{lifted, ◌>>=◌}
use Rattle.conf_json.specs.Planning.{planned_of}

-- a draft with its statements and conditions planned
abbrev pub meant_of : Draft → Result Meant ConfFault
meant_of draft = planned_of draft >>= λ planned. Ok (record { draft = draft; planned = planned })

-- names and numbers come first, then statements
unfoldable pub settings_of : List ℕ → Result Meant ConfFault
settings_of bytes = lifted (drafted bytes) >>= meant_of
