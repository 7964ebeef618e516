-- What the bytes of a configuration spell with their legs, or their first fault of all.
use Rattle.std.specs.Prelude.{◌≡◌, ℕ, List, Result, Ok, Err}
use Rattle.conf_draft.specs.declared.draft.Draft.{Draft}
use Rattle.conf_json.specs.declared.fault.ConfFault.{ConfFault}
use Rattle.conf_json.specs.declared.settings.Meant.{Meant}
use Rattle.conf_json.specs.declared.settings.Planned.{Planned}
use Rattle.conf_json.specs.Fault.{lifted, ◌>>=◌}
use Rattle.conf_json.specs.Settings.{settings_of}
use Rattle.graph_build.specs.declared.leg.Leg.{Leg}
use Rattle.graph_build.specs.Built.{legs_of}

-- what is spelled, and its legs
pub record Conf : Type 0 where
  pub meant : Meant
  pub legs : List Leg

-- what is spelled, with its legs
abbrev pub with_legs : Meant → Result Conf ConfFault
with_legs meant =
    lifted (legs_of meant.draft) >>= λ legs. Ok (record { meant = meant; legs = legs })

-- settings come first, then legs
unfoldable pub conf_of : List ℕ → Result Conf ConfFault
conf_of bytes = settings_of bytes >>= with_legs

-- the configuration has no fault, and this is that part of it
abbrev pub IsPart : {X : Type 0} → (Conf → X) → X → Result Conf ConfFault → Type 0
IsPart part x (Ok conf) = x ≡ part conf
IsPart part x (Err f) = ⊥

-- the configuration has no fault, and these legs
abbrev pub HasLegs : List Leg → Result Conf ConfFault → Type 0
HasLegs legs conf = IsPart (λ c. c.legs) legs conf

-- the configuration has no fault, and spells this
abbrev pub HasDraft : Draft → Result Conf ConfFault → Type 0
HasDraft draft conf = IsPart (λ c. c.meant.draft) draft conf

-- the configuration has no fault, and its statements are planned as this
abbrev pub HasPlanned : Planned → Result Conf ConfFault → Type 0
HasPlanned planned conf = IsPart (λ c. c.meant.planned) planned conf
