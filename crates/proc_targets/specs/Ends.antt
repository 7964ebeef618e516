-- How the calls of a component end. Want of memory is free.
use Rattle.std.specs.Prelude.{◌≡◌, Result, Ok, Err, ⊤}
use Rattle.conf_json.specs.Account.{Account}
use Rattle.conf_json.specs.declared.account.Note.{Note}
use Rattle.conf_json.specs.declared.account.PlainStop.{PlainStop}
use Rattle.conf_json.specs.declared.account.PlainStop.TheVariants.{Failed, NoMemory}
use Rattle.conf_json.specs.declared.account.StepEnd.{StepEnd}
use Rattle.conf_json.specs.declared.account.StepEnd.TheVariants as end
use Rattle.conf_draft.specs.declared.draft.ErrorMode.{ErrorMode}
use Rattle.conf_draft.specs.declared.draft.ErrorMode.TheVariants.{Propagate}

-- the note that is meant, or want of memory
abbrev pub StopsAs : {X : Type 0} → PlainStop → Result X Note → Type 0
StopsAs (Failed note) meant = meant ≡ Err note
StopsAs NoMemory meant = ⊤

-- a call left what is meant, or ended with the note that is meant
abbrev pub EndsAs : {X Y : Type 0} → X → Result Y PlainStop → Result X Note → Type 0
EndsAs new (Ok _) meant = meant ≡ Ok new
EndsAs new (Err stop) meant = StopsAs stop meant

-- a call answered what is meant and left the account that is meant, or ended with the note that is
-- meant
abbrev pub Ends : {X : Type 0} → Account → Result X PlainStop → Result (X × Account) Note → Type 0
Ends now (Ok x) meant = meant ≡ Ok (x, now)
Ends now (Err stop) meant = StopsAs stop meant

-- under propagate the account stays as it was
abbrev pub Stays : ErrorMode → Account → Account → Type 0
Stays mode before now = mode ≡ Propagate → now ≡ before

-- the note of a stop is that of an error under propagate
abbrev pub StopsUnder : ErrorMode → PlainStop → Type 0
StopsUnder mode (Failed note) = mode ≡ Propagate
StopsUnder mode NoMemory = ⊤

-- a note ends the work under propagate alone
abbrev pub FailsUnder : {X : Type 0} → ErrorMode → Result X PlainStop → Type 0
FailsUnder mode (Ok _) = ⊤
FailsUnder mode (Err stop) = StopsUnder mode stop

-- how a step ends that was stopped
abbrev pub end_at : PlainStop → StepEnd
end_at (Failed note) = end.Failed note
end_at NoMemory = end.NoMemory

-- a note ends a step under propagate alone
abbrev pub EndsUnder : ErrorMode → StepEnd → Type 0
EndsUnder mode (end.Failed note) = mode ≡ Propagate
EndsUnder mode _ = ⊤
