-- Error modes and the account of errors.
use Rattle.std.specs.Prelude.{◌≡◌, ◌+◌, ◌-◌, ◌^◌, ℕ, nat_lt, min, List, [], ◌∷◌, ◌++◌, length, Result, Ok, Err, if◌then◌else◌, ⊤}
use Rattle.conf_draft.specs.declared.draft.ErrorMode.{ErrorMode}
use Rattle.conf_draft.specs.declared.draft.ErrorMode.TheVariants.{Ignore, Silent, Propagate}
use Rattle.conf_json.specs.declared.account.Note.{Note}

-- how many errors there were, and notes of the first
pub record Account : Type 0 where
  pub count : ℕ
  pub notes : List Note

-- how many errors are noted
abbrev pub max_notes : ℕ
max_notes = 8

-- no error
abbrev pub empty_account : Account
empty_account = record { count = 0; notes = [] }

-- one error more, unless the count is at its greatest; and its note, where there is room
abbrev pub noted : Note → Account → Account
noted note account = record {
  count = min (account.count + 1) (2 ^ 64 - 1);
  notes = if nat_lt (length account.notes) max_notes then account.notes ++ note ∷ []
      else account.notes;
}

-- an error under a mode: the account with which the work goes on, or the note with which it ends
abbrev pub under : ErrorMode → Note → Account → Result Account Note
under Ignore note account = Ok (noted note account)
under Silent note account = Ok account
under Propagate note account = Err note

-- a call went on with the account that is meant, or ended with the note that is meant and left the
-- account as it was
abbrev pub Follows : Account → Account → Result ⊤ Note → Result Account Note → Type 0
Follows before now (Ok _) meant = meant ≡ Ok now
Follows before now (Err note) meant = (meant ≡ Err note) × (now ≡ before)
