-- What a statement came to, and what its outcome does to the account.
use Rattle.std.proofs.Common.{◌≡◌, ◌≢◌, ℕ, ap, refl, subst, sym, OnOk, Result, Ok, Err}
use Rattle.conf_json.specs.declared.account.Note.{Note}
use Rattle.conf_json.specs.declared.account.PlainStop.{PlainStop}
use Rattle.conf_json.specs.declared.account.PlainStop.TheVariants.{Failed, NoMemory}
use Rattle.conf_json.specs.Account.{Account}
use Rattle.ottl_eval.specs.Statements.{Runs}
use Rattle.ottl_eval.specs.declared.outcome.Outcome.{Outcome}
use Rattle.ottl_eval.specs.declared.outcome.Outcome.TheVariants as outcome
use Rattle.proc_targets.proofs.Stops.{stops_on}
use Rattle.proc_targets.specs.Ends.{EndsAs}
use Rattle.proc_targets.specs.Judging.{◌>>=◌}
use Rattle.proc_targets.specs.declared.spot.Spot.{Spot}
use Rattle.transform_proc.specs.Meaning.{account_after}

-- what was met, with what stands beside it
ends_on : {X Y : Type 0} (met : Result Y PlainStop) (meant : Result Account Note) (now : Account) (new : X) → EndsAs now met meant
    → EndsAs {X = X × Account} (new, now) met (meant >>= λ noted. Ok (new, noted))
ends_on (Ok y) meant now new ends = ap (λ (m : Result Account Note). m >>= λ noted. Ok (new, noted)) ends
ends_on (Err stop) meant now new ends = stops_on stop meant (λ noted. Ok (new, noted)) ends

-- the same of what a statement is meant to come to
along : {X Y : Type 0} (spot : Spot) (index : ℕ) (account now : Account) (new : X) (met : Result Y PlainStop) (one other : Outcome × X) → one ≡ other
    → EndsAs {X = X × Account} (new, now) met (account_after spot index one.0 account >>= λ noted. Ok (one.1, noted))
    → EndsAs {X = X × Account} (new, now) met (account_after spot index other.0 account >>= λ noted. Ok (other.1, noted))
along {X = X} spot index account now new met one other same h =
    subst (λ (m : Outcome × X). EndsAs {X = X × Account} (new, now) met (account_after spot index m.0 account >>= λ noted. Ok (m.1, noted))) same h

-- what a statement came to, and the account behind it
pub outcome_ends : {X Y : Type 0} (spot : Spot) (index : ℕ) (account now : Account) (meant : Outcome × X) (old new : X) (result : Outcome)
    (met : Result Y PlainStop) → Runs meant old new result → EndsAs now met (account_after spot index result account)
    → OnOk met (result ≢ outcome.NoMemory)
    → EndsAs {X = X × Account} (new, now) met (account_after spot index meant.0 account >>= λ noted. Ok (meant.1, noted))
outcome_ends spot index account now meant old new outcome.Done met runs ends apart =
    along spot index account now new met _ meant (sym runs) (ends_on met (account_after spot index outcome.Done account) now new ends)
outcome_ends spot index account now meant old new outcome.Skipped met runs ends apart =
    along spot index account now new met _ meant (sym runs) (ends_on met (account_after spot index outcome.Skipped account) now new ends)
outcome_ends spot index account now meant old new (outcome.Err err) met runs ends apart =
    along spot index account now new met _ meant (sym runs) (ends_on met (account_after spot index (outcome.Err err) account) now new ends)
outcome_ends spot index account now meant old new outcome.NoMemory (Ok y) runs ends apart = absurd (apart refl)
outcome_ends spot index account now meant old new outcome.NoMemory (Err (Failed note)) runs ends apart = absurd (cc ends)
outcome_ends spot index account now meant old new outcome.NoMemory (Err NoMemory) runs ends apart = tt
