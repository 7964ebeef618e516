-- From the read of a configuration to the whole run of `check`.
use Rattle.std.proofs.Common.{◌≡◌, ℕ, List, Option, Some, None, IfSome, Result, Ok, Err, Vec, false}
use Rattle.contract_words.specs.Held.{Held, SameHeld}
use Rattle.tele_io.specs.Views.{DiskView, SinkView, Told, Reads}
use Rattle.tele_io.specs.Whole.{FindsWhole}
use Rattle.tele_io.proofs.Tells.{told-into}
use Rattle.collector.specs.Check.{Says, Tells, Checks, max_conf, lent}
use Rattle.collector.specs.Devices.{devices}
use Rattle.collector.specs.declared.status.Status.{Status}
use Rattle.collector.specs.declared.status.Status.TheVariants.{Done, BadConf, WriteFault}

-- what a read tells of what was held
pub found-told : (P : Held → Type 0) (a b : Option Held) → Told (λ was now. SameHeld was now × P was) a b → IfSome a P
found-told P None b r = tt
found-told P (Some was) None r = absurd r
found-told P (Some was) (Some now) r = r.1

module _ (conf : List ℕ) (disk new_disk : DiskView) (out notes : SinkView) (before : ℕ) (Z : Type 0)
    (v : Vec ℕ Z) (r : Reads false (λ held. FindsWhole {Z = Z} max_conf (held conf) (Ok v)) disk new_disk) where
  found : IfSome disk.held (λ held. held conf ≡ Some v.items)
  found = found-told (λ held. held conf ≡ Some v.items) disk.held new_disk.held r.told

  files : Told SameHeld disk.held new_disk.held
  files = told-into disk.held new_disk.held r.told (λ was now t. t.0)

  module _ (after : ℕ) (new_out new_notes : SinkView) where
    -- what is said of the bytes that were read is told
    pub checks-told : (answer : Result (List ℕ) (List ℕ)) → Says v.items before after answer → (status : Status)
        → ((d : DiskView) → Tells status answer (devices d out notes) (devices d new_out new_notes))
        → Checks conf (lent (devices disk out notes) before) (lent (devices new_disk new_out new_notes) after) status
    checks-told (Ok text) says Done tells = record { bytes = v.items; found = found; leaves = record { answer = Ok text; says = says; tells = tells new_disk }; files = files }
    checks-told (Err note) says BadConf tells = record { bytes = v.items; found = found; leaves = record { answer = Err note; says = says; tells = tells new_disk }; files = files }
    checks-told (Ok text) says WriteFault tells = record { bytes = v.items; found = found; leaves = record { answer = Ok text; says = says; tells = tells new_disk }; files = files }
    checks-told (Err note) says WriteFault tells = record { bytes = v.items; found = found; leaves = record { answer = Err note; says = says; tells = tells new_disk }; files = files }
    checks-told answer says _ tells = absurd (tells new_disk)
