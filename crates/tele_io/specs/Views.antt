-- Disks and sinks as they are seen from outside, and what a call does to what is seen.
use Rattle.std.specs.Prelude.{◌≡◌, ℕ, Bool, List, Option, Some, None}
use Rattle.contract_words.specs.Causes.{RoseIf}
use Rattle.contract_words.specs.Held.{Held, SameHeld}

-- a disk: what it holds under each name, None where it tells nothing, and how often its calls
-- failed
pub record DiskView : Type 0 where
  pub held : Option Held
  pub read_faults : ℕ
  pub write_faults : ℕ

-- a sink: what it holds, None where it tells nothing, and how often its writes failed
pub record SinkView : Type 0 where
  pub held : Option (List ℕ)
  pub faults : ℕ

-- Whoever told what it holds goes on telling, and what it holds changed so. Telling may begin at
-- any call.
abbrev pub Told : {A : Type 0} → (A → A → Type 0) → Option A → Option A → Type 0
Told Changes None now = Unit {0}
Told Changes (Some was) None = ⊥
Told Changes (Some was) (Some now) = Changes was now

-- The disk was read: what it holds stays, and this was found of it. A fault is counted among the
-- reads.
pub record Reads (fault : Bool) (Finds : Held → Type 0) (old new : DiskView) : Type 0 where
  pub told : Told (λ was now. SameHeld was now × Finds was) old.held new.held
  pub cause : RoseIf fault old.read_faults new.read_faults
  pub other_count : new.write_faults ≡ old.write_faults

-- The disk was written, which changed so what it holds. A fault is counted among the writes.
pub record Writes (fault : Bool) (Changes : Held → Held → Type 0) (old new : DiskView)
    : Type 0 where
  pub told : Told Changes old.held new.held
  pub cause : RoseIf fault old.write_faults new.write_faults
  pub other_count : new.read_faults ≡ old.read_faults

-- The sink was written, which changed so what it holds. A fault is counted.
pub record Sends (fault : Bool) (Changes : List ℕ → List ℕ → Type 0) (old new : SinkView)
    : Type 0 where
  pub told : Told Changes old.held new.held
  pub cause : RoseIf fault old.faults new.faults
