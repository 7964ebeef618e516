-- Faults of a device, and the counts that tell of them.
use Rattle.std.specs.Prelude.{◌≡◌, ◌+◌, ◌-◌, ◌^◌, ◌≤◌, ℕ, Bool, true, false, min}

-- a count is greater after a call than before it, or stands at the end of its range
abbrev pub Rose : ℕ → ℕ → Type 0
Rose before now = min (before + 1) (2 ^ 64 - 1) ≤ now

-- the count rose, and doesn't fall, if that is so; it is as it was if not
abbrev pub RoseIf : Bool → ℕ → ℕ → Type 0
RoseIf true before now = (before ≤ now) × Rose before now
RoseIf false before now = now ≡ before
