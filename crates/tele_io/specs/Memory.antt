-- Disks and sinks in memory, of which planned calls fail.
use Rattle.std.specs.Prelude.{IsTrue, ◌≡◌, ◌≢◌, ◌+◌, ◌-◌, ◌^◌, ◌==◌, ◌&&◌, ◌++◌, ◌∷◌, [], ℕ, List, Bool, false, cond, min, nat_lt, Option, Some, None, option_map}
use Rattle.std.specs.List.{list_any}
use Rattle.std.specs.Str.{bytes_eq}
use Rattle.contract_words.specs.Held.{Held}
use Rattle.tele_io.specs.Views.{DiskView, SinkView}
use Rattle.tele_io.specs.declared.memory.file.DiskOp.{DiskOp}
use Rattle.tele_io.specs.declared.memory.file.DiskOp.TheVariants.{Read, Create, Append}

-- the calls of a kind that were made, and the numbers of those that fail, counted from 1
pub record Plan : Type 0 where
  pub calls : ℕ
  pub failing : List ℕ

-- no call was made, and none fails
abbrev pub no_plan : Plan
no_plan = record { calls = 0; failing = [] }

-- one more, up to the end of a u64
abbrev pub one_more : ℕ → ℕ
one_more count = min (count + 1) (2 ^ 64 - 1)

-- the next call fails; after 2^64 - 1 calls none does
abbrev pub fails_next : Plan → Bool
fails_next p =
    nat_lt p.calls (2 ^ 64 - 1) && list_any (λ nth. nth == p.calls + 1) p.failing

-- one more call was made
abbrev pub called : Plan → Plan
called p = record { calls = one_more p.calls; failing = p.failing }

-- one more call fails
abbrev pub planned : ℕ → Plan → Plan
planned nth p = record { calls = p.calls; failing = p.failing ++ nth ∷ [] }

-- what a disk in memory knows of a name
pub record File : Type 0 where
  pub name : List ℕ
  -- None where it isn't there
  pub bytes : Option (List ℕ)
  pub reads : Plan
  pub creates : Plan
  pub appends : Plan

-- of a name that was never put, created or named by a failure
abbrev pub unknown : List ℕ → File
unknown name =
    record { name = name; bytes = None; reads = no_plan; creates = no_plan; appends = no_plan }

-- the name holds the bytes
abbrev pub holding : List ℕ → File → File
holding bytes f = record f { bytes = Some bytes }

-- the name holds the piece behind what it held
abbrev pub grown : List ℕ → File → File
grown piece f = record f { bytes = option_map (λ bytes. bytes ++ piece) f.bytes }

-- the plan of one kind of call
abbrev pub plan_of : DiskOp → File → Plan
plan_of Read f = f.reads
plan_of Create f = f.creates
plan_of Append f = f.appends

-- the plan of one kind of call is changed
abbrev pub with_plan : DiskOp → (Plan → Plan) → File → File
with_plan Read change f = record f { reads = change f.reads }
with_plan Create change f = record f { creates = change f.creates }
with_plan Append change f = record f { appends = change f.appends }

-- what is known of a name, and a name that nothing is known of
abbrev pub known : List ℕ → Option File → File
known name None = unknown name
known name (Some f) = f

-- the next call of that kind fails
abbrev pub next_fails : DiskOp → Option File → Bool
next_fails op None = false
next_fails op (Some f) = fails_next (plan_of op f)

-- the bytes of a name that is there
abbrev pub bytes_of : Option File → Option (List ℕ)
bytes_of None = None
bytes_of (Some f) = f.bytes

-- what is known of the name; no two files have one name
abbrev pub file_of : List File → List ℕ → Option File
file_of [] name = None
file_of (f ∷ fs) name = cond (bytes_eq f.name name) (Some f) (file_of fs name)

-- what a disk in memory holds
abbrev pub held_of : List File → Held
held_of files name = bytes_of (file_of files name)

-- of each other name the same is known
abbrev pub OtherFiles : List ℕ → List File → List File → Type 0
OtherFiles name old new = (other : List ℕ) → other ≢ name → file_of new other ≡ file_of old other

-- the name then holds the bytes, and its calls are counted on
abbrev pub Puts : List ℕ → List ℕ → List File → List File → Type 0
Puts name bytes old new = file_of new name ≡ Some (holding bytes (known name (file_of old name)))

-- one more call of that kind on the name fails
abbrev pub Plans : DiskOp → List ℕ → ℕ → List File → List File → Type 0
Plans op name nth old new =
    file_of new name ≡ Some (with_plan op (planned nth) (known name (file_of old name)))

-- the next call of that kind on the name fails
abbrev pub IsPlanned : DiskOp → List ℕ → List File → Type 0
IsPlanned op name files = IsTrue (next_fails op (file_of files name))

-- a call on the name was counted, if the name is known, and that is all that changed of it
abbrev pub Counted : DiskOp → List ℕ → List File → List File → Type 0
Counted op name old new = file_of new name ≡ option_map (with_plan op called) (file_of old name)

-- the same, and the name then holds no bytes; it may have been unknown
abbrev pub Creates : List ℕ → List File → List File → Type 0
Creates name old new =
    file_of new name ≡ Some (holding [] (with_plan Create called (known name (file_of old name))))

-- the same, and the name then holds the piece behind what it held
abbrev pub Grows : List ℕ → List ℕ → List File → List File → Type 0
Grows name piece old new =
    file_of new name ≡ option_map (λ f. grown piece (with_plan Append called f)) (file_of old name)

-- a disk in memory
pub record Memory : Type 0 where
  pub files : List File
  pub read_faults : ℕ
  pub write_faults : ℕ

-- no names, and no failure
abbrev pub empty_memory : Memory
empty_memory = record { files = []; read_faults = 0; write_faults = 0 }

-- as a disk it tells what it holds
abbrev pub disk_view : Memory → DiskView
disk_view m = record {
  held = Some (held_of m.files);
  read_faults = m.read_faults;
  write_faults = m.write_faults;
}

-- no failure was counted
pub record SameCounts (old new : Memory) : Type 0 where
  pub reads : new.read_faults ≡ old.read_faults
  pub writes : new.write_faults ≡ old.write_faults

-- a sink in memory
pub record Stream : Type 0 where
  pub bytes : List ℕ
  pub writes : Plan
  pub faults : ℕ

-- no bytes, and no failure
abbrev pub empty_stream : Stream
empty_stream = record { bytes = []; writes = no_plan; faults = 0 }

-- as a sink it tells what it holds
abbrev pub sink_view : Stream → SinkView
sink_view s = record { held = Some s.bytes; faults = s.faults }
