-- Faults with their places, and what a call tells of them.
use Rattle.std.specs.Prelude.{◌≡◌, ℕ, List, Option, Some, None, Result, Ok, Err, ⊤}
use Rattle.conf_shape.specs.declared.kind.FaultKind.{FaultKind}
use Rattle.conf_shape.specs.declared.fault.PointedFault.{PointedFault}
use Rattle.conf_shape.specs.declared.fault.PointedStop.{PointedStop}
use Rattle.conf_shape.specs.declared.fault.PointedStop.TheVariants.{Fault, NoMemory}

-- the fault of that kind at the pointer
abbrev pub fault : FaultKind → List ℕ → PointedFault
fault kind at = record { kind = kind; at = at }

-- the first fault of two walks, one after the other
abbrev pub first_of : Option PointedFault → Option PointedFault → Option PointedFault
first_of (Some f) later = Some f
first_of None later = later

infixl 10 ◌>>=◌
-- what follows, where there is no fault before it
abbrev pub ◌>>=◌ : {X Y : Type 0} → Result X PointedFault → (X → Result Y PointedFault)
    → Result Y PointedFault
Ok x >>= go = go x
Err f >>= go = Err f

-- the fault, or what stands where there is none
abbrev pub unless : {X : Type 0} → Option PointedFault → X → Result X PointedFault
unless (Some f) x = Err f
unless None x = Ok x

-- the fault, where it isn't want of memory
abbrev pub fault_in : PointedStop → Option PointedFault
fault_in (Fault f) = Some f
fault_in NoMemory = None

-- it is that fault, unless memory ran out
abbrev pub Tells : PointedStop → PointedFault → Type 0
Tells (Fault f) g = f ≡ g
Tells NoMemory g = ⊤

-- a call that looks for the first fault found that one, or none
abbrev pub Finds : {T : Type 0} → Result T PointedStop → Option PointedFault → Type 0
Finds (Ok _) found = found ≡ None
Finds (Err (Fault f)) found = found ≡ Some f
Finds (Err NoMemory) found = ⊤
