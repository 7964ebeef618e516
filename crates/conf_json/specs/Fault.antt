-- Faults of a configuration.
use Rattle.std.specs.Prelude.{◌≡◌, ℕ, List, Option, Some, None, Result, Ok, Err, ⊤}
use Rattle.conf_shape.specs.declared.kind.FaultKind.TheVariants.{BadStatement}
use Rattle.conf_shape.specs.declared.fault.PointedFault.{PointedFault}
use Rattle.conf_shape.specs.declared.fault.PointedStop.{PointedStop}
use Rattle.conf_shape.specs.declared.fault.PointedStop.TheVariants as pointed
use Rattle.conf_json.specs.declared.fault.ConfFault.{ConfFault}
use Rattle.conf_json.specs.declared.fault.ConfStop.{ConfStop}
use Rattle.conf_json.specs.declared.fault.ConfStop.TheVariants.{Fault, NoMemory}
use Rattle.conf_json.specs.declared.fault.Inner.{Inner}

-- a statement that is wrong in that way
abbrev pub fault : List ℕ → Inner → ConfFault
fault at inner = record { kind = BadStatement; at = at; inner = Some inner }

-- a fault of another kind
abbrev pub without_inner : PointedFault → ConfFault
without_inner f = record { kind = f.kind; at = f.at; inner = None }

-- the same stop
abbrev pub from_pointed : PointedStop → ConfStop
from_pointed (pointed.Fault f) = Fault (without_inner f)
from_pointed pointed.NoMemory = NoMemory

-- what was found, with faults of this crate
abbrev pub lifted : {X : Type 0} → Result X PointedFault → Result X ConfFault
lifted (Ok x) = Ok x
lifted (Err f) = Err (without_inner f)

-- the fault, where it isn't want of memory
abbrev pub fault_of : ConfStop → Option ConfFault
fault_of (Fault f) = Some f
fault_of NoMemory = None

-- it is that fault, unless memory ran out
abbrev pub Tells : ConfStop → ConfFault → Type 0
Tells (Fault f) g = f ≡ g
Tells NoMemory g = ⊤

infixl 10 ◌>>=◌
-- what follows, where there is no fault before it
abbrev pub ◌>>=◌ : {X Y : Type 0} → Result X ConfFault → (X → Result Y ConfFault)
    → Result Y ConfFault
Ok x >>= go = go x
Err f >>= go = Err f
