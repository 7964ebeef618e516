-- What planning a part of a configuration answers.
use Rattle.std.specs.Prelude.{◌≡◌, ◌⊎◌, ℕ, Option, Some, None, Result, Ok, Err, ⊤}
use Rattle.contract_words.specs.Causes.{Rose}
use Rattle.ottl_plan.specs.declared.fault.PlanKind.TheVariants.{PatternSize}
use Rattle.conf_json.specs.declared.fault.ConfFault.{ConfFault}
use Rattle.conf_json.specs.declared.fault.ConfStop.{ConfStop}
use Rattle.conf_json.specs.declared.fault.ConfStop.TheVariants.{Fault, NoMemory}
use Rattle.conf_json.specs.declared.fault.Inner.{Inner}
use Rattle.conf_json.specs.declared.fault.Inner.TheVariants.{Syntax, Plan}

-- the fault is that of a pattern which the maker refused for its size
abbrev pub IsSize : Option Inner → Type 0
IsSize (Some (Plan f)) = f.kind ≡ PatternSize
IsSize (Some (Syntax f)) = ⊥
IsSize None = ⊥

-- what is planned is what is meant, and the maker refused nothing; or the first fault; or a pattern
-- was refused for its size, and the maker's count rose; want of memory is free
abbrev pub Plans : {X : Type 0} → ℕ → ℕ → Result X ConfStop → Result X ConfFault → Type 0
Plans before now (Ok x) meant = (meant ≡ Ok x) × (now ≡ before)
Plans before now (Err (Fault f)) meant = (meant ≡ Err f) ⊎ (IsSize f.inner × Rose before now)
Plans before now (Err NoMemory) meant = ⊤
