-- Printed faults.
use Rattle.std.specs.Prelude.{◌++◌, ℕ, List, codes}
use Rattle.std.specs.Fmt.{decimal}
use Rattle.ottl_plan.specs.declared.fault.PlanFault.{PlanFault}
use Rattle.ottl_plan.specs.declared.fault.PlanKind.{PlanKind}
use Rattle.ottl_plan.specs.declared.fault.PlanKind.TheVariants.{UnknownPath, UnknownFunction, UnknownEnum, WrongArity, WrongKind, EditorWanted, ConverterWanted, BadMode, PatternLong, BadPattern, PatternSize}

-- a fault's name
abbrev pub kind_name : PlanKind → List ℕ
kind_name UnknownPath = codes "UnknownPath"
kind_name UnknownFunction = codes "UnknownFunction"
kind_name UnknownEnum = codes "UnknownEnum"
kind_name WrongArity = codes "WrongArity"
kind_name WrongKind = codes "WrongKind"
kind_name EditorWanted = codes "EditorWanted"
kind_name ConverterWanted = codes "ConverterWanted"
kind_name BadMode = codes "BadMode"
kind_name PatternLong = codes "PatternLong"
kind_name BadPattern = codes "BadPattern"
kind_name PatternSize = codes "PatternSize"

-- a fault as it is printed
abbrev pub fault_text : PlanFault → List ℕ
fault_text fault = kind_name fault.kind ++ codes " at " ++ decimal fault.at
