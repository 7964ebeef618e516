-- The kinds of faults, with their numbers and printed names.
use Rattle.std.specs.Prelude.{ℕ, List, codes}
use Rattle.conf_shape.specs.declared.kind.FaultKind.{FaultKind}
use Rattle.conf_shape.specs.declared.kind.FaultKind.TheVariants.{BadJson, WrongKind, UnknownKey, MissingKey, BadName, UnknownComponent, BadMode, Repeated, UnknownPipeline, NoReceiver, NoExporter, UnusedConnector, TooManyPipelines, TooManyStatements, SamePath, BadStatement, CycleOf, TooManyRoots, TooManyLegs}

-- the number that is printed
abbrev pub number_of : FaultKind → ℕ
number_of BadJson = 1
number_of WrongKind = 2
number_of UnknownKey = 3
number_of MissingKey = 4
number_of BadName = 5
number_of UnknownComponent = 6
number_of BadMode = 7
number_of Repeated = 8
number_of UnknownPipeline = 9
number_of NoReceiver = 10
number_of NoExporter = 11
number_of UnusedConnector = 12
number_of TooManyPipelines = 13
number_of TooManyStatements = 14
number_of SamePath = 15
number_of BadStatement = 16
number_of CycleOf = 17
number_of TooManyRoots = 18
number_of TooManyLegs = 19

-- the name that is printed
abbrev pub name_of : FaultKind → List ℕ
name_of BadJson = codes "BadJson"
name_of WrongKind = codes "WrongKind"
name_of UnknownKey = codes "UnknownKey"
name_of MissingKey = codes "MissingKey"
name_of BadName = codes "BadName"
name_of UnknownComponent = codes "UnknownComponent"
name_of BadMode = codes "BadMode"
name_of Repeated = codes "Repeated"
name_of UnknownPipeline = codes "UnknownPipeline"
name_of NoReceiver = codes "NoReceiver"
name_of NoExporter = codes "NoExporter"
name_of UnusedConnector = codes "UnusedConnector"
name_of TooManyPipelines = codes "TooManyPipelines"
name_of TooManyStatements = codes "TooManyStatements"
name_of SamePath = codes "SamePath"
name_of BadStatement = codes "BadStatement"
name_of CycleOf = codes "CycleOf"
name_of TooManyRoots = codes "TooManyRoots"
name_of TooManyLegs = codes "TooManyLegs"
