-- Printed faults.
use Rattle.std.specs.Prelude.{◌++◌, ℕ, List, codes, Option, Some, None}
use Rattle.std.specs.Fmt.{decimal}
use Rattle.ottl_lex.specs.declared.fault.SyntaxKind.{SyntaxKind}
use Rattle.ottl_lex.specs.declared.fault.SyntaxKind.TheVariants.{BadChar, OpenText, BadEscape, NotUtf8, Fraction, BadNumber, Wide, Unexpected, ConditionWanted, ValueWanted, TooDeep}
use Rattle.ottl_lex.specs.declared.fault.SyntaxFault.{SyntaxFault}
use Rattle.ottl_lex.specs.declared.fault.SyntaxStop.{SyntaxStop}
use Rattle.ottl_lex.specs.declared.fault.SyntaxStop.TheVariants.{Fault, NoMemory}

-- a fault's name
abbrev pub kind_name : SyntaxKind → List ℕ
kind_name BadChar = codes "BadChar"
kind_name OpenText = codes "OpenText"
kind_name BadEscape = codes "BadEscape"
kind_name NotUtf8 = codes "NotUtf8"
kind_name Fraction = codes "Fraction"
kind_name BadNumber = codes "BadNumber"
kind_name Wide = codes "Wide"
kind_name Unexpected = codes "Unexpected"
kind_name ConditionWanted = codes "ConditionWanted"
kind_name ValueWanted = codes "ValueWanted"
kind_name TooDeep = codes "TooDeep"

-- a fault as it is printed
abbrev pub fault_text : SyntaxFault → List ℕ
fault_text fault = kind_name fault.kind ++ codes " at " ++ decimal fault.at

-- the fault of an error; None for want of memory
abbrev pub fault_of : SyntaxStop → Option SyntaxFault
fault_of (Fault fault) = Some fault
fault_of NoMemory = None
