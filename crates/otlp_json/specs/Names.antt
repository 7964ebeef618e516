-- The printed names of faults, with their places.
use Rattle.std.specs.Prelude.{ℕ, List, ◌++◌, codes}
use Rattle.std.specs.Fmt.{decimal}
use Rattle.otlp_json.specs.declared.error.PayloadKind.{PayloadKind}
use Rattle.otlp_json.specs.declared.error.PayloadKind.TheVariants.{BadUtf8, BadJson, TooDeep, NotObject, WrongKind, BadNumber, BadId, BadBase64, TooMany}
use Rattle.otlp_json.specs.declared.error.PayloadFault.{PayloadFault}

-- the name of a kind
abbrev pub kind_name : PayloadKind → List ℕ
kind_name BadUtf8 = codes "BadUtf8"
kind_name BadJson = codes "BadJson"
kind_name TooDeep = codes "TooDeep"
kind_name NotObject = codes "NotObject"
kind_name WrongKind = codes "WrongKind"
kind_name BadNumber = codes "BadNumber"
kind_name BadId = codes "BadId"
kind_name BadBase64 = codes "BadBase64"
kind_name TooMany = codes "TooMany"

-- a fault, as `KIND at PLACE`
unfoldable pub fault_name : PayloadFault → List ℕ
fault_name fault = kind_name fault.kind ++ codes " at " ++ decimal fault.at
