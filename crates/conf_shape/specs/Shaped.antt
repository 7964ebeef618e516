-- The value of a configuration, or the first fault before any name is looked up.
use Rattle.std.specs.Prelude.{ℕ, List, [], Option, Some, None, Result, Ok, Err, if◌then◌else◌}
use Rattle.std.specs.Str.{is_utf8}
use Rattle.serde_json.specs.Data.{Data}
use Rattle.serde_json.specs.Read.{read}
use Rattle.conf_shape.specs.declared.kind.FaultKind.TheVariants.{BadJson}
use Rattle.conf_shape.specs.declared.fault.PointedFault.{PointedFault}
use Rattle.conf_shape.specs.declared.table.Part.TheVariants.{Top}
use Rattle.conf_shape.specs.declared.table.Rule.TheVariants.{Object}
use Rattle.conf_shape.specs.Fault.{fault, unless, ◌>>=◌}
use Rattle.conf_shape.specs.Shape.{shape_fault}

-- the value that the bytes have as JSON
abbrev pub json_of : List ℕ → Option Data
json_of bytes = if is_utf8 bytes then read bytes else None

-- that value, or BadJson where there is none
abbrev pub valued : Option Data → Result Data PointedFault
valued None = Err (fault BadJson [])
valued (Some d) = Ok d

-- the value of a configuration, or the first fault of its JSON, then of its shape
unfoldable pub shaped : List ℕ → Result Data PointedFault
shaped bytes = valued (json_of bytes) >>= λ d. unless (shape_fault (Object Top) [] d) d
