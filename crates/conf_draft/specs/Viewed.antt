-- A value that may be there, as data.
use Rattle.std.specs.Prelude.{Option, option_map}
use Rattle.std.specs.Borrow.{Bor}
use Rattle.serde_json.specs.Data.{Data}
use Rattle.serde_json.specs.View.{view}
use Rattle.serde_json.specs.declared.value.Value.{Value}

-- the value there, where there is one
abbrev pub viewed : Option (Bor Value) → Option Data
viewed there = option_map (λ value. view value.now) there
