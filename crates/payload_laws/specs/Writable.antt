-- Values of JSON that can be written and read again.
use Rattle.std.specs.Prelude.{ℕ, ◌≤◌}
use Rattle.std.specs.List.{All}
use Rattle.std.specs.Str.{IsUtf8}
use Rattle.pdata_value.specs.Numeral.{IsNumeral}
use Rattle.json_text.specs.Placed.{containers}
use Rattle.json_text.specs.Writing.{numbers_of, texts_of}
use Rattle.json_text.specs.declared.json.Json.{Json}

-- lists and objects nest at most so deep, numbers are numerals, and texts and keys are UTF-8
pub record IsWritable (depth : ℕ) (json : Json) : Type 0 where
  pub nesting : containers json ≤ depth
  pub numerals : All IsNumeral (numbers_of json)
  pub texts : All IsUtf8 (texts_of json)
