-- A value without numbers.
use Rattle.std.proofs.Common.{◌≡◌, Bool, sym, subst, arith}
use Rattle.std.specs.List.{All}
use Rattle.pdata_value.specs.Numeral.{IsNumeral}
use Rattle.json_text.specs.Writing.{numbers_of}
use Rattle.json_text.specs.declared.json.Json.{Json}
use Rattle.json_text.specs.declared.json.JsonKind.TheVariants as kinds
use Rattle.json_text.proofs.Layers.{numbers-Truth}

-- a truth has none
pub truth_numbers : (json : Json) (b : Bool) → json.kind ≡ kinds.Truth b → All IsNumeral (numbers_of json)
truth_numbers json b is = subst (All IsNumeral) (sym (numbers-Truth json b is)) (λ k d within. absurd (omega arith))
