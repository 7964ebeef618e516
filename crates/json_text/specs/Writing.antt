-- The text of a value of JSON, without blanks.
use Rattle.std.specs.Prelude.{ℕ, zero, suc, Bool, ◌/◌, ◌%◌, ◌==◌, true, false, cond, codes, List, [], ◌∷◌, ◌++◌, map}
use Rattle.std.specs.Char.{digit_char}
use Rattle.json_text.specs.Reading.{is_plain}
use Rattle.json_text.specs.declared.json.Json.{Json}
use Rattle.json_text.specs.declared.json.JsonKind.{JsonKind}
use Rattle.json_text.specs.declared.json.JsonKind.TheOpen.{JsonKind-F, Json-F}
use Rattle.json_text.specs.declared.json.JsonKind.TheFolds.{fold-JsonKind, fold-Json}

-- the escape of a byte that can't stand for itself: a letter of its own, or two hexadecimal digits
abbrev pub escape_of : ℕ → List ℕ
escape_of b =
    cond (b == 34) (codes "\\\"")
    (cond (b == 92) (codes "\\\\") (cond (b == 8) (codes "\\b") (cond (b == 12) (codes "\\f")
    (cond (b == 10) (codes "\\n") (cond (b == 13) (codes "\\r") (cond (b == 9) (codes "\\t")
    (codes "\\u00" ++ digit_char (b / 16) ∷ digit_char (b % 16) ∷ [])))))))

-- a byte as it is written in a text
abbrev pub byte_text : ℕ → List ℕ
byte_text b = cond (is_plain b) (b ∷ []) (escape_of b)

-- bytes as they are written in a text
abbrev pub bytes_text : List ℕ → List ℕ
bytes_text [] = []
bytes_text (b ∷ bs) = byte_text b ++ bytes_text bs

-- a text in quotes
abbrev pub quoted_text : List ℕ → List ℕ
quoted_text text = codes "\"" ++ bytes_text text ++ codes "\""

-- the comma before each element but the first
abbrev pub comma_before : ℕ → List ℕ
comma_before zero = []
comma_before (suc index) = codes ","

-- elements with commas between them, of which so many stand before these
abbrev pub listed_from : ℕ → List (List ℕ) → List ℕ
listed_from index [] = []
listed_from index (x ∷ xs) = comma_before index ++ x ++ listed_from (suc index) xs

-- a member from its key and the text of its value
abbrev pub member_text : List ℕ × List ℕ → List ℕ
member_text m = quoted_text m.0 ++ codes ":" ++ m.1

-- a truth in words
abbrev pub truth_text : Bool → List ℕ
truth_text true = codes "true"
truth_text false = codes "false"

-- the text of a value whose elements have these texts
abbrev pub kind_step : JsonKind-F (List ℕ) (List ℕ) → List ℕ
kind_step JsonKind-F.Null = codes "null"
kind_step (JsonKind-F.Truth truth) = truth_text truth
kind_step (JsonKind-F.Number spelling) = spelling
kind_step (JsonKind-F.Text text) = quoted_text text
kind_step (JsonKind-F.List texts) = codes "[" ++ listed_from 0 texts ++ codes "]"
kind_step (JsonKind-F.Object members) =
    codes "{" ++ listed_from 0 (map member_text members) ++ codes "}"

-- the text of a value is that of its kind
abbrev pub json_step : Json-F (List ℕ) (List ℕ) → List ℕ
json_step json = json.kind

-- the text of a value, without blanks
unfoldable pub text_of : Json → List ℕ
text_of = fold-Json (List ℕ) (List ℕ) kind_step json_step

-- the text of a kind
unfoldable pub kind_text : JsonKind → List ℕ
kind_text = fold-JsonKind (List ℕ) (List ℕ) kind_step json_step

-- one list behind another
abbrev pub joined : List (List (List ℕ)) → List (List ℕ)
joined [] = []
joined (x ∷ xs) = x ++ joined xs

-- the spellings of the numbers in a value
abbrev pub numbers_step : JsonKind-F (List (List ℕ)) (List (List ℕ)) → List (List ℕ)
numbers_step (JsonKind-F.Number spelling) = spelling ∷ []
numbers_step (JsonKind-F.List below) = joined below
numbers_step (JsonKind-F.Object below) = joined (map (λ (m : List ℕ × List (List ℕ)). m.1) below)
numbers_step _ = []

-- a value has the numbers of its kind
abbrev pub numbers_step_json : Json-F (List (List ℕ)) (List (List ℕ)) → List (List ℕ)
numbers_step_json json = json.kind

-- the numbers in a value
unfoldable pub numbers_of : Json → List (List ℕ)
numbers_of = fold-Json (List (List ℕ)) (List (List ℕ)) numbers_step numbers_step_json

-- the texts and keys in a value
abbrev pub texts_step : JsonKind-F (List (List ℕ)) (List (List ℕ)) → List (List ℕ)
texts_step (JsonKind-F.Text text) = text ∷ []
texts_step (JsonKind-F.List below) = joined below
texts_step (JsonKind-F.Object below) =
    joined (map (λ (m : List ℕ × List (List ℕ)). m.0 ∷ m.1) below)
texts_step _ = []

-- a value has the texts of its kind
abbrev pub texts_step_json : Json-F (List (List ℕ)) (List (List ℕ)) → List (List ℕ)
texts_step_json json = json.kind

-- the texts and keys in a value
unfoldable pub texts_of : Json → List (List ℕ)
texts_of = fold-Json (List (List ℕ)) (List (List ℕ)) texts_step texts_step_json
