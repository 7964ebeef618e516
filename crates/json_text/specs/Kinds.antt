-- What a value of JSON holds, by its kind.
use Rattle.std.specs.Prelude.{ℕ, Bool, true, false, List, Option, Some, None}
use Rattle.json_text.specs.declared.json.Json.{Json}
use Rattle.json_text.specs.declared.json.JsonKind.{JsonKind, out-JsonKind}
use Rattle.json_text.specs.declared.json.JsonKind.TheOpen.{JsonKind-F}

-- a kind with what it holds
abbrev pub Layer : Type 0
Layer = JsonKind-F JsonKind Json

-- a member of an object: its key and its value
abbrev pub Member : Type 0
Member = List ℕ × Json

-- the text that a kind holds
abbrev pub text_layer : Layer → Option (List ℕ)
text_layer (JsonKind-F.Text text) = Some text
text_layer _ = None

-- the truth that a kind holds
abbrev pub truth_layer : Layer → Option Bool
truth_layer (JsonKind-F.Truth truth) = Some truth
truth_layer _ = None

-- the spelling of the number that a kind holds
abbrev pub number_layer : Layer → Option (List ℕ)
number_layer (JsonKind-F.Number spelling) = Some spelling
number_layer _ = None

-- the elements that a kind holds
abbrev pub items_layer : Layer → Option (List Json)
items_layer (JsonKind-F.List items) = Some items
items_layer _ = None

-- the members that a kind holds
abbrev pub members_layer : Layer → Option (List Member)
members_layer (JsonKind-F.Object members) = Some members
members_layer _ = None

-- whether a kind is null
abbrev pub null_layer : Layer → Bool
null_layer JsonKind-F.Null = true
null_layer _ = false

-- the text that a value is; None where it is none
unfoldable pub as_text : Json → Option (List ℕ)
as_text json = text_layer (out-JsonKind json.kind)

-- the truth that a value is
unfoldable pub as_truth : Json → Option Bool
as_truth json = truth_layer (out-JsonKind json.kind)

-- the spelling of the number that a value is
unfoldable pub as_number : Json → Option (List ℕ)
as_number json = number_layer (out-JsonKind json.kind)

-- the elements of the list that a value is
unfoldable pub as_items : Json → Option (List Json)
as_items json = items_layer (out-JsonKind json.kind)

-- the members of the object that a value is
unfoldable pub as_members : Json → Option (List Member)
as_members json = members_layer (out-JsonKind json.kind)

-- whether a value is null
unfoldable pub is_null : Json → Bool
is_null json = null_layer (out-JsonKind json.kind)
