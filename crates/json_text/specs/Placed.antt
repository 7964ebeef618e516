-- A value with the places of its own text.
use Rattle.std.specs.Prelude.{ℕ, ◌+◌, max, List, [], ◌∷◌, length, map}
use Rattle.json_text.specs.Writing.{quoted_text, kind_step}
use Rattle.json_text.specs.declared.json.Json.{Json}
use Rattle.json_text.specs.declared.json.JsonKind.{JsonKind}
use Rattle.json_text.specs.declared.json.JsonKind.TheVariants as kinds
use Rattle.json_text.specs.declared.json.JsonKind.TheOpen.{JsonKind-F, Json-F}
use Rattle.json_text.specs.declared.json.JsonKind.TheFolds.{map-JsonKind, fold-Json}

-- the text of a value, and the value as it stands in it where the text begins at a place
abbrev pub Placing : Type 0 → Type 0
Placing X = List ℕ × (ℕ → X)

-- elements with a comma between them
abbrev pub placed_items : ℕ → List (Placing Json) → List Json
placed_items at [] = []
placed_items at (p ∷ ps) = p.1 at ∷ placed_items (at + length p.0 + 1) ps

-- where the value of a member stands: behind the key and the colon
abbrev pub behind_key : ℕ → List ℕ → ℕ
behind_key at key = at + length (quoted_text key) + 1

-- members with a comma between them
abbrev pub placed_members : ℕ → List (List ℕ × Placing Json) → List (List ℕ × Json)
placed_members at [] = []
placed_members at (m ∷ ms) =
    (m.0, m.1.1 (behind_key at m.0)) ∷ placed_members (behind_key at m.0 + length m.1.0 + 1) ms

-- a kind with the places of its values, from a place on
abbrev pub placed_kind : JsonKind-F (Placing JsonKind) (Placing Json) → ℕ → JsonKind
placed_kind JsonKind-F.Null at = kinds.Null
placed_kind (JsonKind-F.Truth truth) at = kinds.Truth truth
placed_kind (JsonKind-F.Number spelling) at = kinds.Number spelling
placed_kind (JsonKind-F.Text text) at = kinds.Text text
placed_kind (JsonKind-F.List items) at = kinds.List (placed_items (at + 1) items)
placed_kind (JsonKind-F.Object members) at = kinds.Object (placed_members (at + 1) members)

-- the places in a kind, from those in its values
abbrev pub placing_step : JsonKind-F (Placing JsonKind) (Placing Json) → Placing JsonKind
placing_step layer = (
  kind_step (map-JsonKind (Placing JsonKind) (Placing Json) (List ℕ) (List ℕ)
      (λ p. p.0) (λ p. p.0) layer),
  placed_kind layer,
)

-- the places in a value, from those in its kind
abbrev pub placing_step_json : Json-F (Placing JsonKind) (Placing Json) → Placing Json
placing_step_json json = (json.kind.0, λ at. record { at = at; kind = json.kind.1 at })

-- a value with the places of its text, from a place on
unfoldable pub placing : Json → Placing Json
placing = fold-Json (Placing JsonKind) (Placing Json) placing_step placing_step_json

-- the value as it stands in its text, where that begins at a place
abbrev pub placed : ℕ → Json → Json
placed at json = (placing json).1 at

-- the largest number of a list
abbrev pub largest : List ℕ → ℕ
largest [] = 0
largest (n ∷ ns) = max n (largest ns)

-- how deep the lists and objects of a value nest
abbrev pub containers_step : JsonKind-F ℕ ℕ → ℕ
containers_step (JsonKind-F.List below) = 1 + largest below
containers_step (JsonKind-F.Object below) = 1 + largest (map (λ (m : List ℕ × ℕ). m.1) below)
containers_step _ = 0

-- a value has the containers of its kind
abbrev pub containers_step_json : Json-F ℕ ℕ → ℕ
containers_step_json json = json.kind

-- how many containers stand in one another in a value
unfoldable pub containers : Json → ℕ
containers = fold-Json ℕ ℕ containers_step containers_step_json
