-- Members as they are added to an object that is written.
use Rattle.std.specs.Prelude.{◌≡◌, ℕ, Bool, true, false, codes, List, [], ◌∷◌, ◌++◌, map}
use Rattle.json_text.specs.Kinds.{Member}
use Rattle.json_text.specs.Writing.{quoted_text, listed_from, member_text, text_of}
use Rattle.json_text.specs.declared.json.Json.{Json}

-- the comma behind other members
abbrev pub comma_if : Bool → List ℕ
comma_if true = codes ","
comma_if false = []

-- a key, its colon and its value
abbrev pub words_of : Member → List ℕ
words_of m = member_text (m.0, text_of m.1)

-- members behind others, or the first of an object
abbrev pub members_behind : Bool → List Member → List ℕ
members_behind some [] = []
members_behind some (m ∷ ms) = comma_if some ++ (words_of m ++ members_behind true ms)

-- whether members stand once these are added
abbrev pub some_behind : Bool → List Member → Bool
some_behind some [] = some
some_behind some (m ∷ ms) = true

-- the members were added, behind others or not, and whether members stand now
pub record Adds (members : List Member) (some : Bool) (old : List ℕ) (now : Bool)
    (new : List ℕ) : Type 0 where
  pub text : new ≡ old ++ members_behind some members
  pub any : now ≡ some_behind some members

-- elements with commas between them
abbrev pub listed : {X : Type 0} → (X → Json) → List X → List ℕ
listed json xs = listed_from 0 (map (λ x. text_of (json x)) xs)

-- what stands before the value of a pair
abbrev pub pair_front : List ℕ → List ℕ
pair_front key = codes "{\"key\":" ++ (quoted_text key ++ codes ",\"value\":")
