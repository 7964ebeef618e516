-- Objects by their tables: each member that counts fills a field, in the order of the text.
use Rattle.std.specs.Prelude.{ℕ, ◌&&◌, cond, List, [], ◌∷◌, Ok}
use Rattle.std.specs.Str.{bytes_eq}
use Rattle.json_text.specs.Kinds.{Member}
use Rattle.json_text.specs.Members.{stands}
use Rattle.json_text.specs.declared.json.Json.{Json}
use Rattle.otlp_json.specs.declared.counts.Counts.{Counts}
use Rattle.otlp_json.specs.Reads.{Read, Reader, ◌>>=◌, each}
use Rattle.otlp_json.specs.Fields.{items_in, members_in}

-- a row of a table: the name of a member, and what becomes of an object that is read so far
abbrev pub Row : Type 0 → Type 0
Row X = List ℕ × (Json → X → Counts → Read (X × Counts))

-- a member in which nothing is counted
abbrev pub plain : {X F : Type 0} → List ℕ → (Json → Read F) → (X → F → X) → Row X
plain key read put = (key, λ json x n. read json >>= λ f. Ok (put x f, n))

-- a member in which records, elements or values are counted
abbrev pub nested : {X F : Type 0} → List ℕ → Reader F → (X → F → X) → Row X
nested key read put = (key, λ json x n. read json n >>= λ p. Ok (put x p.0, p.1))

-- the object once a member with this key is read
abbrev pub by_key : {X : Type 0} → List (Row X) → List ℕ → Json → X → Counts → Read (X × Counts)
by_key [] key json x n = Ok (x, n)
by_key (row ∷ rows) key json x n =
    cond (bytes_eq key row.0) (row.1 json x n) (by_key rows key json x n)

-- the object once a member is read, by the row of its key, where it counts among those behind it
abbrev pub by_row : {X : Type 0} → List (Row X) → Member → List Member → X → Counts
    → Read (X × Counts)
by_row [] m behind x n = Ok (x, n)
by_row (row ∷ rows) m behind x n =
    cond (bytes_eq m.0 row.0 && stands m behind) (row.1 m.1 x n) (by_row rows m behind x n)

-- the object once these members are read, in their order
abbrev pub fields : {X : Type 0} → List (Row X) → List Member → X → Counts → Read (X × Counts)
fields table [] x n = Ok (x, n)
fields table (m ∷ ms) x n = by_row table m ms x n >>= λ p. fields table ms p.0 p.1

-- an object of a table: its members are read into an empty one
abbrev pub object : {X : Type 0} → List (Row X) → X → Reader X
object table empty json n = members_in json >>= λ members. fields table members empty n

-- a list, element by element
abbrev pub list : {X : Type 0} → Reader X → Reader (List X)
list one json n = items_in json >>= λ items. each one [] items n
