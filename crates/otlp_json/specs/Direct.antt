-- Reading straight from the text of a line: what is read is what the value of JSON that stands
-- there is read as.
use Rattle.std.specs.Prelude.{◌≡◌, ◌<◌, ℕ, suc, ◌==◌, ◌||◌, Bool, true, false, cond, get_or, option_map, List, [], ◌∷◌, Option, Some, None, IfSome, Ok}
use Rattle.std.specs.Str.{bytes_eq}
use Rattle.json_text.specs.Place.{Rest, head, past, blanks}
use Rattle.json_text.specs.Kinds.{is_null}
use Rattle.json_text.specs.Reading.{Reads, this, quoted, value}
use Rattle.json_text.specs.Reading as json_reading
use Rattle.json_text.specs.declared.json.Json.{Json}
use Rattle.json_text.specs.declared.error.JsonFault.{JsonFault}
use Rattle.json_text.specs.declared.error.JsonFault.TheVariants as json_faults
use Rattle.otlp_json.specs.declared.error.PayloadStop.{PayloadStop}
use Rattle.otlp_json.specs.declared.error.PayloadStop.TheVariants as stops
use Rattle.otlp_json.specs.declared.direct.Bend.{Bend}
use Rattle.otlp_json.specs.declared.direct.Bend.TheVariants as bends
use Rattle.otlp_json.specs.declared.direct.Direct.{Direct}
use Rattle.otlp_json.specs.Reads.{Read, Reader, ◌>>=◌}
use Rattle.otlp_json.specs.Objects.{Row, by_key}
use Rattle.otlp_json.specs.Values.{is_value_key}

-- a fault bends the reader, and want of memory stays what it is
abbrev pub bend_of : JsonFault → Bend
bend_of json_faults.NoMemory = bends.NoMemory
bend_of _ = bends.Unusual

-- the same of a fault of a payload
abbrev pub bend_of_stop : PayloadStop → Bend
bend_of_stop stops.NoMemory = bends.NoMemory
bend_of_stop (stops.Fault fault) = bends.Unusual

-- a reader that counts nothing
abbrev pub plainly : {X : Type 0} → (Json → Read X) → Reader X
plainly read json n = read json >>= λ x. Ok (x, n)

-- the value that stands next, in which containers nest so deep, isn't null and is read as this
pub record Stands {X : Type 0} (one : Reader X) (depth : ℕ) (old : Direct) (x : X)
    (new : Direct) : Type 0 where
  pub json : Json
  pub spelled : value depth old.cursor ≡ Ok (json, new.cursor)
  pub not_null : is_null json ≡ false
  pub meant : one json old.counts ≡ Ok (x, new.counts)

-- a value stands next of which nothing is read
pub record Passes (depth : ℕ) (old new : Direct) : Type 0 where
  pub json : Json
  pub spelled : value depth old.cursor ≡ Ok (json, new.cursor)
  pub counts : new.counts ≡ old.counts

-- A container.

-- it opens with this byte, and something stands in it, or it is closed already
pub record Opens (opening close depth : ℕ) (old : Direct) (goes : Bool)
    (new : Direct) : Type 0 where
  pub first : head old.cursor ≡ opening
  pub deep : 0 < depth
  pub stays : goes ≡ true
      → ((head (blanks (past 1 old.cursor)) == close) ≡ false)
      × (new.cursor ≡ blanks (past 1 old.cursor))
  pub closed : goes ≡ false
      → (head (blanks (past 1 old.cursor)) ≡ close)
      × (new.cursor ≡ past 1 (blanks (past 1 old.cursor)))
  pub counts : new.counts ≡ old.counts

-- a key, its colon and the blanks behind them
abbrev pub key_of : Rest → Reads (List ℕ)
key_of r = json_reading.◌>>=◌ (quoted r)
    (λ k. json_reading.◌>>=◌ (this 58 (blanks k.1)) (λ c. Ok (k.0, blanks c)))

-- Members, each known key at most once: a key has a slot, which is taken where it was seen.

-- the slots of a table are its rows
abbrev pub row_of : {X : Type 0} → List (Row X) → List ℕ → Option ℕ
row_of [] key = None
row_of (row ∷ rows) key = cond (bytes_eq key row.0) (Some 0) (option_map suc (row_of rows key))

-- all kinds of a value have one slot
abbrev pub kind_slot : List ℕ → Option ℕ
kind_slot key = cond (is_value_key key) (Some 0) None

-- whether a slot is taken
abbrev pub is_taken : List Bool → ℕ → Bool
is_taken taken slot = get_or taken slot false

-- the slot of a member whose key is known is taken, and wasn't before
abbrev pub Takes : List Bool → Option ℕ → List Bool → Type 0
Takes old None new = new ≡ old
Takes old (Some slot) new =
    (is_taken old slot ≡ false) × ((s : ℕ) → is_taken new s ≡ (is_taken old s || s == slot))

-- the value that stands next is read as the member of a key, which fills this slot of the object
pub record Fills {X : Type 0} (table : List (Row X)) (slot_of : List ℕ → Option ℕ) (key : List ℕ)
    (depth : ℕ) (old : Direct × X) (slot : Option ℕ) (new : Direct × X) : Type 0 where
  pub json : Json
  pub spelled : value depth old.0.cursor ≡ Ok (json, new.0.cursor)
  pub meant : by_key table key json old.1 old.0.counts ≡ Ok (new.1, new.0.counts)
  pub slot_is : slot_of key ≡ slot
  pub not_null : IfSome slot (λ _. is_null json ≡ false)
