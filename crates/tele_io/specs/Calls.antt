-- What each call of a disk and of a sink finds or changes, by its result.
use Rattle.std.specs.Prelude.{◌≡◌, ◌≤◌, ◌⊎◌, ◌↔◌, ◌++◌, ℕ, List, [], length, take, drop, Option, Some, None, Result, Ok, Err}
use Rattle.contract_words.specs.Fronts.{GrewByFront}
use Rattle.contract_words.specs.Held.{Held, SameHeld, OthersStay, Appended, AddsFront}

-- The file is there, and so many of its bytes from that place on stand at the front of the room;
-- none do exactly where there is no room or no byte.
pub record PutsBytes (file : Option (List ℕ)) (at : ℕ) (old new : List ℕ) (count : ℕ)
    : Type 0 where
  pub all : List ℕ
  pub there : file ≡ Some all
  pub bytes : take count new ≡ take count (drop at all)
  pub none : (count ≡ 0) ↔ ((length old ≡ 0) ⊎ (length all ≤ at))

-- the name holds no bytes; after a fault it holds none or what it held
abbrev pub Empties : {T E : Type 0} → List ℕ → Result T E → Held → Held → Type 0
Empties name (Ok x) was now = (now name ≡ Some []) × OthersStay name was now
Empties name (Err e) was now =
    ((now name ≡ was name) ⊎ (now name ≡ Some [])) × OthersStay name was now

-- so many bytes of the piece stand behind what the name held; after a fault all is as it was
abbrev pub Appends : {E : Type 0} → List ℕ → List ℕ → Result ℕ E → Held → Held → Type 0
Appends name piece (Ok count) was now = Appended name piece count was now
Appends name piece (Err e) was now = SameHeld was now

-- the name holds the bytes behind what it held; it may be absent only where these are no bytes
pub record Adds (name bytes : List ℕ) (old new : Held) : Type 0 where
  pub added : (was : List ℕ) → old name ≡ Some was → new name ≡ Some (was ++ bytes)
  pub absent : old name ≡ None → (bytes ≡ []) × (new name ≡ None)
  pub others : OthersStay name old new

-- all the bytes stand behind what the name held; after a fault some front of them does
abbrev pub AppendsAll : {T E : Type 0} → List ℕ → List ℕ → Result T E → Held → Held → Type 0
AppendsAll name bytes (Ok x) was now = Adds name bytes was now
AppendsAll name bytes (Err e) was now = AddsFront name bytes was now

-- so many bytes of the piece stand behind what the sink held; after a fault it holds what it held
abbrev pub Receives : {E : Type 0} → List ℕ → Result ℕ E → List ℕ → List ℕ → Type 0
Receives piece (Ok count) was now = now ≡ was ++ take count piece
Receives piece (Err e) was now = now ≡ was

-- all the bytes stand behind what the sink held; after a fault some front of them does
abbrev pub ReceivesAll : {T E : Type 0} → List ℕ → Result T E → List ℕ → List ℕ → Type 0
ReceivesAll bytes (Ok x) was now = now ≡ was ++ bytes
ReceivesAll bytes (Err e) was now = GrewByFront bytes was now
