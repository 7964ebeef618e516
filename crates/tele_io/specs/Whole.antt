-- What reading all the bytes under a name answers.
use Rattle.std.specs.Prelude.{◌≡◌, ◌<◌, ◌+◌, ◌++◌, ℕ, Bool, true, false, List, length, Option, Some, Result, Ok, Err, Vec}
use Rattle.contract_words.specs.Held.{rest_from}
use Rattle.tele_io.specs.declared.whole.ReadStop.{ReadStop}
use Rattle.tele_io.specs.declared.whole.ReadStop.TheVariants.{Fault, TooLong}

-- a read failed
abbrev pub is_failed_read : {T : Type 0} → Result T ReadStop → Bool
is_failed_read (Err Fault) = true
is_failed_read _ = false

-- the file is there, and has more bytes than the limit
pub record IsLonger (limit : ℕ) (file : Option (List ℕ)) : Type 0 where
  pub all : List ℕ
  pub there : file ≡ Some all
  pub long : limit < length all

-- why the bytes didn't come
abbrev pub FindsNoWhole : ℕ → Option (List ℕ) → ReadStop → Type 0
FindsNoWhole limit file TooLong = IsLonger limit file
FindsNoWhole limit file _ = Unit {0}

-- these are all the bytes of a file that is there, or why they didn't come
abbrev pub FindsWhole : {Z : Type 0} → ℕ → Option (List ℕ) → Result (Vec ℕ Z) ReadStop → Type 0
FindsWhole limit file (Ok v) = file ≡ Some v.items
FindsWhole limit file (Err e) = FindsNoWhole limit file e

-- the bytes are the first of the file
abbrev pub IsFrontOf : Option (List ℕ) → List ℕ → Type 0
IsFrontOf file bytes = rest_from file 0 ≡ bytes ++ rest_from file (length bytes)

-- a piece behind these bytes passes the limit, or memory ran out
abbrev pub TakesPiece : {T : Type 0} → ℕ → List ℕ → List ℕ → Result T ReadStop → Type 0
TakesPiece limit bytes piece (Err TooLong) = limit < length bytes + length piece
TakesPiece limit bytes piece (Err Fault) = ⊥
TakesPiece limit bytes piece _ = Unit {0}
