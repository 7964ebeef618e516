-- Where the lines under a name stand.
use Rattle.std.specs.Prelude.{◌≡◌, ℕ, ◌+◌, ◌++◌, Bool, true, List, [], length, Option, IsSome, Result, OnOk}
use Rattle.contract_words.specs.Held.{rest_from}
use Rattle.contract_words.specs.InputLines.{lines_of, Taken, taken_of}

-- what is read, how far, and whether it may be read on
pub record Mark : Type 0 where
  -- the name that is read
  pub name : List ℕ
  -- the bytes of the lines gone by, and how many these are
  pub gone : ℕ
  pub count : ℕ
  -- what has been read past them: the front of a line, and bytes that nobody has looked at
  pub begun : List ℕ
  pub ahead : List ℕ
  -- no fault and no line past a limit was answered
  pub live : Bool

-- before the first line under the name
abbrev pub start_of : List ℕ → Mark
start_of name = record { name = name; gone = 0; count = 0; begun = []; ahead = []; live = true }

-- what has been read past the lines gone by is what stands there in the file
pub record IsAhead (file : Option (List ℕ)) (m : Mark) : Type 0 where
  pub is : rest_from file m.gone
      ≡ m.begun ++ (m.ahead ++ rest_from file (m.gone + length m.begun + length m.ahead))

-- the lines that are left
abbrev pub lines_left : Option (List ℕ) → Mark → List (List ℕ)
lines_left file m = lines_of (rest_from file m.gone)

-- what will be taken
abbrev pub left : Option (List ℕ) → Mark → Taken
left file m = taken_of m.count (lines_left file m)

-- the same name and lines gone by
pub record SameLines (old new : Mark) : Type 0 where
  pub name : new.name ≡ old.name
  pub gone : new.gone ≡ old.gone
  pub count : new.count ≡ old.count
  pub live : new.live ≡ old.live

-- the bytes stand in the file from that place on, and are none only at its end
pub record Fills (file : Option (List ℕ)) (at : ℕ) (bytes : List ℕ) : Type 0 where
  pub there : IsSome file
  pub stands : rest_from file at ≡ bytes ++ rest_from file (at + length bytes)
  pub ends : bytes ≡ [] → rest_from file at ≡ []

-- more was read ahead; nothing is ahead then only at the file's end
pub record ReadsAhead {T E : Type 0} (file : Option (List ℕ)) (old new : Mark)
    (result : Result T E) : Type 0 where
  pub again : IsAhead file old → IsAhead file new
  pub there : OnOk result (IsSome file)
  pub ends : OnOk result (new.ahead ≡ [] → rest_from file (old.gone + length old.begun) ≡ [])

-- what was read ahead stands in the file, and the same will be taken
pub record GoesOn (file : Option (List ℕ)) (old new : Mark) : Type 0 where
  pub ahead : IsAhead file new
  pub same : left file new ≡ left file old
