-- What the lines under a name answer.
use Rattle.std.specs.Prelude.{◌≡◌, ℕ, ◌<◌, ◌≤◌, ◌+◌, ◌++◌, ◌==◌, suc, Bool, true, false, min, drop, List, [], ◌∷◌, length, Option, Some, None, IsSome, Result, Ok, Err, OnOk, Vec}
use Rattle.contract_words.specs.InputLines.{max_line, max_lines, passes, ended, too_long, taking}
use Rattle.tele_io.specs.Mark.{Mark, IsAhead, lines_left, left}
use Rattle.tele_io.specs.declared.lines.LineStop.{LineStop}
use Rattle.tele_io.specs.declared.lines.LineStop.TheVariants.{Fault, TooLong, NoMemory}

-- why the next line that isn't blank didn't come; after NoMemory it is still to come
abbrev pub TakesNone : Option (List ℕ) → Mark → Mark → LineStop → Type 0
TakesNone file old new TooLong = left file old ≡ too_long
TakesNone file old new NoMemory = left file new ≡ left file old
TakesNone file old new Fault = Unit {0}

-- the next line that isn't blank, or the end
abbrev pub Takes : {Z : Type 0}
    → Option (List ℕ) → Mark → Mark → Result (Option (Vec ℕ Z)) LineStop → Type 0
Takes file old new (Ok (Some v)) = left file old ≡ taking v.items (left file new)
Takes file old new (Ok None) = (left file old ≡ ended) × (left file new ≡ ended)
Takes file old new (Err e) = TakesNone file old new e

-- What a call that takes the next line finds in the file in which what it had read ahead stood. A
-- line, or the end, comes only of a file that is there.
pub record TakesLine {Z : Type 0} (file : Option (List ℕ)) (old new : Mark)
    (result : Result (Option (Vec ℕ Z)) LineStop) : Type 0 where
  pub next : Takes file old new result
  pub there : OnOk result (IsSome file)
  pub again : IsAhead file new

-- each line that is handed out is counted, up to the limit
abbrev pub Advances : {T : Type 0} → ℕ → ℕ → Result (Option T) LineStop → Type 0
Advances old new (Ok (Some v)) = (old < new) × (new ≤ max_lines)
Advances old new _ = old ≤ new

-- no more is asked after a fault and after a line past a limit
abbrev pub Keeps : {T : Type 0} → Bool → Result T LineStop → Type 0
Keeps live (Ok x) = live ≡ true
Keeps live (Err NoMemory) = live ≡ true
Keeps live (Err _) = live ≡ false

-- a read failed
abbrev pub is_fault : {T : Type 0} → Result T LineStop → Bool
is_fault (Err Fault) = true
is_fault _ = false

-- no newline is in it
abbrev pub Unbroken : List ℕ → Type 0
Unbroken [] = Unit {0}
Unbroken (b ∷ rest) = ((b == 10) ≡ false) × Unbroken rest

-- nothing, or a newline and more
abbrev pub BeginsBroken : List ℕ → Type 0
BeginsBroken [] = Unit {0}
BeginsBroken (b ∷ rest) = b ≡ 10

-- a line without a newline that is longer than the limit, and more
pub record IsTooLong (bytes : List ℕ) : Type 0 where
  pub front : List ℕ
  pub more : List ℕ
  pub parts : bytes ≡ front ++ more
  pub unbroken : Unbroken front
  pub long : max_line < length front

-- why no line was cut
abbrev pub CutStops : Mark → LineStop → Type 0
CutStops new TooLong = IsTooLong (new.begun ++ new.ahead)
CutStops new NoMemory = Unit {0}
CutStops new Fault = ⊥

-- a cut ends at a newline or behind all bytes that were read
abbrev pub Cuts : {T : Type 0} → Mark → Result T LineStop → Type 0
Cuts new (Ok x) = BeginsBroken new.ahead
Cuts new (Err e) = CutStops new e

-- the line begun is whole and has gone by, with its newline if there is one
pub record GoesBy (old new : Mark) : Type 0 where
  pub name : new.name ≡ old.name
  pub gone : new.gone ≡ old.gone + length old.begun + min 1 (length old.ahead)
  pub count : new.count ≡ suc old.count
  pub begun : new.begun ≡ []
  pub ahead : new.ahead ≡ drop 1 old.ahead
  pub live : new.live ≡ old.live

-- a line is begun, or a newline is ahead
abbrev pub HasLine : Mark → Type 0
HasLine m = 0 < length m.begun + length m.ahead

-- the line that was cut is handed out, or there is none, or it is one too many
abbrev pub Finishes : {Z : Type 0} → Mark → Mark → Result (Option (Vec ℕ Z)) LineStop → Type 0
Finishes old new (Ok (Some v)) =
    (v.items ≡ old.begun) × (old.count < max_lines) × HasLine old × GoesBy old new
Finishes old new (Ok None) = (old.begun ≡ []) × (old.ahead ≡ []) × (new ≡ old)
Finishes old new (Err TooLong) = (max_lines ≤ old.count) × HasLine old × (new ≡ old)
Finishes old new (Err _) = ⊥

-- why the next line, blank or not, didn't come
abbrev pub NoLine : Option (List ℕ) → Mark → Mark → LineStop → Type 0
NoLine file old new TooLong = (l : List ℕ) × (ls : List (List ℕ))
    × (lines_left file old ≡ l ∷ ls) × (passes old.count l ≡ true)
NoLine file old new NoMemory =
    (lines_left file new ≡ lines_left file old) × (new.count ≡ old.count)
NoLine file old new Fault = Unit {0}

-- the next line, blank or not, or the end
abbrev pub NextLine : {Z : Type 0}
    → Option (List ℕ) → Mark → Mark → Result (Option (Vec ℕ Z)) LineStop → Type 0
NextLine file old new (Ok (Some v)) =
    (lines_left file old ≡ v.items ∷ lines_left file new) × (passes old.count v.items ≡ false)
    × (new.count ≡ suc old.count)
NextLine file old new (Ok None) = (lines_left file old ≡ []) × (lines_left file new ≡ [])
NextLine file old new (Err e) = NoLine file old new e

-- what a call that reads the next line, blank or not, finds in the same way
pub record ReadsLine {Z : Type 0} (file : Option (List ℕ)) (old new : Mark)
    (result : Result (Option (Vec ℕ Z)) LineStop) : Type 0 where
  pub next : NextLine file old new result
  pub there : OnOk result (IsSome file)
  pub again : IsAhead file new
