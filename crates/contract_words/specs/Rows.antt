-- Rules in a row, and when one byte tells which way a rule goes.
use Rattle.std.specs.Prelude.{◌≡◌, ◌∷◌, ◌++◌, [], ◌&&◌, ◌||◌, ℕ, suc, Bool, true, false, List, Option, Some, None, ◌⊎◌, if◌then◌else◌}
use Rattle.contract_words.specs.Grammar.{Rule, nothing, byte, alt, seq, many, spells, viable, nullable, first, after}

-- a viable prefix of rules in a row
abbrev pub viable_row : List Rule → List ℕ → Type 0
viable_row [] text = text ≡ []
viable_row (r ∷ rs) text =
    viable r text ⊎ ((x : List ℕ) × (y : List ℕ) × spells r x × viable_row rs y × (text ≡ x ++ y))

-- whether a byte may be the first of what rules in a row spell
abbrev pub row_first : List Rule → ℕ → Bool
row_first [] b = false
row_first (r ∷ rs) b = first r b || (nullable r && row_first rs b)

-- no byte passes both tests
abbrev pub Apart : (ℕ → Bool) → (ℕ → Bool) → Type 0
Apart p q = (b : ℕ) → p b ≡ true → q b ≡ true → ⊥

-- before what may begin with a byte of `next`, one byte tells how the rule goes on
abbrev pub fits : Rule → (ℕ → Bool) → Type 0
fits nothing next = Unit {0}
fits (byte p) next = Unit {0}
fits (alt l r) next = Apart (first l) (first r) × fits l next × fits r next
fits (seq l r) next =
    fits l (λ b. first r b || (nullable r && next b))
    × (nullable l ≡ true → Apart (first l) (λ b. first r b || (nullable r && next b)))
    × fits r next
    × (nullable r ≡ true → Apart (first r) next)
fits (many a) next = (nullable a ≡ false) × fits a (λ b. first a b || next b) × Apart (first a) next

-- each rule of a row can be told from what follows it by one byte
abbrev pub fits_row : List Rule → Type 0
fits_row [] = Unit {0}
fits_row (r ∷ rs) =
    fits r (row_first rs) × (nullable r ≡ true → Apart (first r) (row_first rs)) × fits_row rs

-- the row after a byte, if it takes the byte
abbrev pub step : List Rule → ℕ → Option (List Rule)
step [] b = None
step (r ∷ rs) b =
    if first r b then Some (after r b ++ rs) else (if nullable r then step rs b else None)

-- how many bytes the row takes
abbrev pub one_more : Option (List Rule) → (List Rule → ℕ) → ℕ
one_more None f = 0
one_more (Some rs) f = suc (f rs)

-- how far a row goes on a text before no rule takes the next byte
abbrev pub stop : List Rule → List ℕ → ℕ
stop rs [] = 0
stop rs (b ∷ text) = one_more (step rs b) (λ ss. stop ss text)

-- the rules spell the text, one after another
abbrev pub spells_row : List Rule → List ℕ → Type 0
spells_row [] text = text ≡ []
spells_row (r ∷ rs) text =
    (x : List ℕ) × (y : List ℕ) × spells r x × spells_row rs y × (text ≡ x ++ y)

-- a row that may spell the empty text
abbrev pub row_nullable : List Rule → Bool
row_nullable [] = true
row_nullable (r ∷ rs) = nullable r && row_nullable rs

-- a row run over a text: how many bytes it takes, and whether the text may end there
abbrev pub taken : Option (List Rule) → (List Rule → ℕ × Bool) → ℕ × Bool
taken None f = (0, false)
taken (Some rs) f = (suc (f rs).0, (f rs).1)

-- how far a row goes on a text, and whether it may end there
abbrev pub run : List Rule → List ℕ → ℕ × Bool
run rs [] = (0, row_nullable rs)
run rs (b ∷ text) = taken (step rs b) (λ ss. run ss text)
