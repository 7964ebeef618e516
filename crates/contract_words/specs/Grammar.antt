-- Grammars by cases: the texts that a rule spells, and the texts that it has begun.
use Rattle.std.specs.Prelude.{◌≡◌, ◌∷◌, ◌++◌, [], ◌&&◌, ◌||◌, ℕ, zero, suc, Bool, true, false, IsTrue, List, ◌⊎◌, if◌then◌else◌}

-- A rule over the bytes of a text, or over the codes of tokens in place of bytes.
pub data Rule : Type 0 where
  nothing : Rule
  byte : (ℕ → Bool) → Rule
  alt : Rule → Rule → Rule
  seq : Rule → Rule → Rule
  many : Rule → Rule

-- so many texts of which P holds, one after another
abbrev pub Turns : (List ℕ → Type 0) → ℕ → List ℕ → Type 0
Turns P zero text = text ≡ []
Turns P (suc n) text = (x : List ℕ) × (y : List ℕ) × P x × Turns P n y × (text ≡ x ++ y)

-- the rule spells the text
abbrev pub spells : Rule → List ℕ → Type 0
spells nothing text = text ≡ []
spells (byte p) text = (b : ℕ) × IsTrue (p b) × (text ≡ b ∷ [])
spells (alt l r) text = spells l text ⊎ spells r text
spells (seq l r) text = (x : List ℕ) × (y : List ℕ) × spells l x × spells r y × (text ≡ x ++ y)
spells (many a) text = (n : ℕ) × Turns (spells a) n text

-- the text is a viable prefix of the rule
abbrev pub viable : Rule → List ℕ → Type 0
viable nothing text = text ≡ []
viable (byte p) text = (text ≡ []) ⊎ ((b : ℕ) × IsTrue (p b) × (text ≡ b ∷ []))
viable (alt l r) text = viable l text ⊎ viable r text
viable (seq l r) text =
    viable l text ⊎ ((x : List ℕ) × (y : List ℕ) × spells l x × viable r y × (text ≡ x ++ y))
viable (many a) text =
    (n : ℕ) × (x : List ℕ) × (y : List ℕ) × Turns (spells a) n x × viable a y × (text ≡ x ++ y)

-- the text may be empty
abbrev pub nullable : Rule → Bool
nullable nothing = true
nullable (byte p) = false
nullable (alt l r) = nullable l || nullable r
nullable (seq l r) = nullable l && nullable r
nullable (many a) = true

-- a text may begin with the byte
abbrev pub first : Rule → ℕ → Bool
first nothing b = false
first (byte p) b = p b
first (alt l r) b = first l b || first r b
first (seq l r) b = first l b || (nullable l && first r b)
first (many a) b = first a b

-- what is left of a rule after the byte, as rules in a row
abbrev pub after : Rule → ℕ → List Rule
after nothing b = []
after (byte p) b = []
after (alt l r) b = if first l b then after l b else after r b
after (seq l r) b = if first l b then after l b ++ r ∷ [] else after r b
after (many a) b = after a b ++ many a ∷ []
