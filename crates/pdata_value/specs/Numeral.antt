-- The spellings of doubles: numerals of JSON (RFC 8259, section 6), and three words.
use Rattle.std.specs.Prelude.{◌≡◌, ◌==◌, ◌⊎◌, ◌&&◌, ◌||◌, nat_le, codes, ℕ, Bool, List}
use Rattle.contract_words.specs.Grammar.{Rule, nothing, byte, alt, seq, many, spells}

-- the rule or nothing
abbrev pub optional : Rule → Rule
optional rule = alt rule nothing

abbrev pub is_digit : ℕ → Bool
is_digit b = nat_le 48 b && nat_le b 57

-- a digit from 1 on
abbrev pub is_leading : ℕ → Bool
is_leading b = nat_le 49 b && nat_le b 57

-- one digit or more
abbrev pub digits : Rule
digits = seq (byte is_digit) (many (byte is_digit))

-- 0, or digits without a leading 0
abbrev pub int : Rule
int = alt (byte (λ b. b == 48)) (seq (byte is_leading) (many (byte is_digit)))

-- a point and digits
abbrev pub frac : Rule
frac = seq (byte (λ b. b == 46)) digits

abbrev pub is_e : ℕ → Bool
is_e b = b == 69 || b == 101

abbrev pub is_sign : ℕ → Bool
is_sign b = b == 43 || b == 45

-- an `e` or `E`, a sign that may be missing, and digits
abbrev pub exp : Rule
exp = seq (byte is_e) (seq (optional (byte is_sign)) digits)

-- the numerals of JSON
abbrev pub numeral : Rule
numeral = seq (optional (byte (λ b. b == 45))) (seq int (seq (optional frac) (optional exp)))

abbrev pub IsNumeral : List ℕ → Type 0
IsNumeral text = spells numeral text

-- a numeral or one of the words
abbrev pub IsSpelling : List ℕ → Type 0
IsSpelling text =
    IsNumeral text ⊎ (text ≡ codes "NaN") ⊎ (text ≡ codes "Infinity") ⊎ (text ≡ codes "-Infinity")
