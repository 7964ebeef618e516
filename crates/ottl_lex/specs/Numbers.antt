-- Digits: the number that they write, and the bytes that pairs of them write.
use Rattle.std.specs.Prelude.{ℕ, ◌+◌, ◌*◌, Bool, true, cond, ◌&&◌, nat_lt, nat_le, List, [], ◌∷◌, length, take, drop, Option, Some, None}
use Rattle.std.specs.Char.{digit_value}

-- each byte is a digit in the base
abbrev pub are_digits : ℕ → List ℕ → Bool
are_digits base [] = true
are_digits base (b ∷ rest) = nat_lt (digit_value b) base && are_digits base rest

-- the number that digits in the base write, behind digits that write `before`
abbrev pub value_after : ℕ → ℕ → List ℕ → ℕ
value_after base before [] = before
value_after base before (b ∷ rest) = value_after base (base * before + digit_value b) rest

-- the number that digits in the base write
abbrev pub value_in : ℕ → List ℕ → ℕ
value_in base digits = value_after base 0 digits

-- a whole number's value
abbrev pub digits_value : List ℕ → ℕ
digits_value digits = value_in 10 digits

-- the number that the first bytes write, if they are so many digits in the base
abbrev pub numeral : ℕ → ℕ → List ℕ → Option ℕ
numeral base count text =
    cond (nat_le count (length text) && are_digits base (take count text))
    (Some (value_in base (take count text))) None

-- a hexadecimal digit's value, and 0 for another byte
abbrev pub hex_value : ℕ → ℕ
hex_value b = cond (nat_lt (digit_value b) 16) (digit_value b) 0

-- the bytes that pairs of hexadecimal digits write
abbrev pub byte_pairs : List ℕ → List ℕ
byte_pairs [] = []
byte_pairs (a ∷ []) = []
byte_pairs (a ∷ b ∷ rest) = (16 * hex_value a + hex_value b) ∷ byte_pairs rest

-- the bytes of a bytes literal, which begins with `0x`
abbrev pub literal_bytes : List ℕ → List ℕ
literal_bytes literal = byte_pairs (drop 2 literal)
