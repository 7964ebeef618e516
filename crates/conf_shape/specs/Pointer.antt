-- JSON Pointers (RFC 6901).
use Rattle.std.specs.Prelude.{ℕ, List, [], ◌∷◌, ◌++◌, if◌then◌else◌, ◌==◌, codes, decimal}
use Rattle.std.specs.Char.{encode_utf8}

-- `~0` for a `~`, and `~1` for a `/`
abbrev pub escape : List ℕ → List ℕ
escape [] = []
escape (b ∷ rest) =
    (if b == 126 then codes "~0" else (if b == 47 then codes "~1" else b ∷ [])) ++ escape rest

-- the same of a character
abbrev pub escape_char : ℕ → List ℕ
escape_char c = if c == 126 then codes "~0" else (if c == 47 then codes "~1" else encode_utf8 c)

-- the pointer to a member of the object there
abbrev pub member_of : List ℕ → List ℕ → List ℕ
member_of at key = at ++ 47 ∷ escape key

-- the pointer to an element of the list there
abbrev pub element_of : List ℕ → ℕ → List ℕ
element_of at index = at ++ 47 ∷ decimal index
