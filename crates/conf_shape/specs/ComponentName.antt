-- Names of components: a type, or a type, `/` and a name.
use Rattle.std.specs.Prelude.{ℕ, Bool, true, false, ◌&&◌, ◌||◌, nat_le, ◌==◌, List, [], ◌∷◌, Option, Some, None, if◌then◌else◌}
use Rattle.std.specs.List.{list_all}

-- an ASCII letter
abbrev pub is_letter : ℕ → Bool
is_letter b = (nat_le 65 b && nat_le b 90) || (nat_le 97 b && nat_le b 122)

-- an ASCII digit
abbrev pub is_digit : ℕ → Bool
is_digit b = nat_le 48 b && nat_le b 57

-- a letter, a digit or `_`
abbrev pub is_word : ℕ → Bool
is_word b = is_letter b || is_digit b || b == 95

-- one of these, `-` or `.`
abbrev pub is_name_byte : ℕ → Bool
is_name_byte b = is_word b || b == 45 || b == 46

-- the bytes before the first `/`
abbrev pub front_of : List ℕ → List ℕ
front_of [] = []
front_of (b ∷ rest) = if b == 47 then [] else b ∷ front_of rest

-- the bytes after it; None where there is none
abbrev pub back_of : List ℕ → Option (List ℕ)
back_of [] = None
back_of (b ∷ rest) = if b == 47 then Some rest else back_of rest

-- a letter followed by letters, digits and `_`
abbrev pub is_type : List ℕ → Bool
is_type [] = false
is_type (b ∷ rest) = is_letter b && list_all is_word rest

-- one or more letters, digits, `_`, `-` and `.`, where a `/` stands
abbrev pub is_behind : Option (List ℕ) → Bool
is_behind None = true
is_behind (Some []) = false
is_behind (Some (b ∷ rest)) = list_all is_name_byte (b ∷ rest)

-- the type of a component's name; None where the name has another form
abbrev pub type_of : List ℕ → Option (List ℕ)
type_of name =
    if is_type (front_of name) && is_behind (back_of name) then Some (front_of name) else None
