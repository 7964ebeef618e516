-- Numerals as they are read, from the front.
use Rattle.std.specs.Prelude.{ℕ, Bool, true, false, ◌==◌, ◌&&◌, ◌||◌, codes, cond, List, [], ◌∷◌}
use Rattle.std.specs.Str.{bytes_eq}
use Rattle.pdata_value.specs.Numeral.{is_digit, is_leading, is_e, is_sign}

-- what follows the digits at the front
abbrev pub after_digits : List ℕ → List ℕ
after_digits [] = []
after_digits (b ∷ bs) = cond (is_digit b) (after_digits bs) (b ∷ bs)

abbrev pub is_nothing : List ℕ → Bool
is_nothing [] = true
is_nothing (b ∷ bs) = false

abbrev pub are_digits : List ℕ → Bool
are_digits [] = false
are_digits (b ∷ bs) = is_digit b && is_nothing (after_digits bs)

-- what may follow an `e`
abbrev pub is_power : List ℕ → Bool
is_power [] = false
is_power (b ∷ bs) = cond (is_sign b) (are_digits bs) (are_digits (b ∷ bs))

-- an exponent or nothing
abbrev pub is_exponent : List ℕ → Bool
is_exponent [] = true
is_exponent (b ∷ bs) = is_e b && is_power bs

-- what may follow a point
abbrev pub is_fraction : List ℕ → Bool
is_fraction [] = false
is_fraction (b ∷ bs) = is_digit b && is_exponent (after_digits bs)

-- what may follow the digits before a point
abbrev pub is_scale : List ℕ → Bool
is_scale [] = true
is_scale (b ∷ bs) = cond (b == 46) (is_fraction bs) (is_exponent (b ∷ bs))

abbrev pub is_unsigned : List ℕ → Bool
is_unsigned [] = false
is_unsigned (b ∷ bs) = cond (b == 48) (is_scale bs) (is_leading b && is_scale (after_digits bs))

abbrev pub is_numeral : List ℕ → Bool
is_numeral [] = false
is_numeral (b ∷ bs) = cond (b == 45) (is_unsigned bs) (is_unsigned (b ∷ bs))

abbrev pub is_spelling : List ℕ → Bool
is_spelling text =
    is_numeral text || bytes_eq text (codes "NaN") || bytes_eq text (codes "Infinity")
    || bytes_eq text (codes "-Infinity")
