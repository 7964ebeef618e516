-- The bytes that end a run of bytes which stand for themselves.
use Rattle.std.specs.Prelude.{ℕ, Bool, ◌||◌, ◌==◌, nat_lt}

-- a quote, a backslash or a control character
abbrev pub is_marked : ℕ → Bool
is_marked b = (b == 34 || b == 92) || nat_lt b 32
