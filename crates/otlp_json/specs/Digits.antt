-- Digits as they are read, a number of which may be too large.
use Rattle.std.specs.Prelude.{ℕ, nat_lt, cond, Option, Some, None}

-- a number that is below a limit
abbrev pub under : ℕ → Option ℕ → Option ℕ
under limit None = None
under limit (Some n) = cond (nat_lt n limit) (Some n) None
