-- Numbers drawn from a seed, by a linear congruence modulo 2^64.
use Rattle.std.specs.Prelude.{ℕ, zero, suc, ◌+◌, ◌*◌, ◌/◌, ◌%◌, ◌^◌}

-- the state after a draw
unfoldable pub next : ℕ → ℕ
next state = (state * 6364136223846793005 + 1442695040888963407) % (2 ^ 64)

-- the number that a draw gives, by the state after it
unfoldable pub drawn : ℕ → ℕ
drawn state = state / (2 ^ 33)

-- a draw below that number, from the state before it
abbrev pub draw : ℕ → ℕ → ℕ
draw state below = drawn (next state) % below

-- the state after so many draws
abbrev pub after : ℕ → ℕ → ℕ
after zero state = state
after (suc draws) state = after draws (next state)
