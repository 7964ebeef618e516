use Rattle.std.proofs.Common.{◌≡◌, ◌+◌, ℕ, drop}
use Rattle.std.specs.Prelude.{option_map}
use Rattle.pdata_value.specs.Places.{position}
use Rattle.pdata_value.proofs.pairs.first_place.Given as goal

-- the pairs left have the place that all of them have
abbrev pub invariant-loop-i : goal.invariant-loop-i
invariant-loop-i l = option_map (λ (k : ℕ). l.i + k) (position (drop l.i l.list) l.key) ≡ position l.list l.key
