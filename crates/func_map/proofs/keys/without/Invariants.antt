use Rattle.std.proofs.Common.{◌≡◌, ◌++◌, ℕ, List, length}
use Rattle.std.specs.Prelude.{filter, not}
use Rattle.std.specs.Str.{bytes_eq}
use Rattle.pdata_value.specs.Value.{pairs}
use Rattle.pdata_value.specs.declared.value.Value.{Value}
use Rattle.func_map.proofs.keys.without.Given as goal

-- the pairs so far and those that stay of the rest are all that stay
abbrev pub invariant-loop-rest : goal.invariant-loop-rest
invariant-loop-rest l = pairs l.map ++ filter (λ (p : List ℕ × Value). not (bytes_eq p.0 l.key)) l.rest ≡ filter (λ (p : List ℕ × Value). not (bytes_eq p.0 l.key)) l.fn.list

abbrev pub decreases-loop-rest : goal.decreases-loop-rest
decreases-loop-rest l = length l.rest
