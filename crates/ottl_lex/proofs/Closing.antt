-- The search for a closing quote, as a loop makes it.
use Rattle.std.proofs.Common.{◌≡◌, ℕ, ◌+◌, refl, ap, arith}
use Rattle.std.specs.Prelude.{Option, Some, None, option_map}
use Rattle.ottl_lex.specs.Quoted.{one_more}

-- a byte passed is one more
pub further : (n : ℕ) (found : Option ℕ) → option_map (λ k. n + k) (one_more found) ≡ option_map (λ k. (n + 1) + k) found
further n None = refl
further n (Some k) = ap Some (omega arith)
