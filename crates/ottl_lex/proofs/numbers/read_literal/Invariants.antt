use Rattle.std.proofs.Common.{◌≡◌, ◌++◌, length}
use Rattle.ottl_lex.specs.Numbers.{byte_pairs, literal_bytes}
use Rattle.ottl_lex.proofs.numbers.read_literal.Given as goal

-- the bytes so far and those of the rest are those of the literal
abbrev pub invariant-loop-rest : goal.invariant-loop-rest
invariant-loop-rest l = l.bytes.items ++ byte_pairs l.rest ≡ literal_bytes l.literal

abbrev pub decreases-loop-rest : goal.decreases-loop-rest
decreases-loop-rest l = length l.rest
