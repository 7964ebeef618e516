use Rattle.std.proofs.Common.{◌≡◌, ◌+◌, drop, false}
use Rattle.std.specs.Prelude.{option_map}
use Rattle.ottl_lex.specs.Quoted.{closing}
use Rattle.ottl_lex.proofs.quoted.closing.Given as goal

-- the search from here finds what the search from the start finds
abbrev pub invariant-loop-count : goal.invariant-loop-count
invariant-loop-count l = option_map (λ k. l.count + k) (closing l.taken (drop l.count l.text)) ≡ closing false l.text
