use Rattle.std.proofs.Common.{◌≡◌, ◌+◌, length}
use Rattle.std.specs.Prelude.{All}
use Rattle.ottl_lex.specs.Quoted.{with_front}
use Rattle.ottl_lex.specs.Tokens.{tokens_from, tokens_of, IsWithin}
use Rattle.ottl_lex.proofs.lexer.lex.Given as goal

-- the tokens so far stand before those of the rest
abbrev pub invariant-tokens : goal.invariant-tokens
invariant-tokens l = record {
  reads : with_front l.tokens (tokens_from 0 l.at l.rest) ≡ tokens_of l.text;
  within : All (IsWithin l.text) l.tokens;
  room : l.at + length l.rest ≡ length l.text;
}

abbrev pub decreases-tokens : goal.decreases-tokens
decreases-tokens l = length l.rest
