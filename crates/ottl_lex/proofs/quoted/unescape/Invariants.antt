use Rattle.std.proofs.Common.{◌≡◌, ◌+◌, length}
use Rattle.ottl_lex.specs.Quoted.{with_front, unescaped}
use Rattle.ottl_lex.proofs.quoted.unescape.Given as goal

-- the bytes so far stand before what the rest stands for
abbrev pub invariant-pieces : goal.invariant-pieces
invariant-pieces l = record {
  reads : with_front l.bytes.items (unescaped 0 l.place l.rest) ≡ unescaped 0 l.at l.text;
  room : l.place + length l.rest ≡ l.at + length l.text;
}

abbrev pub decreases-pieces : goal.decreases-pieces
decreases-pieces l = length l.rest
