use Rattle.std.proofs.Common.{◌≤◌, ◌==◌, [], length}
use Rattle.ottl_parse.specs.Reading.{inside_of, key}
use Rattle.ottl_parse.proofs.Turns.{PiecesSoFar}
use Rattle.ottl_parse.proofs.reader.keys_of.Given as goal

abbrev pub invariant-keys : goal.invariant-keys
invariant-keys l = (length l.cursor.left ≤ length l.fn.cursor.left)
    × PiecesSoFar (λ c. c == 91) (key (inside_of l.room)) [] l.fn.cursor l.keys l.cursor

abbrev pub decreases-keys : goal.decreases-keys
decreases-keys l = length l.cursor.left
