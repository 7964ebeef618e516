use Rattle.std.proofs.Common.{◌≤◌, ◌==◌, [], ◌∷◌, length}
use Rattle.ottl_parse.specs.Reading.{further_name}
use Rattle.ottl_parse.proofs.Turns.{PiecesSoFar}
use Rattle.ottl_parse.proofs.reader.names_of.Given as goal

abbrev pub invariant-names : goal.invariant-names
invariant-names l = (length l.cursor.left ≤ length l.fn.cursor.left)
    × PiecesSoFar (λ c. c == 46) further_name (l.fn.first ∷ []) l.fn.cursor l.names l.cursor

abbrev pub decreases-names : goal.decreases-names
decreases-names l = length l.cursor.left
