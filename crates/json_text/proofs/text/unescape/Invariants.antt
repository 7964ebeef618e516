use Rattle.std.proofs.Common.{◌≤◌, ◌<◌, ℕ, length}
use Rattle.std.specs.Prelude.{string_bytes}
use Rattle.json_text.proofs.Turns.{TextSoFar}
use Rattle.json_text.proofs.text.unescape.Given as goal

abbrev pub invariant-pieces : goal.invariant-pieces
invariant-pieces l = record {
  no_longer : length l.cursor.left ≤ length l.fn.cursor.left;
  so_far : (n : ℕ) → length l.fn.cursor.left < n → TextSoFar (string_bytes l.fn.spelled) n l.fn.cursor (string_bytes l.spelled) l.cursor;
}

abbrev pub decreases-pieces : goal.decreases-pieces
decreases-pieces l = length l.cursor.left
