use Rattle.std.proofs.Common.{◌≡◌, ◌+◌, length}
use Rattle.fanout.proofs.Sharing.{Sharing}
use Rattle.fanout.proofs.hand_on.Given as goal

-- one root fewer than counted shares the tree, and there is room for the others
abbrev pub invariant-loop : goal.invariant-loop
invariant-loop l = record {
  sharing : Sharing l.root l.initial.forest l.forest l.roots.roots;
  count : length l.roots.roots + 1 ≡ l.counter;
  room : l.roots.room + l.counter ≡ l.takers + 1;
}
