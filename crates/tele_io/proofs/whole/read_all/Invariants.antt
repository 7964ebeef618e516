-- The bytes are the first of the file, and nothing of the piece is left.
use Rattle.std.proofs.Common.{◌≡◌, ◌-◌, ◌≤◌, [], false, length}
use Rattle.tele_io.specs.Views.{Reads}
use Rattle.tele_io.specs.Whole.{IsFrontOf}
use Rattle.tele_io.proofs.whole.read_all.Given as goal

abbrev pub invariant-pieces : goal.invariant-pieces
invariant-pieces g l = record {
  used : l.piece ≡ [];
  short : length l.bytes.items ≤ l.limit;
  read : Reads false (λ held. IsFrontOf (held l.name) l.bytes.items) (g.D.Disk.seen l.fn.disk) (g.D.Disk.seen l.disk);
}

abbrev pub decreases-pieces : goal.decreases-pieces
decreases-pieces g l = l.limit - length l.bytes.items
