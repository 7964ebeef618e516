use Rattle.std.proofs.Common.{◌+◌, ◌-◌, false, length}
use Rattle.contract_words.specs.InputLines.{max_line}
use Rattle.tele_io.specs.Views.{Reads}
use Rattle.tele_io.specs.Mark.{SameLines, IsAhead}
use Rattle.tele_io.proofs.lines.Lines.read_line.Given as goal

abbrev pub invariant-pieces : goal.invariant-pieces
invariant-pieces g l = record {
  same : SameLines l.fn.self l.self;
  read : Reads false (λ held. IsAhead (held l.fn.self.name) l.fn.self → IsAhead (held l.fn.self.name) l.self) (g.D.Disk.seen l.fn.disk) (g.D.Disk.seen l.disk);
}

abbrev pub decreases-pieces : goal.decreases-pieces
decreases-pieces g l = max_line - length l.self.begun + (1 - length l.self.ahead)
