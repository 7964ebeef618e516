-- Blank lines have gone by, and what is left was left before them.
use Rattle.std.proofs.Common.{◌≡◌, ◌-◌, ◌≤◌, false}
use Rattle.contract_words.specs.InputLines.{max_lines}
use Rattle.tele_io.specs.Views.{Reads}
use Rattle.tele_io.specs.Mark.{IsAhead, GoesOn}
use Rattle.tele_io.proofs.lines.Lines.next.Given as goal

abbrev pub invariant-lines : goal.invariant-lines
invariant-lines g l = record {
  name : l.self.name ≡ l.fn.self.name;
  live : l.self.live ≡ l.fn.self.live;
  counts : l.fn.self.count ≤ l.self.count;
  read : Reads false (λ held. IsAhead (held l.fn.self.name) l.fn.self → GoesOn (held l.fn.self.name) l.fn.self l.self) (g.D.Disk.seen l.fn.disk) (g.D.Disk.seen l.disk);
}

abbrev pub decreases-lines : goal.decreases-lines
decreases-lines g l = max_lines - l.self.count
