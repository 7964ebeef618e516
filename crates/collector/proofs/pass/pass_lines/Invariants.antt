-- The lines taken so far are done: OUT holds their text, but for what is gathered, and the notes are theirs.
use Rattle.std.proofs.Common.{◌≡◌, ◌+◌, ◌-◌, ◌≤◌, [], ◌∷◌, IsTrue}
use Rattle.contract_words.specs.InputLines.{max_lines}
use Rattle.tele_io.specs.Views.{SinkView}
use Rattle.collector.specs.Devices.{Devices, devices, Stay, all_counts}
use Rattle.collector.specs.Pass.{pass_meaning}
use Rattle.collector.specs.Lines.{tally_of}
use Rattle.collector.specs.Between.{Stands, start}
use Rattle.collector.proofs.PassGoing.{PassGoing}
use Rattle.collector.proofs.pass.pass_lines.Given as goal

abbrev pub invariant-lines : goal.invariant-lines
invariant-lines g l = record {
  going : (begun : Devices) (out : SinkView) → Stands (pass_meaning l.fn.lines.name l.output) (start ([] ∷ [])) begun (devices (g.D.Disk.seen l.fn.disk) out (g.N.Sink.seen l.fn.notes))
      → PassGoing l.fn.lines.name l.output begun (devices (g.D.Disk.seen l.disk) out (g.N.Sink.seen l.notes)) l.lines (tally_of l.progress);
  name : l.lines.name ≡ l.fn.lines.name;
  live : IsTrue l.lines.live;
  room : l.progress.accepted + l.progress.refused ≤ l.lines.count;
  bound : l.progress.accepted + l.progress.refused ≤ max_lines;
  counts : (out : SinkView) → Stay all_counts (devices (g.D.Disk.seen l.fn.disk) out (g.N.Sink.seen l.fn.notes)) (devices (g.D.Disk.seen l.disk) out (g.N.Sink.seen l.notes));
}

abbrev pub decreases-lines : goal.decreases-lines
decreases-lines g l = max_lines - l.lines.count
