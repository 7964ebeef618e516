-- The lines taken so far are done: the files hold what they give, the notes are theirs, and they are counted.
use Rattle.std.proofs.Common.{◌≡◌, ◌-◌, ◌≤◌, IsTrue}
use Rattle.contract_words.specs.Held.{Held}
use Rattle.contract_words.specs.InputLines.{max_lines}
use Rattle.export_sink.specs.Planning.{conf_in}
use Rattle.tele_io.specs.Views.{SinkView}
use Rattle.collector.specs.Between.{Stands, start}
use Rattle.collector.specs.Configured.{run_meaning}
use Rattle.collector.specs.Devices.{Devices, devices, Stay, all_counts}
use Rattle.collector.specs.RunLines.{nothing_gathered}
use Rattle.collector.specs.Source.{text_in}
use Rattle.collector.proofs.RunGoing.{RunGoing}
use Rattle.collector.proofs.configured.run_lines.Given as goal

abbrev pub invariant-lines : goal.invariant-lines
invariant-lines g l = record {
  going : (begun : Devices) (out : SinkView)
      → Stands (run_meaning (conf_in l.plan) (text_in l.fn.source l.fn.lines.name)) (start (nothing_gathered (conf_in l.plan))) begun (devices (g.D.Disk.seen l.fn.disk) out (g.N.Sink.seen l.fn.notes))
      → RunGoing (conf_in l.plan) (text_in l.fn.source l.fn.lines.name) begun (devices (g.D.Disk.seen l.disk) out (g.N.Sink.seen l.notes)) l.lines l.counted.payloads l.counted.totals;
  same : (held : Held) → text_in l.source l.lines.name held ≡ text_in l.fn.source l.fn.lines.name held;
  live : IsTrue l.lines.live;
  room : l.counted.payloads ≤ l.lines.count;
  counts : (out : SinkView) → Stay all_counts (devices (g.D.Disk.seen l.fn.disk) out (g.N.Sink.seen l.fn.notes)) (devices (g.D.Disk.seen l.disk) out (g.N.Sink.seen l.notes));
}

abbrev pub decreases-lines : goal.decreases-lines
decreases-lines g l = max_lines - l.lines.count
