-- The files that are left decide what all will hold.
use Rattle.std.proofs.Common.{◌≡◌, length}
use Rattle.tele_io.specs.Views.{Told}
use Rattle.export_sink.specs.Files.{AreApart}
use Rattle.export_sink.specs.Writing.{pieces}
use Rattle.export_sink.proofs.Writing.{Leads}
use Rattle.export_sink.proofs.write.write_texts.Given as goal

abbrev pub invariant-files : goal.invariant-files
invariant-files g l = record {
  apart : AreApart (pieces l.exporters l.texts);
  told : Told (Leads (pieces l.fn.exporters l.fn.texts) (pieces l.exporters l.texts)) (g.D.Disk.seen l.fn.disk).held (g.D.Disk.seen l.disk).held;
  writes : (g.D.Disk.seen l.disk).write_faults ≡ (g.D.Disk.seen l.fn.disk).write_faults;
  reads : (g.D.Disk.seen l.disk).read_faults ≡ (g.D.Disk.seen l.fn.disk).read_faults;
}

abbrev pub decreases-files : goal.decreases-files
decreases-files g l = length l.exporters
