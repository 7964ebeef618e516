-- What was judged is what was read, and it was told.
use Rattle.std.proofs.Common.{Global}
use Rattle.collector.specs.Devices.{devices}
use Rattle.collector.specs.Judged.{answer_of}
use Rattle.collector.proofs.Causes.{caused-after, read-stays}
use Rattle.collector.proofs.CheckLemmas.{checks-told}
use Rattle.collector.proofs.check.run_check.Goals as goal

pub returns-in-Ok-judge-clause-checks : goal.returns-in-Ok-judge-clause-checks
returns-in-Ok-judge-clause-checks g c =
    let says = rw c.as_slice.ensures.value at c.in-Ok-judge.ensures in
    checks-told c.args.conf.now (g.D.Disk.seen c.args.disk.now) (g.D.Disk.seen c.read_all.new.disk)
    (g.O.Sink.seen c.args.out.now) (g.N.Sink.seen c.args.notes.now) (g.P.PatternMaker.refusals c.args.maker.now)
    Global c.in-Ok.bytes c.in-Ok.ensures.read (g.P.PatternMaker.refusals c.judge.new.maker)
    (g.O.Sink.seen c.tell.new.out) (g.N.Sink.seen c.tell.new.notes)
    (answer_of c.in-Ok-judge.said) says c.tell.result c.tell.ensures.tells

pub returns-in-Ok-judge-clause-cause : goal.returns-in-Ok-judge-clause-cause
returns-in-Ok-judge-clause-cause g c =
    let out = g.O.Sink.seen c.args.out.now in
    let notes = g.N.Sink.seen c.args.notes.now in
    let old_disk = g.D.Disk.seen c.args.disk.now in
    let disk = g.D.Disk.seen c.read_all.new.disk in
    caused-after (devices old_disk out notes) (devices disk out notes)
    (devices disk (g.O.Sink.seen c.tell.new.out) (g.N.Sink.seen c.tell.new.notes)) c.tell.result
    (read-stays old_disk disk out notes c.in-Ok.ensures.read) (c.tell.ensures.cause disk)
