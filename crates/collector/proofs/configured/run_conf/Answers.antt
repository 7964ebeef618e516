-- What was read is judged, and it was told or run.
use Rattle.std.proofs.Common.{Global, IfOk, List, ℕ, inr, map, string_bytes, subst}
use Rattle.graph_build.specs.Conf.{conf_of}
use Rattle.collector.specs.Configured.{run_meaning}
use Rattle.collector.specs.Devices.{devices}
use Rattle.collector.specs.Ends.{Runs}
use Rattle.collector.specs.Source.{text_in}
use Rattle.collector.proofs.Apart.{apart-plan, keeps-same}
use Rattle.collector.proofs.Causes.{caused-after, read-stays}
use Rattle.collector.proofs.RunConf.{judged-fault, judged-run}
use Rattle.collector.proofs.configured.run_conf.Goals as goal

pub run_whole-requires : goal.run_whole-requires
run_whole-requires g c =
    let names = map (λ name. name.now) c.args.names.now in
    let says = rw c.as_slice.ensures.value at c.in-Ok-plan_beside.ensures in
    record { apart = apart-plan names c.args.source.now c.args.name.now c.in-Ok.bytes.items c.in-Ok-plan_beside.plan c.requires says.0 says.1 }

pub returns-in-Ok-plan_beside-clause-runs : goal.returns-in-Ok-plan_beside-clause-runs
returns-in-Ok-plan_beside-clause-runs g c =
    let names = map (λ name. name.now) c.args.names.now in
    let input = text_in c.args.source.now c.args.name.now in
    let says = rw c.as_slice.ensures.value at c.in-Ok-plan_beside.ensures in
    let disk = g.D.Disk.seen c.read_all.new.disk in
    let out = g.O.Sink.seen c.args.out.now in
    let notes = g.N.Sink.seen c.args.notes.now in
    let new = devices (g.D.Disk.seen c.run_whole.new.disk) (g.O.Sink.seen c.run_whole.new.out) (g.N.Sink.seen c.run_whole.new.notes) in
    inr (
    judged-run c.args.conf.now (g.D.Disk.seen c.args.disk.now) disk out notes Global c.in-Ok.bytes c.in-Ok.ensures.read names input
    (keeps-same c.args.source.now c.args.name.now)
    (g.P.PatternMaker.refusals c.args.maker.now) (g.P.PatternMaker.refusals c.plan_beside.new.maker) new c.run_whole.result says.1 says.2
    (subst (λ (b : List ℕ). IfOk (conf_of b) (λ meant. Runs (run_meaning meant input) (devices disk out notes) new c.run_whole.result)) says.0 c.run_whole.ensures.runs)
    )

pub returns-in-Ok-fault_note-clause-runs : goal.returns-in-Ok-fault_note-clause-runs
returns-in-Ok-fault_note-clause-runs g c =
    let names = map (λ name. name.now) c.args.names.now in
    let faulty = rw c.as_slice.ensures.value at (rw c.in-Err-Fault.field-0-is at c.in-Err-Fault.ensures) in
    inr (
    judged-fault c.args.conf.now (g.D.Disk.seen c.args.disk.now) (g.D.Disk.seen c.read_all.new.disk) (g.O.Sink.seen c.args.out.now) (g.N.Sink.seen c.args.notes.now)
    Global c.in-Ok.bytes c.in-Ok.ensures.read names (text_in c.args.source.now c.args.name.now) (string_bytes c.in-Ok-fault_note.note) c.in-Err-Fault.fault
    (g.P.PatternMaker.refusals c.args.maker.now) (g.P.PatternMaker.refusals c.plan_beside.new.maker)
    (g.O.Sink.seen c.tell.new.out) (g.N.Sink.seen c.tell.new.notes) c.tell.result c.in-Ok-fault_note.ensures faulty c.tell.ensures.tells
    )

pub returns-in-Ok-fault_note-clause-cause : goal.returns-in-Ok-fault_note-clause-cause
returns-in-Ok-fault_note-clause-cause g c =
    let out = g.O.Sink.seen c.args.out.now in
    let notes = g.N.Sink.seen c.args.notes.now in
    let old_disk = g.D.Disk.seen c.args.disk.now in
    let disk = g.D.Disk.seen c.read_all.new.disk in
    caused-after (devices old_disk out notes) (devices disk out notes)
    (devices disk (g.O.Sink.seen c.tell.new.out) (g.N.Sink.seen c.tell.new.notes)) c.tell.result
    (read-stays old_disk disk out notes c.in-Ok.ensures.read) (c.tell.ensures.cause disk)
