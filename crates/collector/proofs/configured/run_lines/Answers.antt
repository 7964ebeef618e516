-- What stands between two lines goes on over each call, and at each end gives what stands there.
use Rattle.std.proofs.Common.{[], ◌∷◌, List, ℕ, Option, Ok, Err, Vec, Global, IsTrue, ◌∙◌, ap, refl, sym, subst, arith}
use Rattle.export_sink.specs.Planning.{conf_in}
use Rattle.leg_model.specs.Exports.{alone}
use Rattle.tele_io.specs.Mark.{Mark}
use Rattle.collector.specs.Devices.{devices}
use Rattle.collector.specs.Lines.{status_of, stop_of}
use Rattle.collector.specs.Source.{text_in}
use Rattle.collector.proofs.Apart.{apart-texts}
use Rattle.collector.proofs.Causes.{stay-itself, stay-then, caused-after, read-stays, read-stops}
use Rattle.collector.proofs.RunGoing.{run-begins, run-read, run-takes, run-on, run-line-ends, run-completes, run-stops}
use Rattle.collector.proofs.configured.run_lines.Goals as goal

pub lines-init : goal.lines-init
lines-init g c = record {
  going = λ begun out stands. run-begins (conf_in c.args.plan.now) (text_in c.args.source.now c.args.lines.now.name) begun _ _ c.args.lines.now.name _ _ c.requires.first c.requires.fresh.0 c.requires.fresh.1 stands;
  same = λ held. refl;
  live = subst (λ (p : Mark). IsTrue p.live) (sym c.requires.first) refl;
  room = omega (arith, c.requires.fresh.0);
  counts = λ out. stay-itself (devices (g.D.Disk.seen c.args.disk.now) out (g.N.Sink.seen c.args.notes.now));
}

pub run_line-requires-clause-apart : goal.run_line-requires-clause-apart
run_line-requires-clause-apart g c =
    let conf = conf_in c.args.plan.now in
    apart-texts conf.meant.draft.exporters (λ e. alone conf e.name (c.as_slice.result.now ∷ [])) c.requires.apart.own

pub returns-in-Err-run_line-clause-ends : goal.returns-in-Err-run_line-clause-ends
returns-in-Err-run_line-clause-ends g c = λ begun out stands.
    let conf = conf_in c.args.plan.now in
    let input = text_in c.args.source.now c.args.lines.now.name in
    let inv = c.lines.invariant in
    let run = inv.going begun out stands in
    let disk = g.D.Disk.seen c.next.new.disk in
    let notes = g.N.Sink.seen c.lines.notes in
    let taken = run-takes {Z = Global} conf input c.requires.apart begun c.lines.lines c.next.new.lines (Ok c.in-Ok-Some.field-0) c.lines.counted.payloads c.lines.counted.totals
    (text_in c.lines.source c.lines.lines.name) inv.same _ (g.D.Disk.seen c.lines.disk) disk out notes run c.in-Ok-Some.ensures.read in
    run-line-ends conf input c.requires.apart begun c.lines.lines c.lines.counted.payloads c.lines.counted.totals disk out notes
    (run-read conf input begun c.lines.lines _ _ _ _ disk out notes run c.in-Ok-Some.ensures.read)
    c.in-Err-run_line.stop c.as_slice.result.now c.in-Ok-Some.line c.next.new.lines _ _ c.as_slice.ensures.value (rw c.in-Ok-Some.field-0-is at taken)
    c.in-Err-run_line.ensures.texts c.in-Err-run_line.ensures.notes c.in-Err-run_line.ensures.ends

pub lines-preserved : goal.lines-preserved
lines-preserved g c =
    let conf = conf_in c.args.plan.now in
    let input = text_in c.args.source.now c.args.lines.now.name in
    let inv = c.lines.invariant in
    let disk = g.D.Disk.seen c.next.new.disk in
    let notes = g.N.Sink.seen c.lines.notes in
    let counted = rw c.in-Ok-Some.field-0-is at c.in-Ok-Some.ensures.counts in
    record {
      going = λ begun out stands.
          let run = inv.going begun out stands in
          let taken = run-takes {Z = Global} conf input c.requires.apart begun c.lines.lines c.next.new.lines (Ok c.in-Ok-Some.field-0) c.lines.counted.payloads c.lines.counted.totals
          (text_in c.lines.source c.lines.lines.name) inv.same _ (g.D.Disk.seen c.lines.disk) disk out notes run c.in-Ok-Some.ensures.read in
          run-on conf input c.requires.apart begun c.lines.lines c.lines.counted.payloads c.lines.counted.totals disk out notes
          (run-read conf input begun c.lines.lines _ _ _ _ disk out notes run c.in-Ok-Some.ensures.read)
          c.as_slice.result.now c.in-Ok-Some.line c.next.new.lines _ _ _ _ c.as_slice.ensures.value (rw c.in-Ok-Some.field-0-is at taken)
          c.in-Ok.ensures.texts c.in-Ok.ensures.notes c.in-Ok.ensures.counts.0 c.in-Ok.ensures.counts.1;
      same = λ held.
          c.next.ensures.same c.next.new.lines.name held
          ∙ ap (λ (n : List ℕ). text_in c.lines.source n held) c.next.ensures.name ∙ inv.same held;
      live = c.in-Ok-Some.ensures.live;
      room = omega (arith, inv.room, counted.0, c.in-Ok.ensures.counts.0);
      counts = λ out.
          let d0 = devices (g.D.Disk.seen c.args.disk.now) out (g.N.Sink.seen c.args.notes.now) in
          let d1 = devices (g.D.Disk.seen c.lines.disk) out notes in
          let d2 = devices disk out notes in
          let d3 = devices (g.D.Disk.seen c.run_line.new.disk) out (g.N.Sink.seen c.run_line.new.notes) in
          stay-then d0 d1 d3 (inv.counts out) (stay-then d1 d2 d3 (read-stays (g.D.Disk.seen c.lines.disk) disk out notes c.in-Ok-Some.ensures.read) (c.in-Ok.ensures.cause out));
    }

pub returns-in-Ok-None-clause-ends : goal.returns-in-Ok-None-clause-ends
returns-in-Ok-None-clause-ends g c = λ begun out stands.
    let conf = conf_in c.args.plan.now in
    let input = text_in c.args.source.now c.args.lines.now.name in
    let inv = c.lines.invariant in
    let run = inv.going begun out stands in
    let disk = g.D.Disk.seen c.next.new.disk in
    let notes = g.N.Sink.seen c.lines.notes in
    let taken = run-takes {Z = Global} conf input c.requires.apart begun c.lines.lines c.next.new.lines (Ok c.in-Ok-None.field-0) c.lines.counted.payloads c.lines.counted.totals
    (text_in c.lines.source c.lines.lines.name) inv.same _ (g.D.Disk.seen c.lines.disk) disk out notes run c.in-Ok-None.ensures.read in
    run-completes conf input c.requires.apart begun c.lines.lines c.lines.counted.payloads c.lines.counted.totals disk out notes
    (run-read conf input begun c.lines.lines _ _ _ _ disk out notes run c.in-Ok-None.ensures.read)
    Global c.next.new.lines (rw c.in-Ok-None.field-0-is at taken)

pub returns-in-Err-clause-ends : goal.returns-in-Err-clause-ends
returns-in-Err-clause-ends g c = λ begun out stands.
    let conf = conf_in c.args.plan.now in
    let input = text_in c.args.source.now c.args.lines.now.name in
    let inv = c.lines.invariant in
    let run = inv.going begun out stands in
    let disk = g.D.Disk.seen c.next.new.disk in
    let notes = g.N.Sink.seen c.lines.notes in
    let taken = run-takes {Z = Global} conf input c.requires.apart begun c.lines.lines c.next.new.lines (Err c.in-Err.stop) c.lines.counted.payloads c.lines.counted.totals
    (text_in c.lines.source c.lines.lines.name) inv.same _ (g.D.Disk.seen c.lines.disk) disk out notes run c.in-Err.ensures.read in
    rw c.from.ensures
    (run-stops conf input c.requires.apart begun c.lines.lines c.lines.counted.payloads c.lines.counted.totals disk out notes
    (run-read conf input begun c.lines.lines _ _ _ _ disk out notes run c.in-Err.ensures.read)
    c.in-Err.stop taken)

-- the counts
pub returns-in-Err-run_line-clause-cause : goal.returns-in-Err-run_line-clause-cause
returns-in-Err-run_line-clause-cause g c = λ out.
    let notes = g.N.Sink.seen c.lines.notes in
    let old_disk = g.D.Disk.seen c.lines.disk in
    let disk = g.D.Disk.seen c.next.new.disk in
    let d0 = devices (g.D.Disk.seen c.args.disk.now) out (g.N.Sink.seen c.args.notes.now) in
    let d1 = devices old_disk out notes in
    let d2 = devices disk out notes in
    let d3 = devices (g.D.Disk.seen c.run_line.new.disk) out (g.N.Sink.seen c.run_line.new.notes) in
    caused-after d0 d2 d3 (status_of c.in-Err-run_line.stop) (stay-then d0 d1 d2 (c.lines.invariant.counts out) (read-stays old_disk disk out notes c.in-Ok-Some.ensures.read))
    (c.in-Err-run_line.ensures.cause out)

pub returns-in-Ok-None-clause-cause : goal.returns-in-Ok-None-clause-cause
returns-in-Ok-None-clause-cause g c = λ out.
    let notes = g.N.Sink.seen c.lines.notes in
    let old_disk = g.D.Disk.seen c.lines.disk in
    let disk = g.D.Disk.seen c.next.new.disk in
    let d0 = devices (g.D.Disk.seen c.args.disk.now) out (g.N.Sink.seen c.args.notes.now) in
    stay-then d0 (devices old_disk out notes) (devices disk out notes) (c.lines.invariant.counts out) (read-stays old_disk disk out notes c.in-Ok-None.ensures.read)

pub returns-in-Err-clause-cause : goal.returns-in-Err-clause-cause
returns-in-Err-clause-cause g c = λ out.
    let notes = g.N.Sink.seen c.lines.notes in
    let old_disk = g.D.Disk.seen c.lines.disk in
    let disk = g.D.Disk.seen c.next.new.disk in
    let d0 = devices (g.D.Disk.seen c.args.disk.now) out (g.N.Sink.seen c.args.notes.now) in
    let d1 = devices old_disk out notes in
    let d2 = devices disk out notes in
    rw c.from.ensures (caused-after d0 d1 d2 (status_of (stop_of c.in-Err.stop)) (c.lines.invariant.counts out) (read-stops old_disk disk out notes (Option (Vec ℕ Global)) c.in-Err.stop c.in-Err.ensures.read))
