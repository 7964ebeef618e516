-- What stands between two lines goes on over each call, and at each end gives what stands there.
use Rattle.std.proofs.Common.{◌∙◌, ℕ, Option, Vec, Global, IsTrue, inl, refl, sym, subst, arith}
use Rattle.tele_io.specs.Mark.{Mark}
use Rattle.collector.specs.Payload.{judged}
use Rattle.collector.specs.Devices.{devices}
use Rattle.contract_words.specs.Causes.{Rose}
use Rattle.collector.specs.Lines.{tally_of, status_of, stop_of}
use Rattle.collector.proofs.LineLemmas.{one_of}
use Rattle.collector.proofs.PassGoing.{pass-begins, pass-takes, pass-read, going-on, line-ends, flush-ends, all-ends, stop-ends}
use Rattle.collector.proofs.Causes.{stay-itself, stay-then, caused-after, caused-before, read-stays, write-stays, read-stops}
use Rattle.collector.proofs.pass.pass_lines.Goals as goal

pub lines-init : goal.lines-init
lines-init g c = record {
  going = λ begun out stands. pass-begins _ _ begun _ _ (tally_of c.args.progress.now) c.requires.first c.requires.fresh.0 c.requires.fresh.1 c.requires.fresh.2 stands;
  name = refl;
  live = subst (λ (p : Mark). IsTrue p.live) (sym c.requires.first) refl;
  room = omega (arith, c.requires.fresh.1, c.requires.fresh.2);
  bound = omega (arith, c.requires.fresh.1, c.requires.fresh.2);
  counts = λ out. stay-itself (devices (g.D.Disk.seen c.args.disk.now) out (g.N.Sink.seen c.args.notes.now));
}

pub returns-in-Err-pass_line-clause-ends : goal.returns-in-Err-pass_line-clause-ends
returns-in-Err-pass_line-clause-ends g c = λ begun out stands.
    let inv = c.lines.invariant in
    let going = inv.going begun out stands in
    let old_disk = g.D.Disk.seen c.lines.disk in
    let disk = g.D.Disk.seen c.next.new.disk in
    let notes = g.N.Sink.seen c.lines.notes in
    let taken = pass-takes _ _ begun c.lines.lines (tally_of c.lines.progress) _ old_disk disk out notes c.next.new.self _ c.requires.apart inv.name going c.in-Ok-Some.ensures.read in
    line-ends _ _ begun c.lines.lines (tally_of c.lines.progress) disk out notes (pass-read _ _ begun c.lines.lines (tally_of c.lines.progress) _ old_disk disk out notes going c.in-Ok-Some.ensures.read)
    c.in-Err-pass_line.stop c.as_slice.result.now c.in-Ok-Some.line c.next.new.self (tally_of c.pass_line.new.self) _ _ c.as_slice.ensures.value (rw c.in-Ok-Some.field-0-is at taken)
    c.in-Err-pass_line.ensures.text c.in-Err-pass_line.ensures.note c.in-Err-pass_line.ensures.counts

pub lines-preserved : goal.lines-preserved
lines-preserved g c =
    let inv = c.lines.invariant in
    let old_disk = g.D.Disk.seen c.lines.disk in
    let disk = g.D.Disk.seen c.next.new.disk in
    let notes = g.N.Sink.seen c.lines.notes in
    let counted = rw c.in-Ok-Some.field-0-is at c.in-Ok-Some.ensures.counts in
    record {
      going = λ begun out stands.
          let going = inv.going begun out stands in
          let taken = pass-takes _ _ begun c.lines.lines (tally_of c.lines.progress) _ old_disk disk out notes c.next.new.self _ c.requires.apart inv.name going c.in-Ok-Some.ensures.read in
          going-on _ _ begun c.lines.lines (tally_of c.lines.progress) disk out notes (pass-read _ _ begun c.lines.lines (tally_of c.lines.progress) _ old_disk disk out notes going c.in-Ok-Some.ensures.read)
          c.as_slice.result.now c.in-Ok-Some.line c.next.new.self (tally_of c.pass_line.new.self) _ _ c.as_slice.ensures.value (rw c.in-Ok-Some.field-0-is at taken)
          c.in-Ok.ensures.text c.in-Ok.ensures.note c.in-Ok.ensures.counts;
      name = c.next.ensures.name ∙ inv.name;
      live = c.in-Ok-Some.ensures.live;
      room = omega (arith, inv.room, counted.0, c.in-Ok.ensures.counts.accepted, c.in-Ok.ensures.counts.refused, one_of (judged c.as_slice.result.now));
      bound = omega (arith, inv.room, counted.0, counted.1, c.in-Ok.ensures.counts.accepted, c.in-Ok.ensures.counts.refused, one_of (judged c.as_slice.result.now));
      counts = λ out.
          let d0 = devices (g.D.Disk.seen c.args.disk.now) out (g.N.Sink.seen c.args.notes.now) in
          let d1 = devices old_disk out notes in
          let d2 = devices disk out notes in
          let d3 = devices (g.D.Disk.seen c.pass_line.new.disk) out (g.N.Sink.seen c.pass_line.new.notes) in
          stay-then d0 d1 d3 (inv.counts out) (stay-then d1 d2 d3 (read-stays old_disk disk out notes c.in-Ok-Some.ensures.read) (c.in-Ok.ensures.cause out));
    }

pub returns-in-Ok-flush-clause-ends : goal.returns-in-Ok-flush-clause-ends
returns-in-Ok-flush-clause-ends g c = λ begun out stands.
    let inv = c.lines.invariant in
    let going = inv.going begun out stands in
    let old_disk = g.D.Disk.seen c.lines.disk in
    let disk = g.D.Disk.seen c.next.new.disk in
    let notes = g.N.Sink.seen c.lines.notes in
    let taken = pass-takes _ _ begun c.lines.lines (tally_of c.lines.progress) _ old_disk disk out notes c.next.new.self _ c.requires.apart inv.name going c.in-Ok-None.ensures.read in
    all-ends _ _ begun c.lines.lines (tally_of c.lines.progress) disk out notes (pass-read _ _ begun c.lines.lines (tally_of c.lines.progress) _ old_disk disk out notes going c.in-Ok-None.ensures.read)
    Global c.next.new.self (tally_of c.flush.new.self) _ (rw c.in-Ok-None.field-0-is at taken)
    c.in-Ok-flush.ensures.text.told c.in-Ok-flush.ensures.emptied c.flush.ensures.accepted c.flush.ensures.refused

pub returns-in-Err-flush-clause-ends : goal.returns-in-Err-flush-clause-ends
returns-in-Err-flush-clause-ends g c = λ begun out stands.
    let inv = c.lines.invariant in
    let old_disk = g.D.Disk.seen c.lines.disk in
    let disk = g.D.Disk.seen c.next.new.disk in
    let notes = g.N.Sink.seen c.lines.notes in
    flush-ends _ _ begun c.lines.lines (tally_of c.lines.progress) disk out notes (pass-read _ _ begun c.lines.lines (tally_of c.lines.progress) _ old_disk disk out notes (inv.going begun out stands) c.in-Ok-None.ensures.read)
    _ _ c.in-Err-flush.ensures.text.told

pub returns-in-Ok-flush-2-clause-ends : goal.returns-in-Ok-flush-2-clause-ends
returns-in-Ok-flush-2-clause-ends g c = λ begun out stands.
    let inv = c.lines.invariant in
    let going = inv.going begun out stands in
    let old_disk = g.D.Disk.seen c.lines.disk in
    let disk = g.D.Disk.seen c.next.new.disk in
    let notes = g.N.Sink.seen c.lines.notes in
    let taken = pass-takes _ _ begun c.lines.lines (tally_of c.lines.progress) _ old_disk disk out notes c.next.new.self _ c.requires.apart inv.name going c.in-Err.ensures.read in
    rw c.from.ensures
    (stop-ends _ _ begun c.lines.lines (tally_of c.lines.progress) disk out notes (pass-read _ _ begun c.lines.lines (tally_of c.lines.progress) _ old_disk disk out notes going c.in-Err.ensures.read)
    Global c.in-Err.line_stop c.next.new.self c.flush-in-Err.new.self.gathered.items _ taken c.in-Ok-flush-2.ensures.text.told c.in-Ok-flush-2.ensures.emptied)

pub returns-in-Err-flush-2-clause-ends : goal.returns-in-Err-flush-2-clause-ends
returns-in-Err-flush-2-clause-ends g c = λ begun out stands.
    let inv = c.lines.invariant in
    let old_disk = g.D.Disk.seen c.lines.disk in
    let disk = g.D.Disk.seen c.next.new.disk in
    let notes = g.N.Sink.seen c.lines.notes in
    flush-ends _ _ begun c.lines.lines (tally_of c.lines.progress) disk out notes (pass-read _ _ begun c.lines.lines (tally_of c.lines.progress) _ old_disk disk out notes (inv.going begun out stands) c.in-Err.ensures.read)
    _ _ c.in-Err-flush-2.ensures.text.told

-- the counts
pub returns-in-Err-pass_line-clause-cause : goal.returns-in-Err-pass_line-clause-cause
returns-in-Err-pass_line-clause-cause g c = λ out.
    let notes = g.N.Sink.seen c.lines.notes in
    let old_disk = g.D.Disk.seen c.lines.disk in
    let disk = g.D.Disk.seen c.next.new.disk in
    let d0 = devices (g.D.Disk.seen c.args.disk.now) out (g.N.Sink.seen c.args.notes.now) in
    let d1 = devices old_disk out notes in
    let d2 = devices disk out notes in
    let d3 = devices (g.D.Disk.seen c.pass_line.new.disk) out (g.N.Sink.seen c.pass_line.new.notes) in
    caused-after d0 d2 d3 (status_of c.in-Err-pass_line.stop) (stay-then d0 d1 d2 (c.lines.invariant.counts out) (read-stays old_disk disk out notes c.in-Ok-Some.ensures.read))
    (c.in-Err-pass_line.ensures.cause out)

pub returns-in-Ok-flush-clause-cause : goal.returns-in-Ok-flush-clause-cause
returns-in-Ok-flush-clause-cause g c = λ out.
    let notes = g.N.Sink.seen c.lines.notes in
    let old_disk = g.D.Disk.seen c.lines.disk in
    let disk = g.D.Disk.seen c.next.new.disk in
    let new_disk = g.D.Disk.seen c.flush.new.disk in
    let d0 = devices (g.D.Disk.seen c.args.disk.now) out (g.N.Sink.seen c.args.notes.now) in
    let d1 = devices old_disk out notes in
    let d2 = devices disk out notes in
    let d3 = devices new_disk out notes in
    stay-then d0 d1 d3 (c.lines.invariant.counts out) (stay-then d1 d2 d3 (read-stays old_disk disk out notes c.in-Ok-None.ensures.read) (write-stays disk new_disk out notes c.in-Ok-flush.ensures.text))

pub returns-in-Err-flush-clause-cause : goal.returns-in-Err-flush-clause-cause
returns-in-Err-flush-clause-cause g c = λ out.
    inl (subst (λ (n : ℕ). Rose n (g.D.Disk.seen c.flush.new.disk).write_faults) (c.in-Ok-None.ensures.read.other_count ∙ (c.lines.invariant.counts out).1.0) c.in-Err-flush.ensures.text.cause.1)

pub returns-in-Ok-flush-2-clause-cause : goal.returns-in-Ok-flush-2-clause-cause
returns-in-Ok-flush-2-clause-cause g c = λ out.
    let notes = g.N.Sink.seen c.lines.notes in
    let old_disk = g.D.Disk.seen c.lines.disk in
    let disk = g.D.Disk.seen c.next.new.disk in
    let new_disk = g.D.Disk.seen c.flush-in-Err.new.disk in
    let d0 = devices (g.D.Disk.seen c.args.disk.now) out (g.N.Sink.seen c.args.notes.now) in
    let d1 = devices old_disk out notes in
    let d2 = devices disk out notes in
    let d3 = devices new_disk out notes in
    let status = status_of (stop_of c.in-Err.line_stop) in
    let read = caused-after d0 d1 d2 status (c.lines.invariant.counts out) (read-stops old_disk disk out notes (Option (Vec ℕ Global)) c.in-Err.line_stop c.in-Err.ensures.read) in
    rw c.from.ensures (caused-before d0 d2 d3 status read (write-stays disk new_disk out notes c.in-Ok-flush-2.ensures.text))

pub returns-in-Err-flush-2-clause-cause : goal.returns-in-Err-flush-2-clause-cause
returns-in-Err-flush-2-clause-cause g c = λ out.
    inl (subst (λ (n : ℕ). Rose n (g.D.Disk.seen c.flush-in-Err.new.disk).write_faults) (c.in-Err.ensures.read.other_count ∙ (c.lines.invariant.counts out).1.0) c.in-Err-flush-2.ensures.text.cause.1)
