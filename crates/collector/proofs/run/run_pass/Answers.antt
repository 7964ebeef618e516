-- What the lines left, and the summary behind them, is what the run means.
use Rattle.std.proofs.Common.{◌≡◌, List, ℕ, ap, subst}
use Rattle.tele_io.specs.Mark.{Mark}
use Rattle.collector.specs.Devices.{devices}
use Rattle.collector.specs.Ends.{Runs}
use Rattle.collector.specs.Pass.{pass_meaning, summary_by}
use Rattle.collector.specs.Between.{Completes}
use Rattle.collector.specs.Lines.{status_of}
use Rattle.collector.proofs.Causes.{stay-then, caused-after, write-stays}
use Rattle.collector.proofs.RunLemmas.{runs-untouched, runs-uncreated, stands-created, runs-summed, sum-causes}
use Rattle.collector.proofs.run.run_pass.Goals as goal

pub returns-in-Err-clause-runs : goal.returns-in-Err-clause-runs
returns-in-Err-clause-runs g c =
    runs-untouched _ (devices (g.D.Disk.seen c.args.disk.now) (g.O.Sink.seen c.args.out.now) (g.N.Sink.seen c.args.notes.now))

pub returns-in-Err-create-clause-runs : goal.returns-in-Err-create-clause-runs
returns-in-Err-create-clause-runs g c = runs-uncreated _ _ _ _ _ _ c.in-Err-create.ensures

pub returns-in-Ok-pass_lines-clause-runs : goal.returns-in-Ok-pass_lines-clause-runs
returns-in-Ok-pass_lines-clause-runs g c =
    let out = g.O.Sink.seen c.args.out.now in
    let disk = g.D.Disk.seen c.pass_lines.new.disk in
    let notes = g.N.Sink.seen c.pass_lines.new.notes in
    let old = devices (g.D.Disk.seen c.args.disk.now) out (g.N.Sink.seen c.args.notes.now) in
    let named : c.in-Ok.lines.name ≡ c.args.input.now = ap (λ (p : Mark). p.name) c.in-Ok.ensures.at_start in
    let accepted = c.pass_lines.new.progress.accepted in
    let refused = c.pass_lines.new.progress.refused in
    let ends = c.in-Ok-pass_lines.ensures.ends old out (stands-created _ _ _ _ _ _ c.in-Ok-create.ensures) in
    runs-summed _ old disk out (g.O.Sink.seen c.sum_up.new.out) notes (summary_by accepted refused) refused
    (subst (λ (name : List ℕ). Completes (pass_meaning name c.args.output.now) (summary_by accepted refused) refused old (devices disk out notes)) named ends)
    c.sum_up.result c.sum_up.ensures

pub returns-clause-runs : goal.returns-clause-runs
returns-clause-runs g c =
    let out = g.O.Sink.seen c.args.out.now in
    let new = devices (g.D.Disk.seen c.pass_lines.new.disk) out (g.N.Sink.seen c.pass_lines.new.notes) in
    let old = devices (g.D.Disk.seen c.args.disk.now) out (g.N.Sink.seen c.args.notes.now) in
    let named : c.in-Ok.lines.name ≡ c.args.input.now = ap (λ (p : Mark). p.name) c.in-Ok.ensures.at_start in
    let ends = c.in-Err-pass_lines.ensures.ends old out (stands-created _ _ _ _ _ _ c.in-Ok-create.ensures) in
    rw c.from.ensures
    (subst (λ (name : List ℕ). Runs (pass_meaning name c.args.output.now) old new (status_of c.in-Err-pass_lines.stop)) named ends)

pub returns-in-Ok-pass_lines-clause-cause : goal.returns-in-Ok-pass_lines-clause-cause
returns-in-Ok-pass_lines-clause-cause g c =
    let out = g.O.Sink.seen c.args.out.now in
    let notes = g.N.Sink.seen c.args.notes.now in
    let old_disk = g.D.Disk.seen c.args.disk.now in
    let mid_disk = g.D.Disk.seen c.create.new.self in
    let disk = g.D.Disk.seen c.pass_lines.new.disk in
    let new_notes = g.N.Sink.seen c.pass_lines.new.notes in
    let new_out = g.O.Sink.seen c.sum_up.new.out in
    let d0 = devices old_disk out notes in
    let d1 = devices mid_disk out notes in
    let d2 = devices disk out new_notes in
    let d3 = devices disk new_out new_notes in
    caused-after d0 d2 d3 c.sum_up.result (stay-then d0 d1 d2 (write-stays old_disk mid_disk out notes c.in-Ok-create.ensures) (c.in-Ok-pass_lines.ensures.cause out))
    (sum-causes c.sum_up.result disk out new_out new_notes (summary_by c.pass_lines.new.progress.accepted c.pass_lines.new.progress.refused) c.pass_lines.new.progress.refused c.sum_up.ensures)

pub returns-clause-cause : goal.returns-clause-cause
returns-clause-cause g c =
    let out = g.O.Sink.seen c.args.out.now in
    let notes = g.N.Sink.seen c.args.notes.now in
    let old_disk = g.D.Disk.seen c.args.disk.now in
    let mid_disk = g.D.Disk.seen c.create.new.self in
    let d0 = devices old_disk out notes in
    let d1 = devices mid_disk out notes in
    let d2 = devices (g.D.Disk.seen c.pass_lines.new.disk) out (g.N.Sink.seen c.pass_lines.new.notes) in
    rw c.from.ensures
    (caused-after d0 d1 d2 (status_of c.in-Err-pass_lines.stop) (write-stays old_disk mid_disk out notes c.in-Ok-create.ensures) (c.in-Err-pass_lines.ensures.cause out))
