-- What the lines left, and the summary behind them, is what the run means.
use Rattle.std.proofs.Common.{List, ℕ, ap, subst}
use Rattle.export_sink.specs.Planning.{conf_in}
use Rattle.leg_model.specs.Totals.{totals_text}
use Rattle.tele_io.specs.Mark.{Mark}
use Rattle.collector.specs.Between.{Completes}
use Rattle.collector.specs.Configured.{run_meaning}
use Rattle.collector.specs.Devices.{devices}
use Rattle.collector.specs.Ends.{Runs}
use Rattle.collector.specs.Lines.{status_of}
use Rattle.collector.specs.Source.{text_in}
use Rattle.collector.proofs.Causes.{stay-then, caused-after, write-stays}
use Rattle.collector.proofs.RunConf.{run-created, run-uncreated}
use Rattle.collector.proofs.RunLemmas.{runs-untouched, runs-summed, sum-causes}
use Rattle.collector.proofs.configured.run_plan.Goals as goal

pub returns-in-Err-clause-runs : goal.returns-in-Err-clause-runs
returns-in-Err-clause-runs g c =
    runs-untouched _ (devices (g.D.Disk.seen c.args.disk.now) (g.O.Sink.seen c.args.out.now) (g.N.Sink.seen c.args.notes.now))

pub returns-in-Err-no_totals-clause-runs : goal.returns-in-Err-no_totals-clause-runs
returns-in-Err-no_totals-clause-runs g c =
    runs-untouched _ (devices (g.D.Disk.seen c.args.disk.now) (g.O.Sink.seen c.args.out.now) (g.N.Sink.seen c.args.notes.now))

pub returns-in-Err-create_files-clause-runs : goal.returns-in-Err-create_files-clause-runs
returns-in-Err-create_files-clause-runs g c =
    run-uncreated (conf_in c.args.plan.now) (text_in c.args.source.now c.args.name.now) _ _ (g.O.Sink.seen c.args.out.now) (g.N.Sink.seen c.args.notes.now) c.as_slice.result.now c.as_slice.ensures _ c.in-Err-create_files.ensures

pub returns-in-Ok-run_lines-clause-runs : goal.returns-in-Ok-run_lines-clause-runs
returns-in-Ok-run_lines-clause-runs g c =
    let conf = conf_in c.args.plan.now in
    let out = g.O.Sink.seen c.args.out.now in
    let disk = g.D.Disk.seen c.run_lines.new.disk in
    let notes = g.N.Sink.seen c.run_lines.new.notes in
    let old = devices (g.D.Disk.seen c.args.disk.now) out (g.N.Sink.seen c.args.notes.now) in
    let named = ap (λ (p : Mark). p.name) c.in-Ok.ensures.at_start in
    let totals = c.run_lines.new.counted.totals in
    let ends = c.in-Ok-run_lines.ensures.ends old out (run-created conf _ _ _ _ _ c.as_slice.result.now c.as_slice.ensures c.in-Ok-create_files.ensures) in
    runs-summed _ old disk out (g.O.Sink.seen c.sum_up.new.out) notes (totals_text conf totals) totals.refused
    (subst (λ (name : List ℕ). Completes (run_meaning conf (text_in c.args.source.now name)) (totals_text conf totals) totals.refused old (devices disk out notes)) named ends)
    c.sum_up.result c.sum_up.ensures

pub returns-clause-runs : goal.returns-clause-runs
returns-clause-runs g c =
    let conf = conf_in c.args.plan.now in
    let out = g.O.Sink.seen c.args.out.now in
    let new = devices (g.D.Disk.seen c.run_lines.new.disk) out (g.N.Sink.seen c.run_lines.new.notes) in
    let old = devices (g.D.Disk.seen c.args.disk.now) out (g.N.Sink.seen c.args.notes.now) in
    let named = ap (λ (p : Mark). p.name) c.in-Ok.ensures.at_start in
    let ends = c.in-Err-run_lines.ensures.ends old out (run-created conf _ _ _ _ _ c.as_slice.result.now c.as_slice.ensures c.in-Ok-create_files.ensures) in
    rw c.from.ensures
    (subst (λ (name : List ℕ). Runs (run_meaning conf (text_in c.args.source.now name)) old new (status_of c.in-Err-run_lines.stop)) named ends)

pub returns-in-Ok-run_lines-clause-cause : goal.returns-in-Ok-run_lines-clause-cause
returns-in-Ok-run_lines-clause-cause g c =
    let conf = conf_in c.args.plan.now in
    let out = g.O.Sink.seen c.args.out.now in
    let notes = g.N.Sink.seen c.args.notes.now in
    let old_disk = g.D.Disk.seen c.args.disk.now in
    let mid_disk = g.D.Disk.seen c.create_files.new.disk in
    let disk = g.D.Disk.seen c.run_lines.new.disk in
    let new_notes = g.N.Sink.seen c.run_lines.new.notes in
    let new_out = g.O.Sink.seen c.sum_up.new.out in
    let d0 = devices old_disk out notes in
    let d1 = devices mid_disk out notes in
    let d2 = devices disk out new_notes in
    let d3 = devices disk new_out new_notes in
    let totals = c.run_lines.new.counted.totals in
    caused-after d0 d2 d3 c.sum_up.result (stay-then d0 d1 d2 (write-stays old_disk mid_disk out notes c.in-Ok-create_files.ensures) (c.in-Ok-run_lines.ensures.cause out))
    (sum-causes c.sum_up.result disk out new_out new_notes (totals_text conf totals) totals.refused c.sum_up.ensures)

pub returns-clause-cause : goal.returns-clause-cause
returns-clause-cause g c =
    let out = g.O.Sink.seen c.args.out.now in
    let notes = g.N.Sink.seen c.args.notes.now in
    let old_disk = g.D.Disk.seen c.args.disk.now in
    let mid_disk = g.D.Disk.seen c.create_files.new.disk in
    let d0 = devices old_disk out notes in
    let d1 = devices mid_disk out notes in
    let d2 = devices (g.D.Disk.seen c.run_lines.new.disk) out (g.N.Sink.seen c.run_lines.new.notes) in
    rw c.from.ensures
    (caused-after d0 d1 d2 (status_of c.in-Err-run_lines.stop) (write-stays old_disk mid_disk out notes c.in-Ok-create_files.ensures) (c.in-Err-run_lines.ensures.cause out))
