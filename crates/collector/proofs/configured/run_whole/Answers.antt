-- Where memory runs out before the run begins, nothing was written.
use Rattle.collector.specs.Configured.{run_meaning}
use Rattle.collector.specs.Devices.{devices}
use Rattle.collector.specs.Ends.{Runs}
use Rattle.collector.specs.Source.{text_in}
use Rattle.collector.specs.declared.status.Status.TheVariants.{NoMemory}
use Rattle.collector.proofs.RunConf.{if-ok}
use Rattle.collector.proofs.RunLemmas.{runs-untouched}
use Rattle.collector.proofs.configured.run_whole.Goals as goal

pub returns-in-Err-clause-runs : goal.returns-in-Err-clause-runs
returns-in-Err-clause-runs g c =
    let old = devices (g.D.Disk.seen c.args.disk.now) (g.O.Sink.seen c.args.out.now) (g.N.Sink.seen c.args.notes.now) in
    if-ok (λ conf. Runs (run_meaning conf (text_in c.args.source.now c.args.name.now)) old old NoMemory) _ (λ conf. runs-untouched (run_meaning conf (text_in c.args.source.now c.args.name.now)) old)
