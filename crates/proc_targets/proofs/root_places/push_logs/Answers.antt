use Rattle.std.proofs.Common.{◌∙◌, ◌++◌, List, ap, arith, drop}
use Rattle.pdata_tree.specs.Places.{log_places}
use Rattle.pdata_tree.specs.declared.place.Place.{Place}
use Rattle.share_cow.specs.Views.{logs_in}
use Rattle.proc_targets.proofs.Turns.{log_listed}
use Rattle.proc_targets.proofs.root_places.push_logs.Goals as goal

pub logs-preserved : goal.logs-preserved
logs-preserved c =
    let within = c.has_log.ensures.0 c.logs-test.true in
    let logs = logs_in c.args.view.now c.args.resource c.args.scope in
    record {
      whole =
          ap (λ (ps : List Place). ps ++ log_places c.args.resource c.args.scope c.in_ok-log.log (drop c.in_ok-log.log logs)) c.in_ok-push.ensures.ok
          ∙ log_listed c.args.resource c.args.scope c.logs.log c.in_ok-log.log logs c.logs.places within c.in_ok-log.ensures
          ∙ c.logs.invariant.whole;
      within = omega (arith, within, c.in_ok-log.ensures);
    }
