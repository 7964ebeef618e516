use Rattle.transform_proc.proofs.target.run_one.Goals as goal
use Rattle.ottl_eval.specs.Stages.{stage}
use Rattle.pdata_tree.specs.Operations.{log_trees}
use Rattle.transform_proc.proofs.Spots.{err_back, stopped_stays}
use Rattle.transform_proc.proofs.Turns.{outcome_ends}

pub returns-clause-value : goal.returns-clause-value
returns-clause-value g c =
    outcome_ends c.args.spot.now c.args.index c.args.book.now c.meet_outcome.new.book _ _ _ c.run_statement_with-outcome.result
    c.meet_outcome.result c.run_statement_with-outcome.ensures.value c.meet_outcome.ensures.value c.meet_outcome.ensures.memory

pub returns-clause-back : goal.returns-clause-back
returns-clause-back g c =
    let new = stage (g.S.Scene.tree c.run_statement_with-outcome.new.scene) (g.S.Scene.kind c.run_statement_with-outcome.new.scene)
    (g.S.Scene.place c.run_statement_with-outcome.new.scene) c.run_statement_with-outcome.new.cache in
    let old = stage (g.S.Scene.tree c.args.scene.now) (g.S.Scene.kind c.args.scene.now) (g.S.Scene.place c.args.scene.now) c.args.cache.now in
    err_back c.meet_outcome.result
    (stopped_stays log_trees c.args.statement.now old new c.run_statement_with-outcome.result c.run_statement_with-outcome.ensures.value)
    c.meet_outcome.ensures.errs
