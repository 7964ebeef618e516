use Rattle.std.proofs.Common.{◌≡◌, drop}
use Rattle.ottl_eval.specs.Stages.{stage}
use Rattle.pdata_tree.specs.Operations.{log_trees}
use Rattle.proc_targets.specs.Ends.{Stays}
use Rattle.proc_targets.specs.Judging.{no_pairs}
use Rattle.transform_proc.specs.Meaning.{statements_run}
use Rattle.transform_proc.proofs.target.run_statements.Given as goal

-- the statements left make of what stands now what all make of what stood at first
abbrev pub invariant-loop-index : goal.invariant-loop-index
invariant-loop-index g l =
    let now = stage (g.S.Scene.tree l.scene) (g.S.Scene.kind l.scene) (g.S.Scene.place l.scene) l.cache in
    let first = stage (g.S.Scene.tree l.initial.scene) (g.S.Scene.kind l.initial.scene) (g.S.Scene.place l.initial.scene) no_pairs in
    record {
      whole :
          statements_run log_trees l.spot l.index (drop l.index l.statements) now l.book
          ≡ statements_run log_trees l.spot 0 l.statements first l.initial.book;
      keeps : g.S.Scene.keeps l.initial.scene l.scene;
      stays : Stays l.spot.mode l.initial.book l.book;
    }
