use Rattle.std.proofs.Common.{◌≡◌, drop}
use Rattle.ottl_eval.specs.Stages.{stage}
use Rattle.pdata_tree.specs.Operations.{log_trees}
use Rattle.proc_targets.specs.Ends.{Stays}
use Rattle.proc_targets.specs.Judging.{any_holds, no_pairs}
use Rattle.proc_targets.proofs.judging.any_holds.Given as goal

-- the conditions left decide as all do, and under propagate no error was counted
abbrev pub invariant-loop-index : goal.invariant-loop-index
invariant-loop-index g l =
    let s = stage (g.S.Scene.tree l.scene) (g.S.Scene.kind l.scene) (g.S.Scene.place l.scene) no_pairs in
    record {
      whole :
          any_holds log_trees l.spot l.index (drop l.index l.conditions) s l.book
          ≡ any_holds log_trees l.spot 0 l.conditions s l.initial.book;
      stays : Stays l.spot.mode l.initial.book l.book;
    }
