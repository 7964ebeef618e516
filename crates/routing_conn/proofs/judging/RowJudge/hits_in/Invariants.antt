use Rattle.std.proofs.Common.{◌≡◌, drop}
use Rattle.pdata_tree.specs.Operations.{log_trees}
use Rattle.pdata_tree.specs.Places.{targets}
use Rattle.proc_targets.proofs.Flags.{behind}
use Rattle.proc_targets.specs.Ends.{Stays}
use Rattle.routing_conn.specs.Answers.{judge_of}
use Rattle.routing_conn.specs.Meaning.{hits}
use Rattle.share_cow.specs.Scene.{tree_of}
use Rattle.routing_conn.proofs.judging.RowJudge.hits_in.Given as goal

-- the flags so far, then those of the places left, are all
abbrev pub invariant-loop-place : goal.invariant-loop-place
invariant-loop-place l =
    let first = tree_of l.initial.forest l.root in
    record {
      value :
          behind l.flags (hits log_trees (judge_of l.self) (tree_of l.forest l.root) (drop l.place-index l.place-items) l.book)
          ≡ hits log_trees (judge_of l.self) first l.place-items l.initial.book;
      places : l.place-items ≡ targets first l.self.row.now.context;
      forest : l.forest ≡ l.initial.forest;
      stays : Stays l.self.mode l.initial.book l.book;
    }
