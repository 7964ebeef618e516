use Rattle.std.proofs.Common.{◌≡◌, drop}
use Rattle.pdata_tree.specs.Operations.{log_trees}
use Rattle.proc_targets.specs.Ends.{Stays}
use Rattle.routing_conn.specs.Answers.{judge_of}
use Rattle.routing_conn.specs.Meaning.{hits}
use Rattle.proc_targets.proofs.Flags.{behind}
use Rattle.routing_conn.proofs.judging.RowJudge.hits.Given as goal

-- the flags so far, then those of the places left, are all
abbrev pub invariant-loop-place : goal.invariant-loop-place
invariant-loop-place l = record {
  value :
      behind l.flags (hits log_trees (judge_of l.self) l.tree (drop l.place-index l.places) l.book)
      ≡ hits log_trees (judge_of l.self) l.initial.tree l.places l.initial.book;
  stays : Stays l.self.mode l.initial.book l.book;
  tree : l.tree ≡ l.initial.tree;
}
