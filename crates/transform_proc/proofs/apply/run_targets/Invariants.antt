use Rattle.std.proofs.Common.{◌≡◌, drop}
use Rattle.pdata_tree.specs.Operations.{log_trees}
use Rattle.proc_targets.specs.Ends.{Stays}
use Rattle.transform_proc.specs.Meaning.{targets_run}
use Rattle.transform_proc.specs.Turns.{turn_of}
use Rattle.transform_proc.proofs.apply.run_targets.Given as goal

-- the targets left make of what stands now what all make of what stood at first
abbrev pub invariant-loop-place : goal.invariant-loop-place
invariant-loop-place l = record {
  whole :
      targets_run log_trees (turn_of l.turn) (drop l.place-index l.places) l.tree l.book
      ≡ targets_run log_trees (turn_of l.turn) l.places l.initial.tree l.initial.book;
  stays : Stays l.turn.mode l.initial.book l.book;
}
