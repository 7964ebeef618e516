use Rattle.std.proofs.Common.{◌≡◌, drop}
use Rattle.pdata_tree.specs.Operations.{log_trees}
use Rattle.proc_targets.specs.Ends.{Stays}
use Rattle.filter_proc.specs.Meaning.{flags_of}
use Rattle.proc_targets.proofs.Flags.{behind}
use Rattle.filter_proc.proofs.apply.judge_records.Given as goal

-- the flags so far, then those of the log records left, are all of them
abbrev pub invariant-loop-place : goal.invariant-loop-place
invariant-loop-place l = record {
  whole :
      behind l.flags (flags_of log_trees l.settings l.tree (drop l.place-index l.places) l.book)
      ≡ flags_of log_trees l.settings l.initial.tree l.places l.initial.book;
  tree : l.tree ≡ l.initial.tree;
  stays : Stays l.settings.error_mode l.initial.book l.book;
}
