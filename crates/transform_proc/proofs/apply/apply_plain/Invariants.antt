use Rattle.std.proofs.Common.{◌≡◌, drop}
use Rattle.pdata_tree.specs.Operations.{log_trees}
use Rattle.proc_targets.specs.Ends.{Stays}
use Rattle.transform_proc.specs.Meaning.{groups_run, transformed}
use Rattle.transform_proc.proofs.apply.apply_plain.Given as goal

-- the groups left make of what stands now what all make of what stood at first
abbrev pub invariant-loop-number : goal.invariant-loop-number
invariant-loop-number l = record {
  whole :
      groups_run log_trees l.settings.error_mode l.number (drop l.number l.settings.log_statements) l.tree l.book
      ≡ transformed log_trees l.settings l.initial.tree l.initial.book;
  stays : Stays l.settings.error_mode l.initial.book l.book;
}
