use Rattle.std.proofs.Common.{◌≡◌, drop}
use Rattle.pdata_tree.specs.Operations.{log_trees}
use Rattle.proc_targets.specs.Ends.{Stays}
use Rattle.routing_conn.specs.Meaning.{judges, routed_by}
use Rattle.routing_conn.proofs.Turns.{trees_before}
use Rattle.routing_conn.proofs.routing.apply_plain.Given as goal

-- the trees so far, then those of the rows left, are all
abbrev pub invariant-loop-index : goal.invariant-loop-index
invariant-loop-index l = record {
  value :
      trees_before l.rows
      (routed_by log_trees (judges l.settings.error_mode l.index (drop l.index l.settings.table)) l.left l.book)
      ≡ routed_by log_trees (judges l.settings.error_mode 0 l.settings.table) l.fn.tree l.initial.book;
  stays : Stays l.settings.error_mode l.initial.book l.book;
}
