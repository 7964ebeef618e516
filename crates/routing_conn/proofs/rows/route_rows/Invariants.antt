use Rattle.std.proofs.Common.{◌≡◌, ◌≤◌, ◌+◌, drop, length, map}
use Rattle.pdata_tree.specs.Operations.{log_trees}
use Rattle.proc_targets.specs.Ends.{Stays}
use Rattle.routing_conn.specs.Bills.{bill_of}
use Rattle.routing_conn.specs.Meaning.{judges, routed_by}
use Rattle.routing_conn.specs.Rows.{Routes}
use Rattle.share_cow.specs.Scene.{tree_of}
use Rattle.share_cow.specs.Store.{made}
use Rattle.routing_conn.proofs.Turns.{trees_before}
use Rattle.routing_conn.proofs.rows.route_rows.Given as goal

-- the trees so far, then those of the rows left, are all, and so are the nodes that are made
abbrev pub invariant-rows : goal.invariant-rows
invariant-rows l =
    let left = judges l.settings.error_mode l.index (drop l.index l.settings.table) in
    let all = judges l.settings.error_mode 0 l.settings.table in
    let first = tree_of l.initial.forest l.rest in
    record {
      came :
          trees_before (map (tree_of l.forest) l.rows.roots) (routed_by log_trees left (tree_of l.forest l.rest) l.book)
          ≡ routed_by log_trees all first l.initial.book;
      routes : Routes l.rest l.initial.forest l.forest l.rows.roots;
      bill :
          made l.forest + bill_of left (tree_of l.forest l.rest) l.book
          ≤ made l.initial.forest + bill_of all first l.initial.book;
      stays : Stays l.settings.error_mode l.initial.book l.book;
      count : length l.rows.roots ≡ l.index;
      room : l.rows.room + l.index ≡ length l.settings.table;
    }
