use Rattle.std.proofs.Common.{◌≡◌, ◌<◌, ◌≤◌, ◌+◌, ◌∙◌, [], ◌∷◌, ℕ, List, ap, arith, drop, get_or, length, map, subst, sym}
use Rattle.std.proofs.lemmas.List.{length-append}
use Rattle.conf_json.specs.declared.settings.RouteRow.{RouteRow}
use Rattle.pdata_tree.specs.Operations.{log_trees}
use Rattle.share_cow.specs.Scene.{tree_of}
use Rattle.share_cow.specs.Store.{made}
use Rattle.routing_conn.specs.Bills.{bill_of}
use Rattle.routing_conn.specs.Meaning.{Judge, judges, routed_by}
use Rattle.routing_conn.specs.Rows.{Routes}
use Rattle.routing_conn.proofs.Coming.{billed_on, came_on, rows_from, rows_stay}
use Rattle.routing_conn.proofs.Frames.{routes_on}
use Rattle.routing_conn.proofs.Turns.{trees_before}
use Rattle.routing_conn.proofs.rows.route_rows.Goals as goal

-- the row that was routed is the first of those that were left
pub rows-preserved : goal.rows-preserved
rows-preserved c =
    let mode = c.args.settings.now.error_mode in
    let table = c.args.settings.now.table in
    let rest = c.args.rest.now in
    let first = c.args.forest.now in
    let now = c.rows.forest in
    let new = c.route_row.new.forest in
    let rows = c.rows.rows.roots in
    let taken = c.in_ok-taken.taken in
    let i = c.rows.index in
    let all = judges mode 0 table in
    let others = judges mode (i + 1) (drop (i + 1) table) in
    let judge : Judge = record { mode = mode; index = i; row = c.row-item.result } in
    let before = c.rows.invariant in
    let row = c.row-item.result in
    let within = subst (λ (rs : List RouteRow). i < length rs) c.as_slice-row-items.ensures c.rows-test.true in
    let is = subst (λ (rs : List RouteRow). row ≡ get_or rs i row) c.as_slice-row-items.ensures c.row-item.is in
    let next = rows_from mode table i row within is in
    let stay = rows_stay rest first now new rows (taken ∷ []) c.requires.live before.routes c.in_ok-taken.ensures.ok in
    let came =
    subst (λ (js : List Judge). trees_before (map (tree_of now) rows) (routed_by log_trees js (tree_of now rest) c.rows.book)
    ≡ routed_by log_trees all (tree_of first rest) c.args.book.now) next before.came in
    let bill =
    subst (λ (js : List Judge). made now + bill_of js (tree_of now rest) c.rows.book ≤ made first + bill_of all (tree_of first rest) c.args.book.now) next
    before.bill in
    let billed = billed_on judge others now new rest taken rows c.rows.book c.route_row.new.book c.in_ok-taken.ensures.value c.in_ok-taken.ensures.made in
    record {
      came =
          ap (λ (roots : List ℕ). trees_before (map (tree_of new) roots) (routed_by log_trees others (tree_of new rest) c.route_row.new.book)) c.push.ensures.roots
          ∙ came_on judge others now new rest taken rows c.rows.book c.route_row.new.book stay c.in_ok-taken.ensures.value ∙ came;
      routes =
          subst (λ (roots : List ℕ). Routes rest first new roots) (sym c.push.ensures.roots)
          (routes_on rest first now new rows (taken ∷ []) c.requires.live before.routes c.in_ok-taken.ensures.ok);
      bill = omega (arith, billed, bill);
      stays = λ is. c.route_row.ensures.stays is ∙ before.stays is;
      count = omega (arith, ap length c.push.ensures.roots, length-append rows (taken ∷ []), before.count);
      room = omega (arith, c.push.ensures.room, before.room);
    }
