use Rattle.routing_conn.proofs.Frames.{gave_all, none_given}
use Rattle.routing_conn.proofs.forest.apply.Goals as goal

pub returns-in-Ok-clause-roots : goal.returns-in-Ok-clause-roots
returns-in-Ok-clause-roots c =
    let share = c.share-rest.ensures in
    gave_all c.args.root.now c.share-rest.result c.args.forest.now c.share-rest.new.self c.route_rows.new.forest c.route_rows.new.rows.roots
    share.others share.live share.fresh share.spare share.made c.route_rows.ensures.routes

-- the roots of the rows are given up, and then the rest
pub returns-in-Err-clause-err : goal.returns-in-Err-clause-err
returns-in-Err-clause-err c =
    let share = c.share-rest.ensures in
    let rows = c.route_rows.new.rows.roots in
    let gave =
    gave_all c.args.root.now c.share-rest.result c.args.forest.now c.share-rest.new.self c.route_rows.new.forest rows share.others share.live share.fresh
    share.spare share.made c.route_rows.ensures.routes in
    none_given c.args.root.now c.share-rest.result c.args.forest.now c.route_rows.new.forest c.give_up.new.forest c.release.new.self rows gave
    c.give_up.ensures c.release.ensures.gone c.release.ensures.others c.release.ensures.spare c.release.ensures.made
