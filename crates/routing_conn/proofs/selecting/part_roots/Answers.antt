use Rattle.routing_conn.proofs.Parts.{routes_undone}
use Rattle.routing_conn.proofs.selecting.part_roots.Goals as goal

-- the part that was made goes again
pub returns-in-Err-clause-err : goal.returns-in-Err-clause-err
returns-in-Err-clause-err c =
    routes_undone c.args.row.now.context c.args.hits.now c.args.rest.now c.in_ok-taken.taken c.args.forest.now c.select_part.new.forest
    c.leave_others.new.forest c.release.new.self c.requires.live c.in_ok-taken.ensures.ok c.in-Err.ensures.err c.release.ensures.gone
    c.release.ensures.others c.release.ensures.spare c.release.ensures.made
