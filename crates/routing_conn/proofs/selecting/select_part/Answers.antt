use Rattle.routing_conn.proofs.Parts.{refused, selects_resources}
use Rattle.routing_conn.proofs.selecting.select_part.Goals as goal

pub returns-in-Resource-clause-ok : goal.returns-in-Resource-clause-ok
returns-in-Resource-clause-ok c =
    let made = c.select_resources.ensures in
    selects_resources c.args.context c.args.keep.now c.args.root.now c.args.forest.now c.select_resources.new.self c.select_resources.result
    c.in-Resource.is made.tree made.live made.fresh made.others made.spare made.made

pub returns-in-Resource-clause-err : goal.returns-in-Resource-clause-err
returns-in-Resource-clause-err c =
    refused c.args.forest.now c.select_resources.new.self c.select_resources.result c.select_resources.ensures.err
