use Rattle.routing_conn.proofs.Parts.{refused, retains_resources}
use Rattle.routing_conn.proofs.selecting.retain_part.Goals as goal

pub returns-in-Resource-clause-ok : goal.returns-in-Resource-clause-ok
returns-in-Resource-clause-ok c =
    let left = c.retain_resources.ensures in
    retains_resources c.args.context c.args.keep.now c.args.root.now c.args.forest.now c.retain_resources.new.self c.retain_resources.result
    c.in-Resource.is left.tree left.live left.others left.spare left.made

pub returns-in-Resource-clause-err : goal.returns-in-Resource-clause-err
returns-in-Resource-clause-err c =
    refused c.args.forest.now c.retain_resources.new.self c.retain_resources.result c.retain_resources.ensures.err
