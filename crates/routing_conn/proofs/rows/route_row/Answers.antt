use Rattle.std.proofs.Common.{[], subst, sym}
use Rattle.share_cow.specs.Store.{Store}
use Rattle.routing_conn.specs.Answers.{judge_of}
use Rattle.routing_conn.specs.Rows.{Routes}
use Rattle.routing_conn.proofs.Frames.{routes_none}
use Rattle.routing_conn.proofs.Judged.{row_given, row_made}
use Rattle.routing_conn.proofs.Parts.{on_err}
use Rattle.routing_conn.proofs.rows.route_row.Goals as goal

pub returns-in_err-hits-clause-err : goal.returns-in_err-hits-clause-err
returns-in_err-hits-clause-err c =
    let rest = c.args.rest.now in
    let old = c.args.forest.now in
    on_err (Routes rest old c.hits_in.new.forest []) c.from_residual.result
    (subst (λ (f : Store). Routes rest old f []) (sym c.hits_in.ensures.forest) (routes_none rest old c.requires.live))

pub returns-in-Ok-clause-value : goal.returns-in-Ok-clause-value
returns-in-Ok-clause-value c =
    row_given (judge_of c.args.judge.now) c.args.forest.now c.hits_in.new.forest c.part_roots.new.forest c.args.rest.now c.in-Ok.taken
    c.in_ok-hits.hits c.args.book.now c.hits_in.new.book c.hits_in.ensures.forest c.in_ok-hits.ensures.value c.in-Ok.ensures.ok

pub returns-in-Ok-clause-made : goal.returns-in-Ok-clause-made
returns-in-Ok-clause-made c =
    row_made (judge_of c.args.judge.now) c.args.forest.now c.hits_in.new.forest c.part_roots.new.forest c.args.rest.now c.in-Ok.taken
    c.in_ok-hits.hits c.args.book.now c.hits_in.new.book c.hits_in.ensures.forest c.in_ok-hits.ensures.value c.in-Ok.ensures.ok
