use Rattle.std.proofs.Common.{◌∙◌, refl, sym, arith}
use Rattle.otlp_json.specs.Trees.{resources_in, resource_logs_in}
use Rattle.otlp_json.proofs.Passing.{Listed-begin, Listed-more}
use Rattle.otlp_json.proofs.ObjectsPassed.{list-stands}
use Rattle.otlp_json.proofs.direct.trees.resources.Goals as goal

pub loop-more-init : goal.loop-more-init
loop-more-init c = rw c.new-resources.ensures (Listed-begin resource_logs_in c.args.depth c.args.direct.now c.opens.new.direct.counts c.opens.new.direct c.in_ok-more.more c.in_ok-more.ensures.opens c.in_ok-more.ensures.shorter refl)

pub loop-more-preserved : goal.loop-more-preserved
loop-more-preserved c =
    rw c.in_ok-push.ensures.ok (Listed-more resource_logs_in c.args.depth c.args.direct.now c.opens.new.direct.counts c.loop-more.direct c.resource_logs.new.direct c.goes.new.direct c.loop-more.resources c.in_ok-resource_logs.field-0 c.in_ok-more-2.more
    (rw c.loop-more-test.true at c.loop-more.invariant) c.in_ok-resource_logs.ensures.stands c.in_ok-more-2.ensures.comma c.in_ok-more-2.ensures.counts
    (omega (arith, c.in_ok-resource_logs.ensures.shorter, c.in_ok-more-2.ensures.shorter)))

pub returns-clause-stands : goal.returns-clause-stands
unfolding resources_in
returns-clause-stands c =
    list-stands resource_logs_in c.args.depth c.args.direct.now c.opens.new.direct c.loop-more.direct c.in_ok-more.more c.loop-more.resources c.in_ok-more.ensures.opens
    (rw c.loop-more-test.false at c.loop-more.invariant)

pub returns-clause-shorter : goal.returns-clause-shorter
returns-clause-shorter c = c.loop-more.invariant.less
