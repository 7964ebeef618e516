use Rattle.std.proofs.Common.{◌∙◌, refl, sym, arith}
use Rattle.otlp_json.specs.Limits.{one_holder}
use Rattle.otlp_json.specs.Trees.{resource_logs_in, resource_logs_table, empty_resource_logs}
use Rattle.otlp_json.proofs.ObjectsPassed.{object-begin, object-more, counted-stands}
use Rattle.otlp_json.proofs.direct.trees.resource_logs.Goals as goal

pub loop-more-init : goal.loop-more-init
loop-more-init c = object-begin resource_logs_table empty_resource_logs c.args.depth 10 _ c.opens.new.direct c.empty_resource_logs-element.result c.in_ok-more.more c.empty_resource_logs-element.ensures c.in_ok-more.ensures.opens c.in_ok-more.ensures.shorter

pub loop-more-preserved : goal.loop-more-preserved
loop-more-preserved c =
    object-more resource_logs_table empty_resource_logs c.args.depth c.opens.new.direct.counts c.args.direct.now.cursor c.loop-more.direct c.key.new.direct c.resource_logs_member.new.direct c.goes.new.direct
    c.loop-more.element c.resource_logs_member.new.element c.in_ok-key.key.now c.in_ok-row.row c.loop-more.taken c.take.new.taken c.in_ok-more-2.more
    (rw c.loop-more-test.true at c.loop-more.invariant) c.in_ok-key.ensures.key c.in_ok-key.ensures.counts c.in_ok-row.ensures.fills c.in_ok-take.ensures
    c.in_ok-more-2.ensures.comma c.in_ok-more-2.ensures.counts (omega (arith, c.in_ok-key.ensures.shorter, c.in_ok-row.ensures.shorter, c.in_ok-more-2.ensures.shorter))

pub returns-clause-stands : goal.returns-clause-stands
unfolding resource_logs_in
returns-clause-stands c =
    counted-stands resource_logs_table empty_resource_logs c.args.depth one_holder c.args.direct.now _ c.opens.new.direct c.loop-more.direct c.at-at.result c.in_ok-more.more c.loop-more.element c.loop-more.taken
    c.in_ok-more.ensures.opens refl c.at-at.ensures c.in_ok-count_holder.ensures (rw c.loop-more-test.false at c.loop-more.invariant)

pub returns-clause-shorter : goal.returns-clause-shorter
returns-clause-shorter c = c.loop-more.invariant.less
