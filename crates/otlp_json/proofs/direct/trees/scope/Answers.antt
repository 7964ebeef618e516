use Rattle.std.proofs.Common.{◌∙◌, refl, sym, arith}
use Rattle.otlp_json.specs.Trees.{scope_in, scope_table, empty_scope}
use Rattle.otlp_json.proofs.ObjectsPassed.{object-begin, object-more, object-stands}
use Rattle.otlp_json.proofs.direct.trees.scope.Goals as goal

pub loop-more-init : goal.loop-more-init
loop-more-init c = object-begin scope_table empty_scope c.args.depth 10 _ c.opens.new.direct c.empty_scope-scope.result c.in_ok-more.more c.empty_scope-scope.ensures c.in_ok-more.ensures.opens c.in_ok-more.ensures.shorter

pub loop-more-preserved : goal.loop-more-preserved
loop-more-preserved c =
    object-more scope_table empty_scope c.args.depth c.opens.new.direct.counts c.args.direct.now.cursor c.loop-more.direct c.key.new.direct c.scope_member.new.direct c.goes.new.direct
    c.loop-more.scope c.scope_member.new.scope c.in_ok-key.key.now c.in_ok-row.row c.loop-more.taken c.take.new.taken c.in_ok-more-2.more
    (rw c.loop-more-test.true at c.loop-more.invariant) c.in_ok-key.ensures.key c.in_ok-key.ensures.counts c.in_ok-row.ensures.fills c.in_ok-take.ensures
    c.in_ok-more-2.ensures.comma c.in_ok-more-2.ensures.counts (omega (arith, c.in_ok-key.ensures.shorter, c.in_ok-row.ensures.shorter, c.in_ok-more-2.ensures.shorter))

pub returns-clause-stands : goal.returns-clause-stands
unfolding scope_in
returns-clause-stands c =
    object-stands scope_table empty_scope c.args.depth c.args.direct.now c.opens.new.direct c.loop-more.direct c.in_ok-more.more c.loop-more.scope c.loop-more.taken
    c.in_ok-more.ensures.opens (rw c.loop-more-test.false at c.loop-more.invariant)

pub returns-clause-shorter : goal.returns-clause-shorter
returns-clause-shorter c = c.loop-more.invariant.less
