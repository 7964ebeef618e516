use Rattle.std.proofs.Common.{◌-◌, arith}
use Rattle.json_text.specs.Reading.{value, member}
use Rattle.otlp_json.proofs.Skipping.{Skipped-begin, items-more, members-more, list-passes, object-passes}
use Rattle.otlp_json.proofs.direct.skip.+pass.Goals as goal

pub pass_list-loop-more-init : goal.pass_list-loop-more-init
pass_list-loop-more-init t c = Skipped-begin (value (c.args.depth - 1)) 93 91 c.args.depth c.args.direct.now c.opens.new.direct c.in_ok-more.more c.in_ok-more.ensures.opens c.in_ok-more.ensures.shorter

pub pass_list-loop-more-preserved : goal.pass_list-loop-more-preserved
pass_list-loop-more-preserved t c =
    items-more c.args.depth c.args.direct.now c.loop-more.direct c.pass.new.direct c.goes.new.direct c.in_ok-more-2.more
    (rw c.loop-more-test.true at c.loop-more.invariant) c.in_ok-pass.ensures.passes c.in_ok-more-2.ensures.comma c.in_ok-more-2.ensures.counts
    (omega (arith, c.in_ok-pass.ensures.shorter, c.in_ok-more-2.ensures.shorter))

pub pass_list-returns-clause-passes : goal.pass_list-returns-clause-passes
pass_list-returns-clause-passes t c =
    list-passes c.args.depth c.args.direct.now c.opens.new.direct c.loop-more.direct c.in_ok-more.more c.in_ok-more.ensures.opens
    (rw c.loop-more-test.false at c.loop-more.invariant)

pub pass_list-returns-clause-shorter : goal.pass_list-returns-clause-shorter
pass_list-returns-clause-shorter t c = c.loop-more.invariant.less

pub pass_object-loop-more-init : goal.pass_object-loop-more-init
pass_object-loop-more-init t c = Skipped-begin (member (value (c.args.depth - 1))) 125 123 c.args.depth c.args.direct.now c.opens.new.direct c.in_ok-more.more c.in_ok-more.ensures.opens c.in_ok-more.ensures.shorter

pub pass_object-loop-more-preserved : goal.pass_object-loop-more-preserved
pass_object-loop-more-preserved t c =
    members-more c.args.depth c.args.direct.now c.loop-more.direct c.key.new.direct c.pass.new.direct c.goes.new.direct c.in_ok-key.field-0.now c.in_ok-more-2.more
    (rw c.loop-more-test.true at c.loop-more.invariant) c.in_ok-key.ensures.key c.in_ok-key.ensures.counts c.in_ok-pass.ensures.passes c.in_ok-more-2.ensures.comma c.in_ok-more-2.ensures.counts
    (omega (arith, c.in_ok-key.ensures.shorter, c.in_ok-pass.ensures.shorter, c.in_ok-more-2.ensures.shorter))

pub pass_object-returns-clause-passes : goal.pass_object-returns-clause-passes
pass_object-returns-clause-passes t c =
    object-passes c.args.depth c.args.direct.now c.opens.new.direct c.loop-more.direct c.in_ok-more.more c.in_ok-more.ensures.opens
    (rw c.loop-more-test.false at c.loop-more.invariant)

pub pass_object-returns-clause-shorter : goal.pass_object-returns-clause-shorter
pass_object-returns-clause-shorter t c = c.loop-more.invariant.less
