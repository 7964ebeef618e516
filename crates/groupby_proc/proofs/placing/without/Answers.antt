use Rattle.std.proofs.Common.{◌∙◌, ap, arith}
use Rattle.pdata_value.specs.Pairs.{without}
use Rattle.pdata_value.specs.Value.{pairs}
use Rattle.groupby_proc.proofs.Placed.{key_turn, keys_ended}
use Rattle.groupby_proc.proofs.placing.without.Goals as goal

pub loop-key-preserved : goal.loop-key-preserved
loop-key-preserved c =
    key_turn c.args.keys.now c.loop-key.key-index c.key-item.result (pairs c.loop-key.pairs) _ _ c.loop-key-test.true c.key-item.is
    (c.remove.ensures.rest ∙ ap (without (pairs c.loop-key.pairs)) c.as_str.ensures.value) c.loop-key.invariant

pub returns : goal.returns
returns c = keys_ended c.args.keys.now c.loop-key.key-index (pairs c.loop-key.pairs) _ (omega (arith, c.loop-key-test.false)) c.loop-key.invariant
