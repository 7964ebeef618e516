use Rattle.std.proofs.Common.{arith, refl}
use Rattle.json_text.proofs.Written.{bytes-end, bytes-more}
use Rattle.json_text.proofs.writer.push_bytes.Goals as goal

pub returns-then-count-rest : goal.returns-then-count-rest
returns-then-count-rest c =
    bytes-end c.args.out.now.items c.args.bytes.now c.runs.out.items c.runs.rest.now _ c.plain_len-count.result c.runs.invariant c.plain_len-count.ensures.value
    c.if-count-rest.true c.in_ok-extend_from_slice.ensures.items

pub runs-preserved : goal.runs-preserved
runs-preserved c =
    bytes-more c.args.out.now.items c.args.bytes.now c.runs.out.items c.runs.rest.now _ _ c.plain_len-count.result _ c.runs.invariant c.plain_len-count.ensures.value
    (omega (arith, c.plain_len-count.ensures.within, c.if-count-rest.false)) c.in_ok-extend_from_slice.ensures.items c.in_ok-push_escape.ensures refl
