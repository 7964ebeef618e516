use Rattle.std.proofs.Common.{◌∙◌, ◌+◌, sym, ap, arith}
use Rattle.json_text.proofs.Masks.{first_marked, none_marked}
use Rattle.json_text.proofs.scan.plain_len.Goals as goal

pub returns-then-marks-ne0-clause-value : goal.returns-then-marks-ne0-clause-value
returns-then-marks-ne0-clause-value c =
    sym (c.loop-at.invariant.1 ∙ ap (λ n. c.loop-at.at + n) (first_marked c.loop-at.at c.args.bytes.now c.marks-marks.result (omega arith) c.marks-marks.ensures (omega (arith, c.if-marks-ne0.true))).0)

pub returns-then-marks-ne0-clause-within : goal.returns-then-marks-ne0-clause-within
returns-then-marks-ne0-clause-within c =
    omega (arith, (first_marked c.loop-at.at c.args.bytes.now c.marks-marks.result (omega arith) c.marks-marks.ensures (omega (arith, c.if-marks-ne0.true))).1)

pub loop-at-preserved : goal.loop-at-preserved
loop-at-preserved c = (
  omega arith,
  c.loop-at.invariant.1 ∙ ap (λ n. c.loop-at.at + n) (none_marked c.loop-at.at c.args.bytes.now c.marks-marks.result (omega arith) c.marks-marks.ensures (omega (arith, c.if-marks-ne0.false))) ∙ omega arith,
)
