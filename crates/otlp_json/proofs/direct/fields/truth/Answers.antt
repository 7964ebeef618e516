use Rattle.otlp_json.proofs.Standing.{true-stands, false-stands}
use Rattle.otlp_json.proofs.direct.fields.truth.Goals as goal

pub returns-then-peek-eq116-clause-stands : goal.returns-then-peek-eq116-clause-stands
returns-then-peek-eq116-clause-stands c = true-stands c.args.depth c.args.direct.now c.word.new.direct c.in_ok-word.ensures.counts c.in_ok-word.ensures.passed

pub returns-clause-stands : goal.returns-clause-stands
returns-clause-stands c = false-stands c.args.depth c.args.direct.now c.word-2.new.direct c.in_ok-word-2.ensures.counts c.in_ok-word-2.ensures.passed
