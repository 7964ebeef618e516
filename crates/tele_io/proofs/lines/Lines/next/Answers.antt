-- The line that was read is the first that was left, and is handed out, passed over, or the end.
use Rattle.std.proofs.Common.{◌∙◌, refl, sym, ap, arith}
use Rattle.contract_words.specs.InputLines.{is_blank_line}
use Rattle.tele_io.proofs.Steps.{takes-line, takes-blank, takes-none}
use Rattle.tele_io.proofs.Tells.{reads-then}
use Rattle.tele_io.proofs.lines.Lines.next.Goals as goal

pub returns-then-not-is_blank-clause-read : goal.returns-then-not-is_blank-clause-read
returns-then-not-is_blank-clause-read g c =
    reads-then _ _ _ _ _ refl c.lines.invariant.read c.in-Ok-Some.ensures.read
    (λ x y same p q. takes-line c.args.self.now c.lines.self c.read_line.new.self c.lines.invariant.name x y same p c.in-Ok-Some.line (c.if-not-is_blank.ensures ∙ ap is_blank_line c.as_slice.ensures.value) (rw c.in-Ok-Some.field-0-is at q))

pub lines-preserved : goal.lines-preserved
lines-preserved g c =
    let counted = rw c.in-Ok-Some.field-0-is at c.in-Ok-Some.ensures.counts in
    record {
      name = c.read_line.ensures.name ∙ c.lines.invariant.name;
      live = c.read_line.ensures.live ∙ c.lines.invariant.live;
      counts = omega (arith, c.lines.invariant.counts, counted.0);
      read = reads-then _ _ _ _ _ refl c.lines.invariant.read c.in-Ok-Some.ensures.read
          (λ x y same p q. takes-blank c.args.self.now c.lines.self c.read_line.new.self c.lines.invariant.name x y same p c.in-Ok-Some.line (c.if-not-is_blank.ensures ∙ ap is_blank_line c.as_slice.ensures.value) (rw c.in-Ok-Some.field-0-is at q));
    }

pub returns-in-Err-clause-read : goal.returns-in-Err-clause-read
returns-in-Err-clause-read g c =
    reads-then _ _ _ _ _ refl c.lines.invariant.read c.in-Err.ensures.read
    (λ x y same p q. takes-none c.args.self.now c.lines.self c.read_line.new.self c.lines.invariant.name x y same p _ c.eq-self-inside.result c.in-Err.stop (sym c.self.view_is) q)
