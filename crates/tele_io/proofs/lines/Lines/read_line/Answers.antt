use Rattle.std.proofs.Common.{ℕ, Option, Vec, Global, refl}
use Rattle.tele_io.proofs.Steps.{cut_went_well, finish_went_well, line-stops, line-whole, line-last, not_empty, empty_broken}
use Rattle.tele_io.proofs.Tells.{reads-into, reads-then}
use Rattle.tele_io.proofs.lines.Lines.read_line.Goals as goal

pub returns-in-Err-clause-read : goal.returns-in-Err-clause-read
returns-in-Err-clause-read g c =
    let inv = c.pieces.invariant in
    reads-into _ _ _ _ (cut_went_well (Option (Vec ℕ Global)) c.cut.new.self c.in-Err.stop c.in-Err.ensures.answer) inv.read
    (line-stops _ c.args.self.now c.pieces.self c.cut.new.self refl inv.same c.cut.ensures.same c.cut.ensures.bytes c.in-Err.stop c.in-Err.ensures.answer)

pub returns-then-not-is_used_up-clause-read : goal.returns-then-not-is_used_up-clause-read
returns-then-not-is_used_up-clause-read g c =
    let inv = c.pieces.invariant in
    reads-into _ _ _ _ (finish_went_well c.cut.new.self c.finish.new.self c.finish.result c.finish.ensures.ends) inv.read
    (line-whole _ c.args.self.now c.pieces.self c.cut.new.self refl inv.same c.cut.ensures.same c.cut.ensures.bytes c.finish.new.self c.finish.result c.cut.ensures.unbroken c.cut.ensures.short c.in-Ok.ensures.answer (not_empty _ c.if-not-is_used_up.ensures) c.finish.ensures.ends)

pub returns-then-is_used_up-clause-read : goal.returns-then-is_used_up-clause-read
returns-then-is_used_up-clause-read g c =
    let inv = c.pieces.invariant in
    reads-then _ _ _ _ _ (finish_went_well c.fill.new.self c.finish-then-is_used_up.new.self c.finish-then-is_used_up.result c.finish-then-is_used_up.ensures.ends) inv.read c.in-Ok-fill.ensures.read
    (line-last _ c.args.self.now c.pieces.self c.cut.new.self refl inv.same c.cut.ensures.same c.cut.ensures.bytes c.fill.new.self c.finish-then-is_used_up.new.self c.finish-then-is_used_up.result c.fill.ensures.same c.fill.ensures.begun c.cut.ensures.unbroken c.cut.ensures.short (empty_broken _ c.if-is_used_up.ensures) c.finish-then-is_used_up.ensures.ends)
