use Rattle.std.proofs.Common.{arith, ap, length}
use Rattle.json_text.specs.Place.{Rest}
use Rattle.json_text.proofs.cursor.Cursor.pass.Goals as goal

pub overflow_cast-self : goal.overflow_cast-self
overflow_cast-self c = omega (arith, c.requires.0, c.self.invariant, ap (λ (r : Rest). length r.left) c.self.view_is)
