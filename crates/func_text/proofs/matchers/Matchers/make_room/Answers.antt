use Rattle.std.proofs.Common.{arith}
use Rattle.std.proofs.lemmas.List.{length-drop}
use Rattle.func_text.proofs.matchers.Matchers.make_room.Goals as goal

pub returns-then-len-gt0 : goal.returns-then-len-gt0
returns-then-len-gt0 g c = rw c.remove.ensures.rest (omega (arith, length-drop 1 c.args.self.now.kept))
