use Rattle.std.proofs.Common.{◌∙◌, ap, w64, rules}
use Rattle.std.specs.Prelude.{Some, ℤ}
use mir.Val.{SFits}
use Rattle.std.proofs.lemmas.Int.{to_z-of_z}
use Rattle.func_text.proofs.Spelled.{spelled, not_spelled}
use Rattle.func_text.proofs.numbers.spelled_int.Goals as goal

pub returns-in-Ok : goal.returns-in-Ok
returns-in-Ok c =
    let fits : SFits w64 c.in-Ok.int = search rules in
    ap (λ (n : ℤ). Some n) (to_z-of_z w64 c.in-Ok.int fits) ∙ spelled c.args.text.now c.in-Ok.int c.in-Ok.ensures.value.0

pub returns-in-Err : goal.returns-in-Err
returns-in-Err c = not_spelled c.args.text.now c.in-Err.ensures.value.0
