use Rattle.std.proofs.Common.{◌∙◌, sym, ap, ℕ, ◌+◌, ◌%◌, arith}
use Rattle.jiff_core.specs.Calendar.{weekday_number}
use Rattle.std.proofs.Common.{FitsSigned, w64, to_z-of_z}
use Rattle.std.specs.Int.{w128}
use Rattle.jiff_core.proofs.SignedLemmas.{signed_arith}
use Rattle.func_time.proofs.Walks.{day_at}
use Rattle.func_time.proofs.civil.week_day.Goals as goal

pub returns : goal.returns
returns c =
    let fits : FitsSigned w64 c.args.nanos = c.ranges.nanos in
    let wide : FitsSigned w128 c.args.nanos = omega (arith, signed_arith) in
    let at = simp to_z-of_z at c.from_nanosecond_in_range.ensures in
    let day = day_at c.from_nanosecond_in_range.result c.args.nanos at in
    ap (λ (w : ℕ). (w + 1) % 7) (c.index.ensures.value ∙ c.weekday.ensures ∙ sym (ap weekday_number day))
