use Rattle.std.proofs.Common.{◌∙◌, ap, sym, FitsSigned, to_z-of_z}
use Rattle.std.specs.Int.{w16}
use Rattle.func_time.specs.Formats.{ranged}
use Rattle.func_time.proofs.Runs.{civil_nanos_at, civil_moment_ok}
use Rattle.func_time.proofs.reading.civil_moment.Goals as goal

pub returns : goal.returns
returns c =
    let fits : FitsSigned w16 c.args.year = c.ranges.year in
    let d = simp to_z-of_z at c.in-Some.ensures.value in
    let found = simp to_z-of_z at c.in-Some.ensures.found in
    let t = c.in-Some-time_at.ensures.value in
    c.moment_at.ensures
    ∙ ap ranged (civil_nanos_at c.in-Some.date c.in-Some-time_at.time c.args.year c.args.month c.args.day c.args.hour c.args.minute c.args.second d.0 d.1 d.2 t.0 t.1 t.2 t.3)
    ∙ sym (civil_moment_ok c.args.year c.args.month c.args.day c.args.hour c.args.minute c.args.second found c.in-Some-time_at.ensures.found)
