use Rattle.std.proofs.Common.{arith}
use Rattle.std.proofs.Common.{FitsSigned, w64, to_z-of_z}
use Rattle.std.specs.Int.{w128}
use Rattle.jiff_core.proofs.SignedLemmas.{signed_arith}
use Rattle.func_time.proofs.Walks.{year_at, month_at, day_of_month_at, clock_at}
use Rattle.func_time.proofs.civil.civil.Goals as goal

pub returns-clause-year : goal.returns-clause-year
returns-clause-year c =
    let fits : FitsSigned w64 c.args.nanos = c.ranges.nanos in
    let wide : FitsSigned w128 c.args.nanos = omega (arith, signed_arith) in
    let at = simp to_z-of_z at c.from_nanosecond_in_range.ensures in
    year_at c.from_nanosecond_in_range.result c.args.nanos at

pub returns-clause-month : goal.returns-clause-month
returns-clause-month c =
    let fits : FitsSigned w64 c.args.nanos = c.ranges.nanos in
    let wide : FitsSigned w128 c.args.nanos = omega (arith, signed_arith) in
    let at = simp to_z-of_z at c.from_nanosecond_in_range.ensures in
    month_at c.from_nanosecond_in_range.result c.args.nanos at

pub returns-clause-day : goal.returns-clause-day
returns-clause-day c =
    let fits : FitsSigned w64 c.args.nanos = c.ranges.nanos in
    let wide : FitsSigned w128 c.args.nanos = omega (arith, signed_arith) in
    let at = simp to_z-of_z at c.from_nanosecond_in_range.ensures in
    day_of_month_at c.from_nanosecond_in_range.result c.args.nanos at

pub returns-clause-hour : goal.returns-clause-hour
returns-clause-hour c =
    let fits : FitsSigned w64 c.args.nanos = c.ranges.nanos in
    let wide : FitsSigned w128 c.args.nanos = omega (arith, signed_arith) in
    let at = simp to_z-of_z at c.from_nanosecond_in_range.ensures in
    let k = clock_at c.from_nanosecond_in_range.result c.args.nanos at in
    omega arith

pub returns-clause-minute : goal.returns-clause-minute
returns-clause-minute c =
    let fits : FitsSigned w64 c.args.nanos = c.ranges.nanos in
    let wide : FitsSigned w128 c.args.nanos = omega (arith, signed_arith) in
    let at = simp to_z-of_z at c.from_nanosecond_in_range.ensures in
    let k = clock_at c.from_nanosecond_in_range.result c.args.nanos at in
    omega arith

pub returns-clause-second : goal.returns-clause-second
returns-clause-second c =
    let fits : FitsSigned w64 c.args.nanos = c.ranges.nanos in
    let wide : FitsSigned w128 c.args.nanos = omega (arith, signed_arith) in
    let at = simp to_z-of_z at c.from_nanosecond_in_range.ensures in
    let k = clock_at c.from_nanosecond_in_range.result c.args.nanos at in
    omega arith

pub returns-clause-nanosecond : goal.returns-clause-nanosecond
returns-clause-nanosecond c =
    let fits : FitsSigned w64 c.args.nanos = c.ranges.nanos in
    let wide : FitsSigned w128 c.args.nanos = omega (arith, signed_arith) in
    let at = simp to_z-of_z at c.from_nanosecond_in_range.ensures in
    let k = clock_at c.from_nanosecond_in_range.result c.args.nanos at in
    omega arith
