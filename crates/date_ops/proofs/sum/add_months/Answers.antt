use Rattle.std.proofs.Common.{arith, FitsSigned, w64, to_z-of_z, Ok, ap, ◌∙◌}
use Rattle.std.specs.Int.{w128}
use Rattle.std.proofs.lemmas.Int.{ints}
use Rattle.bson_value.specs.Calendar.{midnight}
use Rattle.date_ops.proofs.sum.add_months.Goals as goal

pub returns : goal.returns
returns c =
    let fits : FitsSigned w64 c.args.ms = c.ranges.ms in
    let fits_months : FitsSigned w128 c.args.months = c.ranges.months in
    let here = simp to_z-of_z at c.in_ok-day_of.ensures.ok in
    let there = simp to_z-of_z at c.in_ok-date.ensures.ok in
    let time = simp to_z-of_z at c.time_of.ensures.value in
    let day = c.midnight.ensures.value ∙ ap midnight there.1 in
    rw (here.0, here.1.same_year, here.1.same_month, here.1.same_day_of_month, there.0) (ap Ok (omega (arith, ints, day, time, c.midnight.ensures.bound, c.time_of.ensures.bound)))
