use Rattle.std.proofs.Common.{arith, FitsSigned, w64, to_z-of_z, Ok, ap}
use Rattle.std.proofs.lemmas.Int.{ints}
use Rattle.bson_value.specs.Calendar.{is_date, unit_number}
use Rattle.date_ops.proofs.RangeFacts.{answer-ok}
use Rattle.date_ops.proofs.unit.date_diff.Goals as goal

pub returns : goal.returns
returns c =
    let fits_first : FitsSigned w64 c.args.first = c.ranges.first in
    let fits_second : FitsSigned w64 c.args.second = c.ranges.second in
    let first = answer-ok (is_date c.args.first) (unit_number c.args.unit c.args.first) c.in_ok-first.first (simp to_z-of_z at c.in_ok-first.ensures.value) in
    let second = answer-ok (is_date c.args.second) (unit_number c.args.unit c.args.second) c.in_ok-second.second (simp to_z-of_z at c.in_ok-second.ensures.value) in
    rw (first.0, second.0) (ap Ok (omega (arith, ints, first.1, second.1, c.in_ok-first.ensures.bound, c.in_ok-second.ensures.bound)))
