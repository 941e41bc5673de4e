use Rattle.std.proofs.Common.{◌≡◌, arith, ◌+ℤ◌, FitsSigned, w64, to_z, of_z, to_z-of_z}
use Rattle.std.specs.Int.{w128}
use Rattle.std.proofs.lemmas.Int.{ints}
use Rattle.bson_value.specs.Calendar.{is_date}
use Rattle.date_ops.proofs.RangeFacts.{answer-ok}
use Rattle.date_ops.proofs.sum.add_time.Goals as goal

pub returns : goal.returns
returns c =
    let fits : FitsSigned w64 c.args.ms = c.ranges.ms in
    let wide : to_z w128 (of_z w128 c.from.result) ≡ c.args.ms = omega (arith, ints) in
    let is = rw wide at (answer-ok (is_date (to_z w128 (of_z w128 c.from.result))) (to_z w128 (of_z w128 c.from.result)) c.in_ok-ms.ms c.in_ok-ms.ensures) in
    let start : c.from-2.result ≡ c.args.ms = omega (arith, ints, is.1) in
    let fits_time : FitsSigned w128 c.args.time = c.ranges.time in
    let fits_start : FitsSigned w128 c.from-2.result = omega (arith, ints) in
    let fits_sum : FitsSigned w128 (c.from-2.result +ℤ c.args.time) = omega (arith, ints, c.requires) in
    rw (is.0, ← start) (simp to_z-of_z at c.dated-2.ensures)
