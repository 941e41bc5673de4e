use Rattle.std.proofs.Common.{◌≡◌, arith, FitsSigned, w64, to_z, of_z}
use Rattle.std.specs.Int.{w128}
use Rattle.std.proofs.lemmas.Int.{ints}
use Rattle.jiff_core.specs.Date.{epoch_day}
use Rattle.bson_value.specs.Calendar.{is_date, day_number}
use Rattle.date_ops.proofs.CivilFacts.{IsCivil-is}
use Rattle.date_ops.proofs.RangeFacts.{answer-ok, day_number-bounds}
use Rattle.date_ops.proofs.civil.day_of.Goals as goal

pub returns-in-Ok-clause-ok : goal.returns-in-Ok-clause-ok
returns-in-Ok-clause-ok c =
    let fits : FitsSigned w64 c.args.ms = c.ranges.ms in
    let wide : to_z w128 (of_z w128 c.from.result) ≡ c.args.ms = omega (arith, ints) in
    let is = rw wide at (answer-ok (is_date (to_z w128 (of_z w128 c.from.result))) (to_z w128 (of_z w128 c.from.result)) c.in_ok-ms.ms c.in_ok-ms.ensures) in
    let narrow : to_z w64 (of_z w64 c.in_ok-ms.ms) ≡ c.args.ms = omega (arith, ints, is.1) in
    let number : c.div_euclid.result ≡ day_number c.args.ms = rw narrow at c.div_euclid.ensures in
    let bounds = day_number-bounds c.args.ms is.0 in
    let same : epoch_day c.in-Ok.date ≡ day_number c.args.ms = rw (← number) (omega (arith, ints, c.in-Ok.ensures.value)) in
    (is.0, rw (c.from_plain.ensures, ← same) (IsCivil-is c.in-Ok.date (rw same bounds.0)))
