use Rattle.std.proofs.Common.{◌≡◌, arith, pos, ◌+ℤ◌, ◌≤ℤ◌, FitsSigned, to_z-of_z, unsigned_abs, refl, sym, ap, ◌∙◌}
use Rattle.std.specs.Int.{w128}
use Rattle.std.proofs.lemmas.Int.{ints}
use Rattle.bson_value.specs.Calendar.{day_in_month}
use Rattle.date_ops.specs.Civil.{month_number_of}
use Rattle.date_ops.proofs.RangeFacts.{is_month-true, is_month-early, is_month-late, not_negative}
use Rattle.date_ops.proofs.sum.shift.Goals as goal
use Rattle.date_ops.proofs.sum.shift.Goals.{then-number-lt12-via-then-number-lt12, then-number-lt12-via-else-number-lt12+then-number-gt119999}

pub returns-then-number-lt12-clause-err : goal.returns-then-number-lt12-clause-err
returns-then-number-lt12-clause-err c =
    let n = month_number_of c.args.date +ℤ c.args.months in
    elim c.then-number-lt12.branch [
      | then-number-lt12-via-then-number-lt12 w ↦ (is_month-early n (omega (arith, ints)), refl)
      | then-number-lt12-via-else-number-lt12+then-number-gt119999 w ↦ (is_month-late n (omega (arith, ints)), refl)
    ]

pub returns-clause-ok : goal.returns-clause-ok
returns-clause-ok c =
    let fits : FitsSigned w128 c.args.months = c.ranges.months in
    let number = month_number_of c.args.date +ℤ c.args.months in
    let first : c.from.result ≡ month_number_of c.args.date = omega (arith, ints) in
    let fits_first : FitsSigned w128 c.from.result = omega (arith, ints) in
    let fits_sum : FitsSigned w128 (c.from.result +ℤ c.args.months) = omega (arith, ints) in
    let low : pos 12 ≤ℤ number = omega (arith, ints) in
    let high : number ≤ℤ pos 119_999 = omega (arith, ints) in
    let is : number ≡ pos (unsigned_abs number) = not_negative number (omega (arith, ints)) in
    let e = rw (first, c.to_plain.ensures) at (simp to_z-of_z at c.day_in_month.ensures) in
    (is_month-true number low high, e ∙ ap (λ n. day_in_month n c.args.date.day) (sym is))
