use Rattle.std.proofs.Common.{◌≡◌, pos, neg_ℤ, ◌+ℤ◌, FitsSigned, w64, to_z-of_z, arith}
use Rattle.std.proofs.lemmas.Int.{ints}
use Rattle.expr_eval.proofs.Far.{too_far_back}
use Rattle.expr_eval.proofs.dates.moved.Goals as goal

pub returns-then-amount-eqminus9223372036854775808 : goal.returns-then-amount-eqminus9223372036854775808
returns-then-amount-eqminus9223372036854775808 c =
    too_far_back c.args.unit c.args.date c.args.amount c.args.back c.if-not-back.false (omega (arith, ints))

pub returns : goal.returns
returns c =
    let fits_date : FitsSigned w64 c.args.date = c.ranges.date in
    let fits : FitsSigned w64 c.args.amount = c.ranges.amount in
    let fits_back : FitsSigned w64 (pos 0 +ℤ neg_ℤ c.args.amount) = omega (arith, ints) in
    let same : pos 0 +ℤ neg_ℤ c.args.amount ≡ neg_ℤ c.args.amount = omega (arith, ints) in
    rw (c.if-not-back.false, ← same) (simp to_z-of_z at c.date_add-2.ensures)
