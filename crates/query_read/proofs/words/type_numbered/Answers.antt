use Rattle.std.proofs.Common.{◌≡◌, ◌∙◌, arith, pos, ◌≤ℤ◌, ◌<ℤ◌, FitsSigned, to_z-of_z, unsigned_abs}
use Rattle.std.specs.Int.{w64}
use Rattle.std.proofs.lemmas.Int.{ints}
use Rattle.query_read.specs.Words.{type_numbers}
use Rattle.query_read.proofs.Fields.{positive_number, least_number, no_number}
use Rattle.query_read.proofs.words.type_numbered.Goals as goal

pub returns-then-number-ge0 : goal.returns-then-number-ge0
unfolding type_numbers
returns-then-number-ge0 c =
    let fits : FitsSigned w64 c.args.number = c.ranges.number in
    let low : pos 0 ≤ℤ c.args.number = omega (arith, ints) in
    let size : c.unsigned_abs-size.result ≡ unsigned_abs c.args.number = simp (to_z-of_z c.ranges.number) at c.unsigned_abs-size.ensures.value in
    c.find_number.ensures ∙ positive_number c.args.number c.unsigned_abs-size.result low size

pub returns-then-size-eq1 : goal.returns-then-size-eq1
returns-then-size-eq1 c =
    let fits : FitsSigned w64 c.args.number = c.ranges.number in
    let high : c.args.number <ℤ pos 0 = omega (arith, ints) in
    let size : c.unsigned_abs-size.result ≡ unsigned_abs c.args.number = simp (to_z-of_z c.ranges.number) at c.unsigned_abs-size.ensures.value in
    least_number c.args.number c.unsigned_abs-size.result high size c.if-size-eq1.true

pub returns-else-size-eq1 : goal.returns-else-size-eq1
returns-else-size-eq1 c =
    let fits : FitsSigned w64 c.args.number = c.ranges.number in
    let high : c.args.number <ℤ pos 0 = omega (arith, ints) in
    let size : c.unsigned_abs-size.result ≡ unsigned_abs c.args.number = simp (to_z-of_z c.ranges.number) at c.unsigned_abs-size.ensures.value in
    no_number c.args.number c.unsigned_abs-size.result high size c.if-size-eq1.false
