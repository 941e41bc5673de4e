use Rattle.std.proofs.Common.{◌≡◌, pos, ◌+ℤ◌, ◌*ℤ◌, FitsSigned, w64, to_z, of_z, arith, lit<}
use Rattle.std.specs.Int.{w32}
use Rattle.std.proofs.lemmas.Int.{ints, fits_signed_mul, to_z-of_z}
use Rattle.value_ops.proofs.Sizes.{size_of}
use Rattle.value_ops.proofs.ranges.number_at.Goals as goal

pub overflow_cast-result-2 : goal.overflow_cast-result-2
overflow_cast-result-2 c =
    let fits_start : FitsSigned w32 c.args.start = c.ranges.start in
    let fits_step : FitsSigned w32 c.args.step = c.ranges.step in
    let start : to_z w64 (of_z w64 c.from.result) ≡ c.args.start = omega (arith, ints) in
    let step : to_z w64 (of_z w64 c.from-2.result) ≡ c.args.step = omega (arith, ints) in
    let steps : to_z w64 c.args.steps ≡ pos c.args.steps = omega (arith, ints, c.requires.few) in
    let fits_product : FitsSigned w64 (pos c.args.steps *ℤ c.args.step) = fits_signed_mul w64 (pos c.args.steps) c.args.step 1048576 2147483648 c.requires.few (size_of c.args.step fits_step) (lit< tt) in
    let fits_sum : FitsSigned w64 (c.args.start +ℤ pos c.args.steps *ℤ c.args.step) = omega (arith, ints, c.requires.fits) in
    rw (start, steps, step, to_z-of_z w64 (pos c.args.steps *ℤ c.args.step) fits_product, to_z-of_z w64 (c.args.start +ℤ pos c.args.steps *ℤ c.args.step) fits_sum) c.requires.fits

pub returns : goal.returns
returns c =
    let fits_start : FitsSigned w32 c.args.start = c.ranges.start in
    let fits_step : FitsSigned w32 c.args.step = c.ranges.step in
    let start : to_z w64 (of_z w64 c.from.result) ≡ c.args.start = omega (arith, ints) in
    let step : to_z w64 (of_z w64 c.from-2.result) ≡ c.args.step = omega (arith, ints) in
    let steps : to_z w64 c.args.steps ≡ pos c.args.steps = omega (arith, ints, c.requires.few) in
    let fits_product : FitsSigned w64 (pos c.args.steps *ℤ c.args.step) = fits_signed_mul w64 (pos c.args.steps) c.args.step 1048576 2147483648 c.requires.few (size_of c.args.step fits_step) (lit< tt) in
    let fits_sum : FitsSigned w64 (c.args.start +ℤ pos c.args.steps *ℤ c.args.step) = omega (arith, ints, c.requires.fits) in
    rw (start, steps, step, to_z-of_z w64 (pos c.args.steps *ℤ c.args.step) fits_product, to_z-of_z w64 (c.args.start +ℤ pos c.args.steps *ℤ c.args.step) fits_sum)
    (to_z-of_z w32 (c.args.start +ℤ pos c.args.steps *ℤ c.args.step) c.requires.fits)
