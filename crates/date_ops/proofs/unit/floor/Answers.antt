use Rattle.std.proofs.Common.{◌≡◌, arith, pos, FitsSigned, w64, to_z-of_z}
use Rattle.std.proofs.lemmas.Int.{ints}
use Rattle.date_ops.proofs.RangeFacts.{is_date-bounds, floor-is}
use Rattle.date_ops.proofs.unit.floor.Goals as goal

pub returns : goal.returns
returns c =
    let fits : FitsSigned w64 c.args.ms = c.ranges.ms in
    let b = is_date-bounds c.args.ms c.requires.in_range in
    let length : c.from.result ≡ pos c.args.length = omega (arith, ints) in
    let fits_length : FitsSigned w64 c.from.result = omega (arith, ints) in
    let rem = rw length at (simp to_z-of_z at c.rem_euclid.ensures.value) in
    omega (arith, ints, floor-is c.args.ms c.args.length c.requires.some, rem, c.rem_euclid.ensures.upper_bound)
