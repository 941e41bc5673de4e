use Rattle.std.proofs.Common.{◌≡◌, ◌+ℤ◌, FitsSigned, w64, to_z, of_z, arith}
use Rattle.std.specs.Int.{w128}
use Rattle.std.proofs.lemmas.Int.{ints}
use Rattle.value_ops.proofs.numbers.plus.Goals as goal

pub returns-clause-bound : goal.returns-clause-bound
returns-clause-bound c = λ i h.
    let fits : FitsSigned w64 c.args.number = c.ranges.number in
    let number : to_z w128 (of_z w128 c.from.result) ≡ c.args.number = omega (arith, ints) in
    let fits_sum : FitsSigned w128 c.args.sum = c.ranges.sum in
    let same : to_z w128 (of_z w128 c.args.sum) ≡ c.args.sum = omega (arith, ints) in
    let sum : to_z w128 (of_z w128 (c.args.sum +ℤ c.args.number)) ≡ c.args.sum +ℤ c.args.number = omega (arith, ints, c.requires.0, c.requires.1) in
    rw (number, same, sum) (omega (arith, ints, h.0), omega (arith, ints, h.1))
