-- Numbers and the bits that they fit.
use Rattle.std.proofs.Common.{◌≡◌, ◌≤◌, ℤ, pos, negsuc, unsigned_abs, FitsSigned, false, arith}
use Rattle.std.specs.Int.{w32}
use Rattle.std.specs.Prelude.{◌≢◌}
use Rattle.std.specs.Ordering.{int_eq}
use Rattle.std.proofs.lemmas.Int.{ints}

pub not_zero : (z : ℤ) → z ≢ pos 0 → int_eq z (pos 0) ≡ false
not_zero z h = grind (arith, ints)

pub size_of : (z : ℤ) → FitsSigned w32 z → unsigned_abs z ≤ 2_147_483_648
size_of (pos n) f = omega (arith, f.sfits)
size_of (negsuc n) f = omega (arith, f.sfits)
