-- The numbers of a range stay between its start and its end.
use Rattle.std.proofs.Common.{◌≡◌, ℕ, suc, ◌+◌, ◌*◌, ◌/◌, ◌%◌, ◌<◌, ◌≤◌, min, ℤ, pos, negsuc, neg_ℤ, ◌+ℤ◌, ◌*ℤ◌, FitsSigned, true, refl, subst, arith}
use Rattle.std.specs.Prelude.{◌≢◌, zero, int_lt}
use Rattle.std.specs.Int.{w32, int_gap, div_ceil}
use Rattle.std.proofs.lemmas.Int.{ints}
use Rattle.std.proofs.lemmas.Grind.{div_ceil_times}
use Rattle.std.proofs.Math.Nat.{mul-le-mul_right}
use Rattle.bson_value.specs.ArrayRows.{steps_between}

up_inside : (a b : ℤ) (m : ℕ) → m < int_gap a b → FitsSigned w32 a → FitsSigned w32 b → FitsSigned w32 (a +ℤ pos m)
up_inside (pos a) (pos b) m lt f g = omega (arith, ints)
up_inside (pos a) (negsuc b) m lt f g = omega (arith, ints)
up_inside (negsuc a) (pos b) m lt f g = omega (arith, ints)
up_inside (negsuc a) (negsuc b) m lt f g = omega (arith, ints)

down_inside : (a b : ℤ) (m : ℕ) → m < int_gap b a → FitsSigned w32 a → FitsSigned w32 b → FitsSigned w32 (a +ℤ neg_ℤ (pos m))
down_inside (pos a) (pos b) m lt f g = omega (arith, ints)
down_inside (pos a) (negsuc b) m lt f g = omega (arith, ints)
down_inside (negsuc a) (pos b) m lt f g = omega (arith, ints)
down_inside (negsuc a) (negsuc b) m lt f g = omega (arith, ints)

-- so many steps are less than the distance
before_end : (k d s : ℕ) → k < d / suc s + min 1 (d % suc s) → k * suc s < d
before_end k d s lt =
    let most = div_ceil_times d (suc s) (omega arith) in
    let n = d / suc s + min 1 (d % suc s) in
    let more : suc k * suc s ≤ n * suc s = mul-le-mul_right (suc s) lt in
    omega (arith, most.1, more)

steps_up : (start end : ℤ) (s : ℕ) → steps_between start end (pos (suc s)) ≡ div_ceil (int_gap start end) (suc s)
steps_up start end s =
    let up : int_lt (pos 0) (pos (suc s)) ≡ true = grind (arith, ints) in
    rw up refl

pub stays_inside : (start end step : ℤ) (k : ℕ) → FitsSigned w32 start → FitsSigned w32 end → step ≢ pos 0 → k < steps_between start end step → FitsSigned w32 (start +ℤ pos k *ℤ step)
stays_inside start end (pos zero) k f g h lt = absurd (h refl)
stays_inside start end (pos (suc s)) k f g h lt =
    up_inside start end (k * suc s) (before_end k (int_gap start end) s (subst (λ n. k < n) (steps_up start end s) lt)) f g
stays_inside start end (negsuc s) k f g h lt = down_inside start end (k * suc s) (before_end k (int_gap end start) s lt) f g
