-- How far a range goes.
use Rattle.std.proofs.Common.{◌≡◌, ℕ, zero, suc, ◌+◌, ◌*◌, ◌<◌, ◌≤◌, true, false, length, map, ap, ◌∙◌, arith, ℤ, pos, negsuc, neg_ℤ, ◌+ℤ◌, ◌*ℤ◌, ◌<ℤ◌, ◌≤ℤ◌}
use Rattle.std.specs.Prelude.{int_lt, slice_get, Some}
use Rattle.std.specs.Int.{div_ceil, int_gap}
use Rattle.std.specs.List.{range_with_len}
use Rattle.std.proofs.lemmas.Int.{ints}
use Rattle.std.proofs.lemmas.Grind.{div_ceil_times}
use Rattle.std.proofs.lemmas.List.FromFn.{length-map-range_with_len}
use Rattle.std.proofs.Math.Nat.{mul-le-mul_right, add-mul}
use Rattle.std.proofs.Math.IntN.{pos-*ℤ-pos, pos-*ℤ-negsuc}
use Rattle.bson_value.specs.Tree.{Tree, leaf, int}
use Rattle.bson_value.specs.ArrayRows.{steps_between, numbers_from}

pub count : (start step : ℤ) (n : ℕ) → length (numbers_from start step n) ≡ n
count start step n = length-map-range_with_len _ 0 n

item_from : (f : ℕ → Tree) (a n i : ℕ) → i < n → slice_get (map f (range_with_len a n)) i ≡ Some (f (a + i))
item_from f a zero i h = absurd (omega arith)
item_from f a (suc n) zero h = ap (λ (k : ℕ). Some (f k)) (omega arith)
item_from f a (suc n) (suc i) h = item_from f (a + 1) n i (omega arith) ∙ ap (λ (k : ℕ). Some (f k)) (omega arith)

pub item : (start step : ℤ) (n i : ℕ) → i < n → slice_get (numbers_from start step n) i ≡ Some (leaf (int (start +ℤ pos i *ℤ step)))
item start step n i h =
    item_from (λ k. leaf (int (start +ℤ pos k *ℤ step))) 0 n i h ∙ ap (λ (k : ℕ). Some (leaf (int (start +ℤ pos k *ℤ step)))) (omega arith)

less : (a b : ℤ) → a <ℤ b → int_lt a b ≡ true
less a b h = grind (arith, ints)

not_less : (a b : ℤ) → b ≤ℤ a → int_lt a b ≡ false
not_less a b h = grind (arith, ints)

-- the least number of steps of length d that cover the gap g
short : (g d i : ℕ) → 0 < d → i < div_ceil g d → i * d < g
short g d i some h =
    let more : (i + 1) * d ≤ div_ceil g d * d = mul-le-mul_right d (omega arith) in
    omega (arith, add-mul i 1 d, (div_ceil_times g d some).1)

covered : (g d : ℕ) → 0 < d → g ≤ div_ceil g d * d
covered g d some = (div_ceil_times g d some).0

below_end : (start end : ℤ) (k : ℕ) → k < int_gap start end → (start +ℤ pos k) <ℤ end
below_end (pos a) (pos b) k h = omega (arith, ints)
below_end (pos a) (negsuc b) k h = absurd (omega arith)
below_end (negsuc a) (pos b) k h = omega (arith, ints)
below_end (negsuc a) (negsuc b) k h = omega (arith, ints)

past_end : (start end : ℤ) (k : ℕ) → int_gap start end ≤ k → end ≤ℤ (start +ℤ pos k)
past_end (pos a) (pos b) k h = omega (arith, ints)
past_end (pos a) (negsuc b) k h = omega (arith, ints)
past_end (negsuc a) (pos b) k h = omega (arith, ints)
past_end (negsuc a) (negsuc b) k h = omega (arith, ints)

above_end : (start end : ℤ) (k : ℕ) → k < int_gap end start → end <ℤ (start +ℤ neg_ℤ (pos k))
above_end start end k h = let f : (end +ℤ pos k) <ℤ start = below_end end start k h in omega (arith, ints)

under_end : (start end : ℤ) (k : ℕ) → int_gap end start ≤ k → (start +ℤ neg_ℤ (pos k)) ≤ℤ end
under_end start end k h = let f : start ≤ℤ (end +ℤ pos k) = past_end end start k h in omega (arith, ints)

pub rising_inside : (start end step : ℤ) (i : ℕ) → pos 0 <ℤ step → i < steps_between start end step → (start +ℤ pos i *ℤ step) <ℤ end
rising_inside start end (pos d) i up h =
    rw (pos-*ℤ-pos i d) (below_end start end (i * d) (short (int_gap start end) d i (omega (arith, ints)) (rw (less (pos 0) (pos d) up) at h)))
rising_inside start end (negsuc d) i up h = absurd (omega (arith, ints))

pub rising_outside : (start end step : ℤ) → pos 0 <ℤ step → end ≤ℤ (start +ℤ pos (steps_between start end step) *ℤ step)
rising_outside start end (pos d) up =
    rw (less (pos 0) (pos d) up, pos-*ℤ-pos) (past_end start end _ (covered (int_gap start end) d (omega (arith, ints))))
rising_outside start end (negsuc d) up = absurd (omega (arith, ints))

pub falling_inside : (start end step : ℤ) (i : ℕ) → step <ℤ pos 0 → i < steps_between start end step → end <ℤ (start +ℤ pos i *ℤ step)
falling_inside start end (pos d) i down h = absurd (omega (arith, ints))
falling_inside start end (negsuc d) i down h =
    rw (pos-*ℤ-negsuc i d) (above_end start end (i * suc d) (short (int_gap end start) (suc d) i (omega arith) h))

pub falling_outside : (start end step : ℤ) → step <ℤ pos 0 → (start +ℤ pos (steps_between start end step) *ℤ step) ≤ℤ end
falling_outside start end (pos d) down = absurd (omega (arith, ints))
falling_outside start end (negsuc d) down =
    rw (pos-*ℤ-negsuc) (under_end start end _ (covered (int_gap end start) (suc d) (omega arith)))
