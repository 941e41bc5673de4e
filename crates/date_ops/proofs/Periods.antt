-- The last of some periods that has begun by a day.
use Rattle.std.proofs.Common.{◌≡◌, ℕ, zero, suc, ◌<◌, ◌≤◌, ℤ, ◌≤ℤ◌, ◌<ℤ◌, true, false, inl, inr, sym, arith}
use Rattle.std.specs.Prelude.{int_le}
use Rattle.std.proofs.lemmas.Bool.{cases_order}
use Rattle.std.proofs.lemmas.Int.{ints}
use Rattle.bson_value.specs.Calendar.{last_begun}

pub int_le-true : (a b : ℤ) → a ≤ℤ b → int_le a b ≡ true
int_le-true a b h = grind (arith, ints)

pub int_le-false : (a b : ℤ) → b <ℤ a → int_le a b ≡ false
int_le-false a b h = grind (arith, ints)

-- it is the period k if that has begun and none after it
pub last_begun-is : (first : ℕ → ℤ) (n k : ℕ) (day : ℤ) → 1 ≤ k → k ≤ n → first k ≤ℤ day → ((j : ℕ) → k < j → j ≤ n → day <ℤ first j) → last_begun first n day ≡ k
unfolding last_begun
last_begun-is first zero k day low high begun ahead = absurd (omega arith)
last_begun-is first (suc n) k day low high begun ahead =
    elim (cases_order k (suc n)) [
      | inl same ↦ let now : first (suc n) ≤ℤ day = rw same at begun in rw (int_le-true _ _ now) (sym same)
      | inr (inl below) ↦ rw (int_le-false _ _ (ahead (suc n) below (omega arith))) (last_begun-is first n k day low (omega arith) begun (λ j lt le. ahead j lt (omega arith)))
      | inr (inr above) ↦ absurd (omega arith)
    ]
