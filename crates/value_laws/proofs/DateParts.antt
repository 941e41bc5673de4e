-- The parts of a date that is made of a year, a month and a day of the month.
use Rattle.std.proofs.Common.{◌≡◌, ℕ, zero, suc, ◌<◌, ◌≤◌, true, false, inl, inr, sym, ap, arith, ℤ, pos, negsuc, ◌-ℤ◌, ◌<ℤ◌, ◌≤ℤ◌}
use Rattle.std.specs.Prelude.{int_le}
use Rattle.std.proofs.lemmas.Bool.{cases_order}
use Rattle.std.proofs.lemmas.Int.{ints}
use Rattle.jiff_core.specs.Calendar.{days_from_civil, IsCivilDate}
use Rattle.jiff_core.proofs.SignedLemmas.{signed_arith, one_part}
use Rattle.jiff_core.proofs.CalendarLemmas.{days_from_civil-day_count, day_count-day_of_year, day_count-lt_year, day_count-lt_month, day_count-day}
use Rattle.bson_value.specs.Calendar.{last_begun, year, month, day_of_month}

at_most-true : (a b : ℤ) → a ≤ℤ b → int_le a b ≡ true
at_most-true a b h = grind (arith, ints)

above-false : (a b : ℤ) → b <ℤ a → int_le a b ≡ false
above-false a b h = grind (arith, ints)

last_is : (first : ℕ → ℤ) (n k : ℕ) (day : ℤ) → 1 ≤ k → k ≤ n → first k ≤ℤ day → ((j : ℕ) → k < j → j ≤ n → day <ℤ first j) → last_begun first n day ≡ k
unfolding last_begun
last_is first zero k day low high begun ahead = absurd (omega arith)
last_is first (suc n) k day low high begun ahead =
    elim (cases_order k (suc n)) [
      | inl same ↦ let now : first (suc n) ≤ℤ day = rw same at begun in rw (at_most-true _ _ now) (sym same)
      | inr (inl below) ↦ rw (above-false _ _ (ahead (suc n) below (omega arith))) (last_is first n k day low (omega arith) begun (λ j lt le. ahead j lt (omega arith)))
      | inr (inr above) ↦ absurd (omega arith)
    ]

year_from : (y m d : ℕ) → 1 ≤ y → IsCivilDate (pos y) m d → year (days_from_civil (pos y) m d) ≡ pos y
unfolding year
year_from y m d low h =
    let day = days_from_civil (pos y) m d in
    let begun : days_from_civil (pos y) 1 1 ≤ℤ day = omega (arith, signed_arith, days_from_civil-day_count, day_count-day_of_year (pos y) m d h.2.0, h.2.0) in
    let last : y ≤ 9999 = omega (arith, signed_arith, h.0.1) in
    ap pos (last_is (λ y. days_from_civil (pos y) 1 1) 9999 y day low last begun
    (λ j lt le. omega (arith, signed_arith, days_from_civil-day_count, day_count-lt_year (pos y) m d (pos j) 1 1 h (omega arith) (omega (arith, signed_arith)))))

year_is : (y : ℤ) (m d : ℕ) → pos 1 ≤ℤ y → IsCivilDate y m d → year (days_from_civil y m d) ≡ y
year_is (pos y) m d low h = year_from y m d (omega (arith, signed_arith)) h
year_is (negsuc y) m d low h = absurd (omega (arith, signed_arith))

month_is : (y : ℤ) (m d : ℕ) → IsCivilDate y m d → year (days_from_civil y m d) ≡ y → month (days_from_civil y m d) ≡ m
unfolding month
month_is y m d h same =
    let day = days_from_civil y m d in
    let begun : days_from_civil y m 1 ≤ℤ day = omega (arith, signed_arith, days_from_civil-day_count, day_count-day y m d 1 h.2.0 (omega arith), h.2.0) in
    rw same (last_is (λ m. days_from_civil y m 1) 12 m day h.1.0 h.1.1 begun
    (λ j lt le. omega (arith, signed_arith, days_from_civil-day_count, day_count-lt_month y m d j 1 h (omega arith) lt)))

day_is : (y : ℤ) (m d : ℕ) → IsCivilDate y m d → year (days_from_civil y m d) ≡ y → month (days_from_civil y m d) ≡ m → day_of_month (days_from_civil y m d) ≡ d
unfolding day_of_month
day_is y m d h same_year same_month =
    rw (same_year, same_month) (omega (arith, signed_arith, one_part (days_from_civil y m d -ℤ days_from_civil y m 1), days_from_civil-day_count, day_count-day y m d 1 h.2.0 (omega arith), h.2.0))

pub parts_are : (y : ℤ) (m d : ℕ) → pos 1 ≤ℤ y → IsCivilDate y m d
    → (year (days_from_civil y m d) ≡ y) × (month (days_from_civil y m d) ≡ m) × (day_of_month (days_from_civil y m d) ≡ d)
parts_are y m d low h =
    let same_year = year_is y m d low h in
    let same_month = month_is y m d h same_year in
    (same_year, same_month, day_is y m d h same_year same_month)
