-- The year, the month and the day of the month of a day.
use Rattle.std.proofs.Common.{◌≡◌, ℕ, zero, suc, ◌+◌, ◌<◌, ◌≤◌, Bool, true, false, inl, inr, refl, arith, ℤ, pos, ◌+ℤ◌, ◌-ℤ◌, ◌<ℤ◌, ◌≤ℤ◌, unsigned_abs}
use Rattle.std.specs.Prelude.{int_le, if◌then◌else◌}
use Rattle.std.proofs.lemmas.Bool.{cases_order}
use Rattle.std.proofs.lemmas.Int.{ints}
use Rattle.jiff_core.specs.Calendar.{days_from_civil, days_in_month, days_in_year}
use Rattle.jiff_core.proofs.SignedLemmas.{signed_arith, one_part}
use Rattle.jiff_core.proofs.CalendarLemmas.{days_from_civil-day_count, days_of_months_more, days_of_months_all, day_count-day_of_year, day_count-next_year, day_count-day, day_count-next_month, day_count-last_of_year}
use Rattle.bson_value.specs.Calendar.{last_begun, year, month, day_of_month}

pub at_most : (a b : ℤ) → int_le a b ≡ true → a ≤ℤ b
at_most a b h = grind (arith, ints)

above : (a b : ℤ) → int_le a b ≡ false → b <ℤ a
above a b h = grind (arith, ints)

-- ---- of n periods, the last that has begun by a day

pub record IsLastBegun (first : ℕ → ℤ) (n : ℕ) (day : ℤ) (k : ℕ) : Type 0 where
  pub some : 1 ≤ k
  pub most : k ≤ n
  pub begun : first k ≤ℤ day
  pub ahead : (j : ℕ) → k < j → j ≤ n → day <ℤ first j

step : (first : ℕ → ℤ) (n : ℕ) (day : ℤ) → first 1 ≤ℤ day → (1 ≤ n → IsLastBegun first n day (last_begun first n day))
    → (b : Bool) → int_le (first (suc n)) day ≡ b → IsLastBegun first (suc n) day (if b then suc n else last_begun first n day)
step first n day low before true e = record {
  some = omega arith;
  most = omega arith;
  begun = at_most (first (suc n)) day e;
  ahead = λ j lt le. absurd (omega arith);
}
step first zero day low before false e = let later : day <ℤ first 1 = above (first 1) day e in absurd (omega (arith, signed_arith))
step first (suc n) day low before false e =
    let rest = before (omega arith) in record {
      some = rest.some;
      most = omega (arith, rest.most);
      begun = rest.begun;
      ahead = λ j lt le. elim (cases_order j (suc (suc n))) [
        | inl same ↦ rw same (above (first (suc (suc n))) day e)
        | inr (inl below) ↦ rest.ahead j lt (omega arith)
        | inr (inr over) ↦ absurd (omega arith)
      ];
    }

pub is_last : (first : ℕ → ℤ) (n : ℕ) (day : ℤ) → first 1 ≤ℤ day → 1 ≤ n → IsLastBegun first n day (last_begun first n day)
unfolding last_begun
is_last first zero day low some = absurd (omega arith)
is_last first (suc n) day low some = step first n day low (is_last first n day low) (int_le (first (suc n)) day) refl

-- ---- the day lies in its year and in its month

abbrev pub InYears : ℤ → Type 0
InYears day = (days_from_civil (pos 1) 1 1 ≤ℤ day) × (day ≤ℤ days_from_civil (pos 9999) 12 31)

years : (day : ℤ) → days_from_civil (pos 1) 1 1 ≤ℤ day → IsLastBegun (λ y. days_from_civil (pos y) 1 1) 9999 day (unsigned_abs (year day))
unfolding year
years day low = is_last (λ y. days_from_civil (pos y) 1 1) 9999 day low (omega arith)

year_pos : (day : ℤ) → year day ≡ pos (unsigned_abs (year day))
unfolding year
year_pos day = refl

pub year_begun : (day : ℤ) → InYears day → days_from_civil (year day) 1 1 ≤ℤ day
year_begun day h = rw (year_pos day) (years day h.0).begun

-- before the next year
in_year : (y : ℕ) (day : ℤ) → y ≤ 9999 → (y < 9999 → day <ℤ days_from_civil (pos (suc y)) 1 1) → day ≤ℤ days_from_civil (pos 9999) 12 31 → day <ℤ (days_from_civil (pos y) 1 1 +ℤ pos (days_in_year (pos y)))
in_year y day most ahead high = elim (cases_order y 9999) [
  | inl same ↦ rw same (omega (arith, signed_arith, days_from_civil-day_count (pos 9999) 1 1, days_from_civil-day_count (pos 9999) 12 31, day_count-last_of_year (pos 9999)))
  | inr (inl below) ↦
      let before : day <ℤ days_from_civil (pos (suc y)) 1 1 = ahead below in
      omega (arith, signed_arith, days_from_civil-day_count (pos y) 1 1, days_from_civil-day_count (pos (suc y)) 1 1, day_count-next_year (pos y) (pos (suc y)) (omega (arith, signed_arith)) (omega (arith, signed_arith)))
  | inr (inr over) ↦ absurd (omega arith)
]

year_holds : (day : ℤ) → InYears day → day <ℤ (days_from_civil (year day) 1 1 +ℤ pos (days_in_year (year day)))
year_holds day h =
    let last = years day h.0 in
    rw (year_pos day) (in_year (unsigned_abs (year day)) day last.most (λ lt. last.ahead (suc (unsigned_abs (year day))) (omega arith) (omega arith)) h.1)

pub months : (day : ℤ) → InYears day → IsLastBegun (λ m. days_from_civil (year day) m 1) 12 day (month day)
unfolding month
months day h = is_last (λ m. days_from_civil (year day) m 1) 12 day (year_begun day h) (omega arith)

-- before the next month
in_month : (y : ℤ) (m : ℕ) (day : ℤ) → 1 ≤ m → m ≤ 12 → (m < 12 → day <ℤ days_from_civil y (m + 1) 1) → day <ℤ (days_from_civil y 1 1 +ℤ pos (days_in_year y)) → day <ℤ (days_from_civil y m 1 +ℤ pos (days_in_month y m))
in_month y m day some most ahead high = elim (cases_order m 12) [
  | inl same ↦ rw same (omega (arith, signed_arith, days_from_civil-day_count y 1 1, days_from_civil-day_count y 12 1, day_count-day_of_year y 12 1 (omega arith), days_of_months_more y 12 (omega arith), days_of_months_all y))
  | inr (inl below) ↦
      let before : day <ℤ days_from_civil y (m + 1) 1 = ahead below in
      omega (arith, signed_arith, days_from_civil-day_count y m 1, days_from_civil-day_count y (m + 1) 1, day_count-next_month y m some)
  | inr (inr over) ↦ absurd (omega arith)
]

month_holds : (day : ℤ) → InYears day → day <ℤ (days_from_civil (year day) (month day) 1 +ℤ pos (days_in_month (year day) (month day)))
month_holds day h =
    let last = months day h in
    in_month (year day) (month day) day last.some last.most (λ lt. last.ahead (month day + 1) (omega arith) (omega arith)) (year_holds day h)

-- ---- the parts

on_day : (y : ℤ) (m : ℕ) (day : ℤ) → days_from_civil y m 1 ≤ℤ day → days_from_civil y m (unsigned_abs (day -ℤ days_from_civil y m 1) + 1) ≡ day
on_day y m day h =
    let d = unsigned_abs (day -ℤ days_from_civil y m 1) + 1 in
    omega (arith, signed_arith, one_part (day -ℤ days_from_civil y m 1), days_from_civil-day_count y m 1, days_from_civil-day_count y m d, day_count-day y m d 1 (omega arith) (omega arith))

pub of_parts : (day : ℤ) → days_from_civil (pos 1) 1 1 ≤ℤ day → day ≤ℤ days_from_civil (pos 9999) 12 31 → days_from_civil (year day) (month day) (day_of_month day) ≡ day
unfolding day_of_month
of_parts day low high = on_day (year day) (month day) day (months day (low, high)).begun

pub in_years : (day : ℤ) → days_from_civil (pos 1) 1 1 ≤ℤ day → day ≤ℤ days_from_civil (pos 9999) 12 31 → (pos 1 ≤ℤ year day) × (year day ≤ℤ pos 9999)
in_years day low high =
    let last = years day low in
    let from_one : pos 1 ≤ℤ pos (unsigned_abs (year day)) = omega (arith, signed_arith, last.some) in
    let to_last : pos (unsigned_abs (year day)) ≤ℤ pos 9999 = omega (arith, signed_arith, last.most) in
    rw (year_pos day) (from_one, to_last)

pub in_months : (day : ℤ) → days_from_civil (pos 1) 1 1 ≤ℤ day → day ≤ℤ days_from_civil (pos 9999) 12 31 → (1 ≤ month day) × (month day ≤ 12)
in_months day low high = let last = months day (low, high) in (last.some, last.most)

pub in_days : (day : ℤ) → days_from_civil (pos 1) 1 1 ≤ℤ day → day ≤ℤ days_from_civil (pos 9999) 12 31 → (1 ≤ day_of_month day) × (day_of_month day ≤ days_in_month (year day) (month day))
unfolding day_of_month
in_days day low high =
    let begun = (months day (low, high)).begun in
    let holds = month_holds day (low, high) in
    (omega arith, omega (arith, signed_arith, one_part (day -ℤ days_from_civil (year day) (month day) 1), begun, holds))
