-- The ISO year and week of a day.
use Rattle.std.proofs.Common.{◌≡◌, ℕ, suc, ◌+◌, ◌-◌, ◌*◌, ◌/◌, ◌%◌, ◌<◌, ◌≤◌, inl, inr, refl, ap, ◌∙◌, arith, rules, ℤ, pos, ◌+ℤ◌, ◌-ℤ◌, ◌<ℤ◌, ◌≤ℤ◌, unsigned_abs}
use Rattle.std.proofs.lemmas.Bool.{cases_order}
use Rattle.jiff_core.specs.Calendar.{day_count, days_from_civil, weekday_number, iso_year_start, IsYear}
use Rattle.jiff_core.proofs.SignedLemmas.{signed_arith, one_part}
use Rattle.jiff_core.proofs.MarchLemmas.{day_count-early}
use Rattle.jiff_core.proofs.CalendarLemmas.{days_from_civil-day_count, day_count-next_year, day_count-last_of_year, day_count-end, weekday_number_bound, weekday_number-add}
use Rattle.jiff_core.proofs.IsoWeekLemmas.{weeks_in_year-next, iso_year_start-day_count, iso_year_start-end, day_count-fourth}
use Rattle.bson_value.specs.Calendar.{iso_year, iso_week}
use Rattle.value_laws.proofs.DayParts.{IsLastBegun, is_last}

-- 0001-01-01 is a Monday
pub day_count-one : day_count (pos 1) 1 1 ≡ 3_652_791
day_count-one = day_count-early (pos 1) 10000 1 1 refl (omega arith) (omega arith) (omega arith)

first_start : iso_year_start (pos 1) ≤ℤ days_from_civil (pos 1) 1 1
first_start =
    omega (arith, signed_arith, days_from_civil-day_count (pos 1) 1 1, iso_year_start-day_count (pos 1) (search rules), day_count-fourth (pos 1) (search rules), day_count-one)

years : (day : ℤ) → days_from_civil (pos 1) 1 1 ≤ℤ day → IsLastBegun (λ y. iso_year_start (pos y)) 9999 day (unsigned_abs (iso_year day))
unfolding iso_year
years day low = is_last (λ y. iso_year_start (pos y)) 9999 day (omega (arith, signed_arith, first_start)) (omega arith)

year_pos : (day : ℤ) → iso_year day ≡ pos (unsigned_abs (iso_year day))
unfolding iso_year
year_pos day = refl

pub begun : (day : ℤ) → days_from_civil (pos 1) 1 1 ≤ℤ day → day ≤ℤ days_from_civil (pos 9999) 12 31 → iso_year_start (iso_year day) ≤ℤ day
begun day low high = rw (year_pos day) (years day low).begun

before_next : (y : ℕ) (day : ℤ) → y ≤ 9999 → (y < 9999 → day <ℤ iso_year_start (pos (suc y))) → day ≤ℤ days_from_civil (pos 9999) 12 31 → day <ℤ iso_year_start (pos y +ℤ pos 1)
before_next y day most ahead high = elim (cases_order y 9999) [
  | inl same ↦
      let next : pos 9999 +ℤ pos 1 ≡ pos 10000 = refl in
      rw (same, next, iso_year_start-end) (omega (arith, signed_arith, days_from_civil-day_count (pos 9999) 12 31, day_count-last_of_year (pos 9999), day_count-next_year (pos 9999) (pos 10000) (omega (arith, signed_arith)) refl, day_count-end))
  | inr (inl below) ↦ let next : pos y +ℤ pos 1 ≡ pos (suc y) = omega (arith, signed_arith) in rw next (ahead below)
  | inr (inr over) ↦ absurd (omega arith)
]

pub ends : (day : ℤ) → days_from_civil (pos 1) 1 1 ≤ℤ day → day ≤ℤ days_from_civil (pos 9999) 12 31 → day <ℤ iso_year_start (iso_year day +ℤ pos 1)
ends day low high =
    let last = years day low in
    rw (year_pos day) (before_next (unsigned_abs (iso_year day)) day last.most (λ lt. last.ahead (suc (unsigned_abs (iso_year day))) (omega arith) (omega arith)) high)

-- an ISO year begins with a Monday
monday : (y : ℤ) → weekday_number (iso_year_start y) ≡ 0
monday y =
    let fourth = days_from_civil y 1 4 in
    omega (arith, weekday_number-add (iso_year_start y) fourth (weekday_number fourth) (omega (arith, signed_arith)), weekday_number_bound fourth, weekday_number_bound (iso_year_start y))

in_week : (start day : ℤ) → start ≤ℤ day → weekday_number start ≡ 0 → start +ℤ pos (7 * (unsigned_abs (day -ℤ start) / 7 + 1 - 1) + weekday_number day) ≡ day
in_week start day low first =
    let k = unsigned_abs (day -ℤ start) in
    let later : day ≡ start +ℤ pos k = omega (arith, signed_arith, one_part (day -ℤ start)) in
    let number : weekday_number day ≡ k % 7 = weekday_number-add start day k later ∙ ap (λ (m : ℕ). m % 7) (omega (arith, first)) in
    rw number (omega (arith, signed_arith, later))

pub day_is : (day : ℤ) → days_from_civil (pos 1) 1 1 ≤ℤ day → day ≤ℤ days_from_civil (pos 9999) 12 31 → iso_year_start (iso_year day) +ℤ pos (7 * (iso_week day - 1) + weekday_number day) ≡ day
unfolding iso_week
day_is day low high = in_week (iso_year_start (iso_year day)) day (begun day low high) (monday (iso_year day))

in_weeks : (y day : ℤ) → IsYear y → iso_year_start y ≤ℤ day → day <ℤ iso_year_start (y +ℤ pos 1) → unsigned_abs (day -ℤ iso_year_start y) / 7 + 1 ≤ 53
in_weeks y day year low high =
    let weeks = weeks_in_year-next y (y +ℤ pos 1) year refl in
    omega (arith, signed_arith, weeks.0, weeks.2, one_part (day -ℤ iso_year_start y))

is_year : (day : ℤ) → days_from_civil (pos 1) 1 1 ≤ℤ day → IsYear (iso_year day)
is_year day low =
    let last = years day low in
    let year : IsYear (pos (unsigned_abs (iso_year day))) = (omega (arith, signed_arith), omega (arith, signed_arith, last.most)) in
    rw (year_pos day) year

pub weeks_are : (day : ℤ) → days_from_civil (pos 1) 1 1 ≤ℤ day → day ≤ℤ days_from_civil (pos 9999) 12 31 → (1 ≤ iso_week day) × (iso_week day ≤ 53)
unfolding iso_week
weeks_are day low high = (omega arith, in_weeks (iso_year day) day (is_year day low) (begun day low high) (ends day low high))
