-- The parts of a day number are those of the civil date with that number.
use Rattle.std.proofs.Common.{◌≡◌, ℕ, ◌≤◌, ℤ, pos, negsuc, neg_ℤ, ◌-ℤ◌, ◌≤ℤ◌, refl, ap, arith}
use Rattle.std.proofs.lemmas.Int.{by_lt_z}
use Rattle.jiff_core.specs.declared.civil.date.Date.{Date}
use Rattle.jiff_core.specs.Calendar.{day_count, days_from_civil, IsCivilDate, day_of_year as place_in_year}
use Rattle.jiff_core.specs.Date.{epoch_day}
use Rattle.jiff_core.proofs.SignedLemmas.{signed_arith, one_part}
use Rattle.jiff_core.proofs.CalendarLemmas.{days_from_civil-day_count, day_count-day_of_year, day_count-lt_year, day_count-lt_month, day_count-day}
use Rattle.jiff_core.proofs.MarchLemmas.{day_count-early}
use Rattle.jiff_core.proofs.DateLemmas.{civil}
use Rattle.bson_value.specs.Calendar.{year, month, day_of_month, day_of_year}
use Rattle.date_ops.specs.Civil.{IsCivil}
use Rattle.date_ops.proofs.Periods.{last_begun-is}

pub year-is : (y m d : ℕ) → 1 ≤ y → IsCivilDate (pos y) m d → year (days_from_civil (pos y) m d) ≡ pos y
unfolding year
year-is y m d low h =
    let day = days_from_civil (pos y) m d in
    let begun : days_from_civil (pos y) 1 1 ≤ℤ day = omega (arith, signed_arith, days_from_civil-day_count, day_count-day_of_year (pos y) m d h.2.0, h.2.0) in
    let last : y ≤ 9999 = omega (arith, signed_arith, h.0.1) in
    ap pos (last_begun-is (λ y. days_from_civil (pos y) 1 1) 9999 y day low last begun
    (λ j lt le. omega (arith, signed_arith, days_from_civil-day_count, day_count-lt_year (pos y) m d (pos j) 1 1 h (omega arith) (omega (arith, signed_arith)))))

pub month-is : (y : ℤ) (m d : ℕ) → IsCivilDate y m d → year (days_from_civil y m d) ≡ y → month (days_from_civil y m d) ≡ m
unfolding month
month-is y m d h same =
    let day = days_from_civil y m d in
    let begun : days_from_civil y m 1 ≤ℤ day = omega (arith, signed_arith, days_from_civil-day_count, day_count-day y m d 1 h.2.0 (omega arith), h.2.0) in
    rw same (last_begun-is (λ m. days_from_civil y m 1) 12 m day h.1.0 h.1.1 begun
    (λ j lt le. omega (arith, signed_arith, days_from_civil-day_count, day_count-lt_month y m d j 1 h (omega arith) lt)))

pub day_of_month-is : (y : ℤ) (m d : ℕ) → IsCivilDate y m d → year (days_from_civil y m d) ≡ y → month (days_from_civil y m d) ≡ m → day_of_month (days_from_civil y m d) ≡ d
unfolding day_of_month
day_of_month-is y m d h same_year same_month =
    rw (same_year, same_month) (omega (arith, signed_arith, one_part (days_from_civil y m d -ℤ days_from_civil y m 1), days_from_civil-day_count, day_count-day y m d 1 h.2.0 (omega arith), h.2.0))

pub day_of_year-is : (y : ℤ) (m d : ℕ) → IsCivilDate y m d → year (days_from_civil y m d) ≡ y → day_of_year (days_from_civil y m d) ≡ place_in_year y m d
unfolding day_of_year
day_of_year-is y m d h same_year =
    rw same_year (omega (arith, signed_arith, one_part (days_from_civil y m d -ℤ days_from_civil y 1 1), days_from_civil-day_count, day_count-day_of_year y m d h.2.0, h.2.0))

pub day_count-first_year : day_count (pos 1) 1 1 ≡ 3_652_791
day_count-first_year = day_count-early (pos 1) 10000 1 1 refl (omega arith) (omega arith) (omega arith)

-- from 1 January of the year 1 on
pub after_christ : (d : Date) → neg_ℤ (pos 719_162) ≤ℤ epoch_day d → pos 1 ≤ℤ d.year
after_christ d h =
    by_lt_z d.year (pos 1)
    (λ lt. absurd (omega (arith, signed_arith, days_from_civil-day_count, day_count-first_year, day_count-lt_year d.year d.month d.day (pos 1) 1 1 (civil d) (omega arith) lt)))
    (λ le. le)

year-of : (y : ℤ) (m d : ℕ) → pos 1 ≤ℤ y → IsCivilDate y m d → year (days_from_civil y m d) ≡ y
year-of (pos y) m d low h = year-is y m d (omega (arith, signed_arith)) h
year-of (negsuc y) m d low h = absurd (omega (arith, signed_arith))

pub IsCivil-is : (d : Date) → neg_ℤ (pos 719_162) ≤ℤ epoch_day d → IsCivil (epoch_day d) d
IsCivil-is d h =
    let low = after_christ d h in
    let same_year = year-of d.year d.month d.day low (civil d) in
    let same_month = month-is d.year d.month d.day (civil d) same_year in
    record {
      same_day = refl;
      from_year_one = h;
      same_year = same_year;
      same_month = same_month;
      same_day_of_month = day_of_month-is d.year d.month d.day (civil d) same_year same_month;
      same_day_of_year = day_of_year-is d.year d.month d.day (civil d) same_year;
    }
