-- The ISO year and week of a day number are those of the week date with that number.
use Rattle.std.proofs.Common.{◌≡◌, ℕ, zero, suc, ◌-◌, ◌<◌, ◌≤◌, ℤ, pos, negsuc, neg_ℤ, ◌+ℤ◌, ◌-ℤ◌, ◌≤ℤ◌, ◌<ℤ◌, refl, ap, arith, rules}
use Rattle.std.proofs.lemmas.Int.{by_lt_z}
use borrow.Author.Differences.{up, down}
use Rattle.jiff_core.specs.declared.civil.iso_week_date.ISOWeekDate.{ISOWeekDate}
use Rattle.jiff_core.specs.declared.civil.weekday.Weekday.{Weekday}
use Rattle.jiff_core.specs.declared.civil.weekday.Weekday.TheVariants.{Monday, Tuesday, Wednesday, Thursday, Friday, Saturday, Sunday}
use Rattle.jiff_core.specs.Calendar.{iso_year_start, IsYear}
use Rattle.jiff_core.specs.IsoWeek.{days_from_iso}
use Rattle.jiff_core.specs.IsoWeekDate.{iso_epoch_day}
use Rattle.jiff_core.specs.Weekday.{monday_zero}
use Rattle.jiff_core.proofs.SignedLemmas.{signed_arith, one_part}
use Rattle.jiff_core.proofs.IsoWeekLemmas.{weeks_in_year-next, iso_year_start-day_count, day_count-fourth}
use Rattle.bson_value.specs.Calendar.{iso_year, iso_week}
use Rattle.date_ops.proofs.Periods.{last_begun-is}
use Rattle.date_ops.proofs.CivilFacts.{day_count-first_year}

monday_zero_bound : (w : Weekday) → monday_zero w < 7
monday_zero_bound Monday = omega arith
monday_zero_bound Tuesday = omega arith
monday_zero_bound Wednesday = omega arith
monday_zero_bound Thursday = omega arith
monday_zero_bound Friday = omega arith
monday_zero_bound Saturday = omega arith
monday_zero_bound Sunday = omega arith

-- ISO years begin one after another
later_start : (y : ℤ) (k : ℕ) → neg_ℤ (pos 9999) ≤ℤ y → (y +ℤ pos k) ≤ℤ pos 10000 → iso_year_start y ≤ℤ iso_year_start (y +ℤ pos k)
later_start y zero low high = let same : y +ℤ pos 0 ≡ y = omega (arith, signed_arith) in rw same (omega (arith, signed_arith))
later_start y (suc k) low high =
    let year : IsYear (y +ℤ pos k) = omega (arith, signed_arith) in
    let next : y +ℤ pos (suc k) ≡ y +ℤ pos k +ℤ pos 1 = omega (arith, signed_arith) in
    omega (arith, signed_arith, later_start y k low (omega (arith, signed_arith)), (weeks_in_year-next (y +ℤ pos k) (y +ℤ pos (suc k)) year next).0)

-- 0001-01-01 is a Monday
iso_year_start-first : iso_year_start (pos 1) ≡ neg_ℤ (pos 719_162)
iso_year_start-first =
    omega (arith, signed_arith, iso_year_start-day_count (pos 1) (search rules), day_count-fourth (pos 1) (search rules), day_count-first_year)

-- a week date lies in its ISO year
in_its_year : (w : ISOWeekDate) → (iso_year_start w.year ≤ℤ iso_epoch_day w) × (iso_epoch_day w <ℤ iso_year_start (w.year +ℤ pos 1))
unfolding days_from_iso
in_its_year w =
    let weeks = (weeks_in_year-next w.year _ w.year_in refl).0 in
    (omega (arith, signed_arith), omega (arith, signed_arith, weeks, monday_zero_bound w.weekday, w.week_in))

-- from 1 January of the year 1 on, with which the ISO year 1 begins
positive_year : (w : ISOWeekDate) → neg_ℤ (pos 719_162) ≤ℤ iso_epoch_day w → pos 1 ≤ℤ w.year
positive_year w h =
    by_lt_z w.year (pos 1)
    (λ lt. let k = down w.year - up w.year in
    let one : w.year +ℤ pos 1 +ℤ pos k ≡ pos 1 = omega (arith, signed_arith) in
    let begins = rw (one, iso_year_start-first) at (later_start (w.year +ℤ pos 1) k (omega (arith, signed_arith, w.year_in)) (omega (arith, signed_arith))) in
    absurd (omega (arith, signed_arith, in_its_year w)))
    (λ le. le)

iso_year-between : (y : ℕ) (day : ℤ) → 1 ≤ y → y ≤ 9999 → iso_year_start (pos y) ≤ℤ day → day <ℤ iso_year_start (pos y +ℤ pos 1) → iso_year day ≡ pos y
unfolding iso_year
iso_year-between y day low high begun ends =
    ap pos (last_begun-is (λ y. iso_year_start (pos y)) 9999 y day low high begun
    (λ j lt le. let next : pos y +ℤ pos 1 +ℤ pos (j - y - 1) ≡ pos j = omega (arith, signed_arith) in
    omega (arith, signed_arith, rw next at (later_start (pos y +ℤ pos 1) (j - y - 1) (omega (arith, signed_arith)) (omega (arith, signed_arith))))))

iso_year-of : (y day : ℤ) → IsYear y → pos 1 ≤ℤ y → iso_year_start y ≤ℤ day → day <ℤ iso_year_start (y +ℤ pos 1) → iso_year day ≡ y
iso_year-of (pos y) day year low begun ends = iso_year-between y day (omega (arith, signed_arith)) (omega (arith, signed_arith, year)) begun ends
iso_year-of (negsuc y) day year low begun ends = absurd (omega (arith, signed_arith))

pub iso_year-is : (w : ISOWeekDate) (day : ℤ) → iso_epoch_day w ≡ day → neg_ℤ (pos 719_162) ≤ℤ day → iso_year day ≡ w.year
iso_year-is w day same low =
    let within = in_its_year w in
    rw (← same) (iso_year-of w.year (iso_epoch_day w) w.year_in (positive_year w (rw same low)) within.0 within.1)

pub iso_week-is : (w : ISOWeekDate) (day : ℤ) → iso_epoch_day w ≡ day → neg_ℤ (pos 719_162) ≤ℤ day → iso_week day ≡ w.week
unfolding iso_week days_from_iso
iso_week-is w day same low =
    let start = iso_year_start w.year in
    rw (iso_year-is w day same low) (omega (arith, signed_arith, one_part (day -ℤ start), monday_zero_bound w.weekday, w.week_in))
