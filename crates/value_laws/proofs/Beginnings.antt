-- The beginning of the unit that a date lies in.
use Rattle.std.proofs.Common.{◌≡◌, ◌⊎◌, ℕ, ◌-◌, ◌*◌, ◌<◌, ◌≤◌, inl, inr, true, refl, ap, ◌∙◌, arith, ℤ, pos, neg_ℤ, ◌+ℤ◌, ◌-ℤ◌, ◌*ℤ◌, ◌<ℤ◌, ◌≤ℤ◌}
use Rattle.std.specs.Int.{int_div_euclid}
use Rattle.std.proofs.lemmas.Int.{ints, by_lt_z}
use Rattle.std.proofs.lemmas.Bool.{cases_order}
use Rattle.jiff_core.specs.Calendar.{days_from_civil, IsCivilDate}
use Rattle.jiff_core.proofs.SignedLemmas.{signed_arith, int_div_euclid-parts}
use Rattle.jiff_core.proofs.CalendarLemmas.{days_from_civil-day_count, days_in_month_bounds, days_of_months_mono, day_count-day_of_year, day_count-next_year, day_count-last_of_year, day_count-end, day_count-lt_year}
use Rattle.bson_value.specs.declared.unit.Unit.{Unit as DateUnit}
use Rattle.bson_value.specs.declared.unit.Unit.TheVariants as U
use Rattle.bson_value.specs.Calendar.{is_date, day_number, midnight, year, month, quarter, sunday_week, beginning, unit_number}
use Rattle.value_laws.proofs.DayParts.{InYears, year_begun, months, in_years, in_months}
use Rattle.value_laws.proofs.DateParts.{parts_are}
use Rattle.value_laws.proofs.IsoParts.{day_count-one}

bounds : (ms : ℤ) → is_date ms ≡ true → (neg_ℤ (pos 62_135_596_800_000) ≤ℤ ms) × (ms ≤ℤ pos 253_402_300_799_999)
bounds ms h = grind (arith, ints)

first_day : days_from_civil (pos 1) 1 1 ≡ neg_ℤ (pos 719_162)
first_day = omega (arith, signed_arith, days_from_civil-day_count (pos 1) 1 1, day_count-one)

last_day : days_from_civil (pos 9999) 12 31 ≡ pos 2_932_896
last_day = omega (arith, signed_arith, days_from_civil-day_count (pos 9999) 12 31, day_count-last_of_year (pos 9999), day_count-next_year (pos 9999) (pos 10000) (omega (arith, signed_arith)) refl, day_count-end)

days : (ms : ℤ) → is_date ms ≡ true → InYears (day_number ms)
days ms h =
    let b = bounds ms h in
    let low : neg_ℤ (pos 719_162) ≤ℤ day_number ms = omega (arith, signed_arith, b.0) in
    let high : day_number ms ≤ℤ pos 2_932_896 = omega (arith, signed_arith, b.1) in
    (rw first_day low, rw last_day high)

midnight_day : (d : ℤ) → day_number (midnight d) ≡ d
midnight_day d = omega (arith, signed_arith)

midnight_low : (ms d : ℤ) → d ≤ℤ day_number ms → midnight d ≤ℤ ms
midnight_low ms d h = omega (arith, signed_arith)

before_midnight : (ms d : ℤ) → ms <ℤ midnight d → day_number ms <ℤ d
before_midnight ms d h = omega (arith, signed_arith)

-- ---- months and quarters

month_later : (y : ℤ) (m n : ℕ) → 1 ≤ m → m ≤ n → days_from_civil y m 1 ≤ℤ days_from_civil y n 1
month_later y m n some h =
    omega (arith, signed_arith, days_from_civil-day_count y m 1, days_from_civil-day_count y n 1, day_count-day_of_year y m 1 (omega arith), day_count-day_of_year y n 1 (omega arith), days_of_months_mono y (m - 1) (n - 1) (omega arith))

first_of_month : (y : ℤ) (m : ℕ) → pos 1 ≤ℤ y → y ≤ℤ pos 9999 → 1 ≤ m → m ≤ 12 → IsCivilDate y m 1
first_of_month y m low high some most = ((omega (arith, signed_arith), high), (some, most), (omega arith, omega (arith, days_in_month_bounds y m)))

-- a day before the first of a month is of an earlier year or month
parts_before : (y : ℤ) (m : ℕ) (day : ℤ) → pos 1 ≤ℤ y → y ≤ℤ pos 9999 → 1 ≤ m → m ≤ 12 → InYears day → day <ℤ days_from_civil y m 1 → (year day <ℤ y) ⊎ ((year day ≡ y) × (month day < m))
parts_before y m day low high some most h lt =
    by_lt_z (year day) y (λ earlier. inl earlier)
    (λ le. by_lt_z y (year day)
    (λ later. absurd (omega (arith, signed_arith, days_from_civil-day_count y m 1, days_from_civil-day_count (year day) 1 1, year_begun day h, day_count-lt_year y m 1 (year day) 1 1 (first_of_month y m low high some most) (omega arith) later)))
    (λ ge. let same : year day ≡ y = omega (arith, signed_arith) in inr (same, month_before same)))
  where
    month_before : year day ≡ y → month day < m
    month_before same = elim (cases_order (month day) m) [
      | inl e ↦ let begun : days_from_civil y m 1 ≤ℤ day = rw (same, e) at (months day h).begun in absurd (omega (arith, signed_arith))
      | inr (inl below) ↦ below
      | inr (inr over) ↦
          let begun : days_from_civil y (month day) 1 ≤ℤ day = rw same at (months day h).begun in
          absurd (omega (arith, signed_arith, month_later y m (month day) some (omega arith)))
    ]

-- ---- not later

pub not_later : (unit : DateUnit) (ms : ℤ) → is_date ms ≡ true → beginning unit ms ≤ℤ ms
not_later U.Year ms h = midnight_low ms _ (year_begun (day_number ms) (days ms h))
not_later U.Quarter ms h =
    let y = year (day_number ms) in
    let m = month (day_number ms) in
    let last = months (day_number ms) (days ms h) in
    midnight_low ms (days_from_civil y (3 * quarter m - 2) 1) (omega (arith, signed_arith, last.begun, month_later y (3 * quarter m - 2) m (omega (arith, last.some)) (omega (arith, last.some))))
not_later U.Month ms h = midnight_low ms _ (months (day_number ms) (days ms h)).begun
not_later U.Week ms h = midnight_low ms (sunday_week (day_number ms) *ℤ pos 7 -ℤ pos 4) (omega (arith, signed_arith))
not_later U.Day ms h = midnight_low ms (day_number ms) (omega (arith, signed_arith))
not_later U.Hour ms h = omega (arith, signed_arith, int_div_euclid-parts ms 3_600_000 (omega arith))
not_later U.Minute ms h = omega (arith, signed_arith, int_div_euclid-parts ms 60_000 (omega arith))
not_later U.Second ms h = omega (arith, signed_arith, int_div_euclid-parts ms 1_000 (omega arith))
not_later U.Millisecond ms h = omega (arith, signed_arith)

-- ---- the same unit

year_same : (y : ℤ) → pos 1 ≤ℤ y → y ≤ℤ pos 9999 → year (days_from_civil y 1 1) ≡ y
year_same y low high = (parts_are y 1 1 low (first_of_month y 1 low high (omega arith) (omega arith))).0

month_same : (y : ℤ) (m : ℕ) → pos 1 ≤ℤ y → y ≤ℤ pos 9999 → 1 ≤ m → m ≤ 12 → year (days_from_civil y m 1) *ℤ pos 12 +ℤ pos (month (days_from_civil y m 1)) ≡ y *ℤ pos 12 +ℤ pos m
month_same y m low high some most =
    let parts = parts_are y m 1 low (first_of_month y m low high some most) in rw (parts.0, parts.1) refl

quarter_same : (y : ℤ) (m : ℕ) → pos 1 ≤ℤ y → y ≤ℤ pos 9999 → 1 ≤ m → m ≤ 12
    → year (days_from_civil y (3 * quarter m - 2) 1) *ℤ pos 4 +ℤ pos (quarter (month (days_from_civil y (3 * quarter m - 2) 1))) ≡ y *ℤ pos 4 +ℤ pos (quarter m)
quarter_same y m low high some most =
    let parts = parts_are y (3 * quarter m - 2) 1 low (first_of_month y (3 * quarter m - 2) low high (omega arith) (omega arith)) in
    rw (parts.0, parts.1) (ap (λ (q : ℕ). y *ℤ pos 4 +ℤ pos q) (omega arith))

pub same_unit : (unit : DateUnit) (ms : ℤ) → is_date ms ≡ true → unit_number unit (beginning unit ms) ≡ unit_number unit ms
same_unit U.Year ms h =
    let y = in_years (day_number ms) (days ms h).0 (days ms h).1 in
    ap year (midnight_day _) ∙ year_same (year (day_number ms)) y.0 y.1
same_unit U.Quarter ms h =
    let y = in_years (day_number ms) (days ms h).0 (days ms h).1 in
    let m = in_months (day_number ms) (days ms h).0 (days ms h).1 in
    ap (λ (d : ℤ). year d *ℤ pos 4 +ℤ pos (quarter (month d))) (midnight_day _) ∙ quarter_same (year (day_number ms)) (month (day_number ms)) y.0 y.1 m.0 m.1
same_unit U.Month ms h =
    let y = in_years (day_number ms) (days ms h).0 (days ms h).1 in
    let m = in_months (day_number ms) (days ms h).0 (days ms h).1 in
    ap (λ (d : ℤ). year d *ℤ pos 12 +ℤ pos (month d)) (midnight_day _) ∙ month_same (year (day_number ms)) (month (day_number ms)) y.0 y.1 m.0 m.1
same_unit U.Week ms h = ap sunday_week (midnight_day (sunday_week (day_number ms) *ℤ pos 7 -ℤ pos 4)) ∙ whole (sunday_week (day_number ms))
  where
    whole : (w : ℤ) → sunday_week (w *ℤ pos 7 -ℤ pos 4) ≡ w
    whole w = omega (arith, signed_arith)
same_unit U.Day ms h = midnight_day (day_number ms)
same_unit U.Hour ms h = whole (int_div_euclid ms (pos 3_600_000))
  where
    whole : (q : ℤ) → int_div_euclid (q *ℤ pos 3_600_000) (pos 3_600_000) ≡ q
    whole q = omega (arith, signed_arith)
same_unit U.Minute ms h = whole (int_div_euclid ms (pos 60_000))
  where
    whole : (q : ℤ) → int_div_euclid (q *ℤ pos 60_000) (pos 60_000) ≡ q
    whole q = omega (arith, signed_arith)
same_unit U.Second ms h = whole (int_div_euclid ms (pos 1_000))
  where
    whole : (q : ℤ) → int_div_euclid (q *ℤ pos 1_000) (pos 1_000) ≡ q
    whole q = omega (arith, signed_arith)
same_unit U.Millisecond ms h = refl

-- ---- the first of its unit

below_month : (y : ℤ) (m : ℕ) (y₂ : ℤ) (m₂ : ℕ) → 1 ≤ m → m₂ ≤ 12 → (y₂ <ℤ y) ⊎ ((y₂ ≡ y) × (m₂ < m)) → (y₂ *ℤ pos 12 +ℤ pos m₂) <ℤ (y *ℤ pos 12 +ℤ pos m)
below_month y m y₂ m₂ some most (inl lt) = omega (arith, signed_arith)
below_month y m y₂ m₂ some most (inr (same, lt)) = rw same (omega (arith, signed_arith))

below_quarter : (y : ℤ) (m : ℕ) (y₂ : ℤ) (m₂ : ℕ) → 1 ≤ m → m₂ ≤ 12 → (y₂ <ℤ y) ⊎ ((y₂ ≡ y) × (m₂ < 3 * quarter m - 2)) → (y₂ *ℤ pos 4 +ℤ pos (quarter m₂)) <ℤ (y *ℤ pos 4 +ℤ pos (quarter m))
below_quarter y m y₂ m₂ some most (inl lt) = omega (arith, signed_arith)
below_quarter y m y₂ m₂ some most (inr (same, lt)) = rw same (omega (arith, signed_arith))

below_year : (y : ℤ) (day : ℤ) → (year day <ℤ y) ⊎ ((year day ≡ y) × (month day < 1)) → 1 ≤ month day → year day <ℤ y
below_year y day (inl lt) some = lt
below_year y day (inr (same, lt)) some = absurd (omega arith)

pub first : (unit : DateUnit) (ms before : ℤ) → is_date ms ≡ true → is_date before ≡ true → before <ℤ beginning unit ms → unit_number unit before <ℤ unit_number unit ms
first U.Year ms before h k lt =
    let y = in_years (day_number ms) (days ms h).0 (days ms h).1 in
    let m = in_months (day_number before) (days before k).0 (days before k).1 in
    below_year (year (day_number ms)) (day_number before) (parts_before (year (day_number ms)) 1 (day_number before) y.0 y.1 (omega arith) (omega arith) (days before k) (before_midnight before _ lt)) m.0
first U.Quarter ms before h k lt =
    let y = in_years (day_number ms) (days ms h).0 (days ms h).1 in
    let m = in_months (day_number ms) (days ms h).0 (days ms h).1 in
    let n = in_months (day_number before) (days before k).0 (days before k).1 in
    below_quarter (year (day_number ms)) (month (day_number ms)) (year (day_number before)) (month (day_number before)) m.0 n.1
    (parts_before (year (day_number ms)) (3 * quarter (month (day_number ms)) - 2) (day_number before) y.0 y.1 (omega (arith, m.0)) (omega (arith, m.1)) (days before k) (before_midnight before _ lt))
first U.Month ms before h k lt =
    let y = in_years (day_number ms) (days ms h).0 (days ms h).1 in
    let m = in_months (day_number ms) (days ms h).0 (days ms h).1 in
    let n = in_months (day_number before) (days before k).0 (days before k).1 in
    below_month (year (day_number ms)) (month (day_number ms)) (year (day_number before)) (month (day_number before)) m.0 n.1
    (parts_before (year (day_number ms)) (month (day_number ms)) (day_number before) y.0 y.1 m.0 m.1 (days before k) (before_midnight before _ lt))
first U.Week ms before h k lt =
    let earlier : day_number before <ℤ (sunday_week (day_number ms) *ℤ pos 7 -ℤ pos 4) = before_midnight before _ lt in
    week_before (day_number before) (sunday_week (day_number ms)) earlier
  where
    week_before : (d w : ℤ) → d <ℤ (w *ℤ pos 7 -ℤ pos 4) → sunday_week d <ℤ w
    week_before d w e = omega (arith, signed_arith)
first U.Day ms before h k lt = before_midnight before (day_number ms) lt
first U.Hour ms before h k lt = earlier (int_div_euclid ms (pos 3_600_000)) lt
  where
    earlier : (q : ℤ) → before <ℤ (q *ℤ pos 3_600_000) → int_div_euclid before (pos 3_600_000) <ℤ q
    earlier q e = omega (arith, signed_arith)
first U.Minute ms before h k lt = earlier (int_div_euclid ms (pos 60_000)) lt
  where
    earlier : (q : ℤ) → before <ℤ (q *ℤ pos 60_000) → int_div_euclid before (pos 60_000) <ℤ q
    earlier q e = omega (arith, signed_arith)
first U.Second ms before h k lt = earlier (int_div_euclid ms (pos 1_000)) lt
  where
    earlier : (q : ℤ) → before <ℤ (q *ℤ pos 1_000) → int_div_euclid before (pos 1_000) <ℤ q
    earlier q e = omega (arith, signed_arith)
first U.Millisecond ms before h k lt = lt
