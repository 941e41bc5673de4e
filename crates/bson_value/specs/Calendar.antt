-- The UTC calendar of date expressions (the manual, Date Expression Operators). A date is a number of milliseconds
-- since 1970, and a day has a number, 0 for 1 January 1970. The calendar is the proleptic Gregorian one. Weeks that
-- are counted within a year are those of ISO 8601: they begin on Monday, and a year's first week is that of 4 January.
-- The unit `week` begins on Sunday.
use Rattle.std.specs.Prelude.{ℕ, zero, suc, ◌+◌, ◌-◌, ◌*◌, ◌/◌, ◌%◌, min, Bool, ◌&&◌, if◌then◌else◌, ℤ, pos, neg_ℤ, ◌+ℤ◌, ◌-ℤ◌, ◌*ℤ◌, int_le, unsigned_abs, Result, Ok, Err}
use Rattle.std.specs.Int.{int_div_euclid, int_rem_euclid}
use Rattle.jiff_core.specs.Calendar.{days_from_civil, days_in_month, weekday_number, iso_year_start}
use Rattle.bson_value.specs.declared.eval_code.EvalCode.{EvalCode}
use Rattle.bson_value.specs.declared.eval_code.EvalCode.TheVariants.{DateRange}
use Rattle.bson_value.specs.declared.part.Part.{Part}
use Rattle.bson_value.specs.declared.part.Part.TheVariants as P
use Rattle.bson_value.specs.declared.unit.Unit.{Unit as DateUnit}
use Rattle.bson_value.specs.declared.unit.Unit.TheVariants as U

-- a date of the years 1 to 9999
abbrev pub is_date : ℤ → Bool
is_date ms = int_le (neg_ℤ (pos 62_135_596_800_000)) ms && int_le ms (pos 253_402_300_799_999)

-- such a date, or the code where it is outside
abbrev pub dated : ℤ → Result ℤ EvalCode
dated ms = if is_date ms then Ok ms else Err DateRange

-- ---- days and the time of day

-- the day of a date, rounded down
abbrev pub day_number : ℤ → ℤ
day_number ms = int_div_euclid ms (pos 86_400_000)

-- the milliseconds since the day began
abbrev pub since_midnight : ℤ → ℕ
since_midnight ms = unsigned_abs (int_rem_euclid ms (pos 86_400_000))

-- the date with which a day begins
abbrev pub midnight : ℤ → ℤ
midnight day = day *ℤ pos 86_400_000

-- ---- the parts of a day number

-- of n periods, counted from 1 and each with its first day, the last that has begun by a day; 0 where none has
unfoldable pub last_begun : (ℕ → ℤ) → ℕ → ℤ → ℕ
last_begun first zero day = 0
last_begun first (suc n) day = if int_le (first (suc n)) day then suc n else last_begun first n day

-- the year
unfoldable pub year : ℤ → ℤ
year day = pos (last_begun (λ y. days_from_civil (pos y) 1 1) 9999 day)

-- the month of the year, from 1
unfoldable pub month : ℤ → ℕ
month day = last_begun (λ m. days_from_civil (year day) m 1) 12 day

-- the day of the month, from 1
unfoldable pub day_of_month : ℤ → ℕ
day_of_month day = unsigned_abs (day -ℤ days_from_civil (year day) (month day) 1) + 1

-- the day of the year, from 1
unfoldable pub day_of_year : ℤ → ℕ
day_of_year day = unsigned_abs (day -ℤ days_from_civil (year day) 1 1) + 1

-- the ISO year: the last whose first week has begun
unfoldable pub iso_year : ℤ → ℤ
iso_year day = pos (last_begun (λ y. iso_year_start (pos y)) 9999 day)

-- the week of the ISO year, from 1
unfoldable pub iso_week : ℤ → ℕ
iso_week day = unsigned_abs (day -ℤ iso_year_start (iso_year day)) / 7 + 1

-- the quarter that a month lies in, from 1
abbrev pub quarter : ℕ → ℕ
quarter m = (m + 2) / 3

-- the day number of the first day of a month's quarter
abbrev pub first_of_quarter : ℤ → ℕ → ℤ
first_of_quarter y m = days_from_civil y (3 * quarter m - 2) 1

-- the weeks from Sunday are numbered too: week 0 has day 0, and it began on Sunday, 28 December 1969, four days before
abbrev pub sunday_week : ℤ → ℤ
sunday_week day = int_div_euclid (day +ℤ pos 4) (pos 7)

-- the months are numbered from January of the year 0
abbrev pub month_number : ℤ → ℤ
month_number day = year day *ℤ pos 12 +ℤ pos (month day - 1)

-- ---- `$year` to `$millisecond`

abbrev pub part_of : Part → ℤ → ℤ
part_of P.Year ms = year (day_number ms)
part_of P.Month ms = pos (month (day_number ms))
part_of P.DayOfMonth ms = pos (day_of_month (day_number ms))
part_of P.DayOfYear ms = pos (day_of_year (day_number ms))
part_of P.DayOfWeek ms = pos ((weekday_number (day_number ms) + 1) % 7 + 1)
part_of P.IsoDayOfWeek ms = pos (weekday_number (day_number ms) + 1)
part_of P.IsoWeek ms = pos (iso_week (day_number ms))
part_of P.IsoWeekYear ms = iso_year (day_number ms)
part_of P.Hour ms = pos (since_midnight ms / 3_600_000)
part_of P.Minute ms = pos (since_midnight ms / 60_000 % 60)
part_of P.Second ms = pos (since_midnight ms / 1_000 % 60)
part_of P.Millisecond ms = pos (since_midnight ms % 1_000)

-- a part of a date
abbrev pub part_at : Part → ℤ → Result ℤ EvalCode
part_at part ms = if is_date ms then Ok (part_of part ms) else Err DateRange

-- ---- `$dateAdd` and `$dateSubtract`

-- the day of a month that is given by its number; where the month is shorter, its last
abbrev pub day_in_month : ℤ → ℕ → ℤ
day_in_month number d =
    let y = int_div_euclid number (pos 12) in
    let m = unsigned_abs (int_rem_euclid number (pos 12)) + 1 in
    days_from_civil y m (min d (days_in_month y m))

-- a month of the years 1 to 9999
abbrev pub is_month : ℤ → Bool
is_month number = int_le (pos 12) number && int_le number (pos 119_999)

-- the same day of the month and time of day, some months later
abbrev pub months_later : ℤ → ℤ → Result ℤ EvalCode
months_later ms months =
    let number = month_number (day_number ms) +ℤ months in
    if is_month number
    then Ok (midnight (day_in_month number (day_of_month (day_number ms))) +ℤ pos (since_midnight ms))
    else Err DateRange

abbrev pub later : DateUnit → ℤ → ℤ → Result ℤ EvalCode
later U.Year ms n = months_later ms (n *ℤ pos 12)
later U.Quarter ms n = months_later ms (n *ℤ pos 3)
later U.Month ms n = months_later ms n
later U.Week ms n = dated (ms +ℤ n *ℤ pos 604_800_000)
later U.Day ms n = dated (ms +ℤ n *ℤ pos 86_400_000)
later U.Hour ms n = dated (ms +ℤ n *ℤ pos 3_600_000)
later U.Minute ms n = dated (ms +ℤ n *ℤ pos 60_000)
later U.Second ms n = dated (ms +ℤ n *ℤ pos 1_000)
later U.Millisecond ms n = dated (ms +ℤ n)

-- a date and n units more
abbrev pub add_at : DateUnit → ℤ → ℤ → Result ℤ EvalCode
add_at unit ms n = if is_date ms then later unit ms n else Err DateRange

-- ---- `$dateTrunc`

-- the date with which the unit begins that a date lies in
abbrev pub beginning : DateUnit → ℤ → ℤ
beginning U.Year ms = midnight (days_from_civil (year (day_number ms)) 1 1)
beginning U.Quarter ms = midnight (first_of_quarter (year (day_number ms)) (month (day_number ms)))
beginning U.Month ms = midnight (days_from_civil (year (day_number ms)) (month (day_number ms)) 1)
beginning U.Week ms = midnight (sunday_week (day_number ms) *ℤ pos 7 -ℤ pos 4)
beginning U.Day ms = midnight (day_number ms)
beginning U.Hour ms = int_div_euclid ms (pos 3_600_000) *ℤ pos 3_600_000
beginning U.Minute ms = int_div_euclid ms (pos 60_000) *ℤ pos 60_000
beginning U.Second ms = int_div_euclid ms (pos 1_000) *ℤ pos 1_000
beginning U.Millisecond ms = ms

-- a date truncated to its unit; the week of the first days of the year 1 begins in the year 0
abbrev pub trunc_at : DateUnit → ℤ → Result ℤ EvalCode
trunc_at unit ms = if is_date ms then dated (beginning unit ms) else Err DateRange

-- ---- `$dateDiff`

-- the units are numbered in order of time: this is the number of the one that a date lies in
abbrev pub unit_number : DateUnit → ℤ → ℤ
unit_number U.Year ms = year (day_number ms)
unit_number U.Quarter ms = year (day_number ms) *ℤ pos 4 +ℤ pos (quarter (month (day_number ms)))
unit_number U.Month ms = year (day_number ms) *ℤ pos 12 +ℤ pos (month (day_number ms))
unit_number U.Week ms = sunday_week (day_number ms)
unit_number U.Day ms = day_number ms
unit_number U.Hour ms = int_div_euclid ms (pos 3_600_000)
unit_number U.Minute ms = int_div_euclid ms (pos 60_000)
unit_number U.Second ms = int_div_euclid ms (pos 1_000)
unit_number U.Millisecond ms = ms

-- the boundaries between units that are crossed from the first date to the second
abbrev pub diff_at : DateUnit → ℤ → ℤ → Result ℤ EvalCode
diff_at unit first second =
    if is_date first && is_date second then Ok (unit_number unit second -ℤ unit_number unit first)
    else Err DateRange
