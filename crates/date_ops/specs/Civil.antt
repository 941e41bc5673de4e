-- A day number and the library's date of that day.
use Rattle.std.specs.Prelude.{◌≡◌, ◌-◌, ℤ, pos, ◌+ℤ◌, ◌*ℤ◌, ◌≤ℤ◌, neg_ℤ}
use Rattle.jiff_core.specs.declared.civil.date.Date.{Date}
use Rattle.jiff_core.specs.Date.{epoch_day, ordinal}
use Rattle.bson_value.specs.Calendar as C

-- the date has this day number, of the years from 1 on, and its parts are those of the number
pub record IsCivil (number : ℤ) (d : Date) : Type 0 where
  pub same_day : epoch_day d ≡ number
  pub from_year_one : neg_ℤ (pos 719_162) ≤ℤ number
  pub same_year : C.year number ≡ d.year
  pub same_month : C.month number ≡ d.month
  pub same_day_of_month : C.day_of_month number ≡ d.day
  pub same_day_of_year : C.day_of_year number ≡ ordinal d

-- the number of the date's month, from January of the year 0
abbrev pub month_number_of : Date → ℤ
month_number_of d = d.year *ℤ pos 12 +ℤ pos (d.month - 1)
