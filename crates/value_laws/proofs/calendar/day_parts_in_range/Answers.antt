use Rattle.value_laws.proofs.DayParts as law
use Rattle.value_laws.proofs.calendar.day_parts_in_range.Goals as goal

pub returns-clause-years : goal.returns-clause-years
returns-clause-years c = law.in_years

pub returns-clause-months : goal.returns-clause-months
returns-clause-months c = law.in_months

pub returns-clause-days : goal.returns-clause-days
returns-clause-days c = law.in_days
