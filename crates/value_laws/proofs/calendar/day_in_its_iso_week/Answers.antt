use Rattle.value_laws.proofs.IsoParts as law
use Rattle.value_laws.proofs.calendar.day_in_its_iso_week.Goals as goal

pub returns-clause-day : goal.returns-clause-day
returns-clause-day c = law.day_is

pub returns-clause-weeks : goal.returns-clause-weeks
returns-clause-weeks c = law.weeks_are
