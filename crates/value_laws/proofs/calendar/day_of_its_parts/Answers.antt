use Rattle.value_laws.proofs.DayParts as law
use Rattle.value_laws.proofs.calendar.day_of_its_parts.Goals as goal

pub returns : goal.returns
returns c = law.of_parts
