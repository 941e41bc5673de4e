use Rattle.value_laws.proofs.DateParts as law
use Rattle.value_laws.proofs.calendar.parts_of_a_date.Goals as goal

pub returns : goal.returns
returns c = law.parts_are
