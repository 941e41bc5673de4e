use Rattle.value_laws.proofs.IsoParts as law
use Rattle.value_laws.proofs.calendar.day_in_its_iso_year.Goals as goal

pub returns-clause-begun : goal.returns-clause-begun
returns-clause-begun c = law.begun

pub returns-clause-ends : goal.returns-clause-ends
returns-clause-ends c = law.ends
