use Rattle.value_laws.proofs.Beginnings as law
use Rattle.value_laws.proofs.units.beginning_is_in_unit.Goals as goal

pub returns-clause-not_later : goal.returns-clause-not_later
returns-clause-not_later c = law.not_later

pub returns-clause-same : goal.returns-clause-same
returns-clause-same c = law.same_unit
