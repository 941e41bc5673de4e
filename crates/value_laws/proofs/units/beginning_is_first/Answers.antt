use Rattle.value_laws.proofs.Beginnings as law
use Rattle.value_laws.proofs.units.beginning_is_first.Goals as goal

pub returns : goal.returns
returns c = law.first
