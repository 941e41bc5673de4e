use Rattle.value_laws.proofs.InTurn as law
use Rattle.value_laws.proofs.operands.none_stands.Goals as goal

pub returns : goal.returns
returns g c = law.none
