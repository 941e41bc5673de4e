use Rattle.value_laws.proofs.InTurn as law
use Rattle.value_laws.proofs.operands.all_are_held.Goals as goal

pub returns : goal.returns
returns g c = law.held
