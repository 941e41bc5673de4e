use Rattle.value_laws.proofs.Members as law
use Rattle.value_laws.proofs.sets.set_has_each_value.Goals as goal

pub returns : goal.returns
returns c = law.each_value
