use Rattle.value_laws.proofs.FirstParts as law
use Rattle.value_laws.proofs.sorting.sort_value_of_none.Goals as goal

pub returns : goal.returns
returns c = law.of_none
