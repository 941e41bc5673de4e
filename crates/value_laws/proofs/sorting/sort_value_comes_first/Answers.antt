use Rattle.value_laws.proofs.FirstParts as law
use Rattle.value_laws.proofs.sorting.sort_value_comes_first.Goals as goal

pub returns : goal.returns
returns c = law.comes_first
